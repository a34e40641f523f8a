use Rattle.std.proofs.Common.{◌≡◌, ap, arith}
use Rattle.jt_grammar.specs.Reader.{read, read_step}
use Rattle.jt_cursor.proofs.Starts.{deeper}
use Rattle.jt_statements.proofs.read.+nesting.Goals as goal

pub read-returns-then-depth-eq0 : goal.read-returns-then-depth-eq0
unfolding read
read-returns-then-depth-eq0 t c = let none : c.args.depth ≡ 0 = omega arith in ap (λ n. read c.args.turns n c.args.level c.args.tokens.now) none

pub read-returns : goal.read-returns
unfolding read
read-returns t c = rw (deeper (λ n. read c.args.turns n c.args.level c.args.tokens.now) c.args.depth (omega arith)) (rw c.new.ensures at c.rule.ensures)

pub read_step-returns-then-depth-eq0 : goal.read_step-returns-then-depth-eq0
unfolding read_step
read_step-returns-then-depth-eq0 t c = let none : c.args.depth ≡ 0 = omega arith in ap (λ n. read_step c.args.turns n c.args.tokens.now) none

pub read_step-returns : goal.read_step-returns
unfolding read_step
read_step-returns t c = rw (deeper (λ n. read_step c.args.turns n c.args.tokens.now) c.args.depth (omega arith)) (rw c.new.ensures at c.stepped.ensures)
