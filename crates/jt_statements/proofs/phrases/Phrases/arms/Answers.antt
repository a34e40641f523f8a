use Rattle.std.proofs.Common.{subst}
use Rattle.jt_grammar.specs.Reader.{Outcome, read, read_step}
use Rattle.jt_syntax.specs.Tree.{Arms}
use Rattle.jt_statements.specs.Arms.{others_view}
use Rattle.jt_cursor.specs.Parses.{Parses}
use Rattle.jt_statements.proofs.Arms.{arms_start}
use Rattle.jt_statements.proofs.phrases.Phrases.arms.Goals as goal

pub returns : goal.returns
returns g c =
    let t = c.args.self.now.rules.turns in
    let d = c.args.self.now.rules.depth in
    subst (λ (o : Outcome Arms). Parses others_view o c.arms_from.result c.arms_from.new.tokens) (arms_start t d (read t d) (read_step t d) t c.args.tokens.now) c.arms_from.ensures
