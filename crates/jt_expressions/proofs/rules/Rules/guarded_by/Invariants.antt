use Rattle.std.proofs.Common.{◌≡◌, ◌-◌, [], map}
use Rattle.jt_syntax.specs.View.{term_view}
use Rattle.jt_grammar.specs.Reader.{guarded_from}
use Rattle.jt_expressions.specs.Chains.{tighter_than}
use Rattle.jt_expressions.specs.Nested.{nested}
use Rattle.jt_expressions.proofs.rules.Rules.guarded_by.Given as goal

abbrev pub invariant-loop-turn : goal.invariant-loop-turn
invariant-loop-turn g l =
    guarded_from l.class (nested tighter_than l.self.turns l.self.depth l.class) l.self.turns [] l.fn.tokens
    ≡ guarded_from l.class (nested tighter_than l.self.turns l.self.depth l.class) (l._turn-end - l._turn) (map term_view l.operands) l.tokens
