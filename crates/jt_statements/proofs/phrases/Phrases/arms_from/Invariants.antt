use Rattle.std.proofs.Common.{◌≡◌, ◌-◌, [], map}
use Rattle.jt_syntax.specs.View.{arm_view}
use Rattle.jt_grammar.specs.Reader.{arms_from}
use Rattle.jt_expressions.specs.Nested.{nested}
use Rattle.jt_statements.proofs.phrases.Phrases.arms_from.Given as goal

abbrev pub invariant-loop-turn : goal.invariant-loop-turn
invariant-loop-turn g l =
    nested arms_from l.self.rules.turns l.self.rules.depth l.self.rules.turns [] l.fn.tokens
    ≡ nested arms_from l.self.rules.turns l.self.rules.depth (l._turn-end - l._turn) (map arm_view l.arms) l.tokens
