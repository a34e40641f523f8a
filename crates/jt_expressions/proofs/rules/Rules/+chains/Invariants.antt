use Rattle.std.proofs.Common.{◌≡◌, ◌+◌, ◌-◌, [], map}
use Rattle.jt_syntax.specs.View.{term_view}
use Rattle.jt_grammar.specs.Reader.{terms_from}
use Rattle.jt_expressions.specs.Chains.{tighter_than}
use Rattle.jt_expressions.specs.Nested.{nested}
use Rattle.jt_expressions.proofs.Chains.{height}
use Rattle.jt_expressions.proofs.rules.Rules.+chains.Given as goal

abbrev pub decreases-chain : goal.decreases-chain
decreases-chain g l = height l.class + 2

abbrev pub decreases-terms : goal.decreases-terms
decreases-terms g l = height l.class + 1

abbrev pub decreases-tighter : goal.decreases-tighter
decreases-tighter g l = height l.class

abbrev pub invariant-terms-loop-turn : goal.invariant-terms-loop-turn
invariant-terms-loop-turn g l =
    terms_from l.class (nested tighter_than l.self.turns l.self.depth l.class) l.self.turns [] l.fn.tokens
    ≡ terms_from l.class (nested tighter_than l.self.turns l.self.depth l.class) (l._turn-end - l._turn) (map term_view l.found) l.tokens
