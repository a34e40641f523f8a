use Rattle.std.proofs.Common.{◌≡◌, ◌-◌, [], ◌∷◌, map}
use Rattle.jt_syntax.specs.View.{top_view}
use Rattle.jt_grammar.specs.Reader.{list_from, read_top}
use Rattle.jt_parser.proofs.top.tops.Given as goal

abbrev pub invariant-loop-turn : goal.invariant-loop-turn
invariant-loop-turn l =
    list_from l.turns (read_top l.turns l.depth) [] (λ x xs. x ∷ xs) l.turns [] l.fn.tokens
    ≡ list_from l.turns (read_top l.turns l.depth) [] (λ x xs. x ∷ xs) (l.turns - l._turn) (map top_view l.found) l.tokens
