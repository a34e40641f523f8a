use Rattle.std.proofs.Common.{◌≡◌, ◌-◌, [], ◌∷◌}
use Rattle.jt_grammar.specs.Reader.{commas_from, word}
use Rattle.jt_parser.proofs.top.TopRules.more_names.Given as goal

abbrev pub invariant-loop-turn : goal.invariant-loop-turn
invariant-loop-turn l =
    commas_from word [] (λ i is. i ∷ is) l.self.turns l.fn.found l.fn.tokens
    ≡ commas_from word [] (λ i is. i ∷ is) (l._turn-end - l._turn) l.found l.tokens
