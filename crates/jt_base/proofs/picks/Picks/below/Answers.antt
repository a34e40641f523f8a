use Rattle.std.proofs.Common.{◌%◌, ◌∙◌, ap}
use Rattle.jt_base.specs.Picks.{next_seed, mix64}
use Rattle.jt_base.proofs.PicksLemmas.{word_is, seed_is}
use Rattle.jt_base.proofs.picks.Picks.below.Goals as goal

pub returns-clause-value : goal.returns-clause-value
returns-clause-value c =
    ap (λ m. c.next_word.result % m) c.from.ensures
    ∙ ap (λ word. word % c.args.n) (word_is _ _ _ c.next_word.ensures ∙ ap (λ s. mix64 (next_seed s)) c.self.view_is)

pub returns-clause-moved : goal.returns-clause-moved
returns-clause-moved c = seed_is _ c.next_word.result _ c.next_word.ensures ∙ ap next_seed c.self.view_is
