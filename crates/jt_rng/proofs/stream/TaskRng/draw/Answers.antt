use Rattle.std.proofs.Common.{◌∙◌, ap}
use Rattle.jt_rng.proofs.GeneratorLemmas.{IsGenerator-step, output_of-step, next_state-step}
use Rattle.jt_rng.proofs.StreamLemmas.{draw_along, next_along}
use Rattle.jt_rng.specs.Words.{output_of, next_state}
use Rattle.jt_rng.proofs.stream.TaskRng.draw.Goals as goal

pub invariant_of-self : goal.invariant_of-self
invariant_of-self c = IsGenerator-step _ _ _ c.self.invariant c.next_word.ensures

pub returns-clause-value : goal.returns-clause-value
returns-clause-value c = output_of-step _ _ _ _ _ c.self.invariant.four c.self.view_is c.next_word.ensures

pub returns-clause-moved : goal.returns-clause-moved
returns-clause-moved c = next_state-step _ _ _ _ _ c.self.invariant.four c.self.view_is c.next_word.ensures

pub returns-clause-along : goal.returns-clause-along
returns-clause-along c seeds path d f e =
    (returns-clause-value c ∙ ap output_of e ∙ draw_along seeds path d f, returns-clause-moved c ∙ ap next_state e ∙ next_along seeds path d f)
