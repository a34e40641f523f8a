use Rattle.std.proofs.Common.{◌∙◌, ap}
use Rattle.jt_rng.specs.Words.{after_fork, child_words, forked, nonzero}
use Rattle.jt_rng.proofs.GeneratorLemmas.{after_fork-words, forked-words}
use Rattle.jt_rng.proofs.StreamLemmas.{child_along, fork_along}
use Rattle.jt_rng.proofs.stream.TaskRng.fork.Goals as goal

pub returns-clause-child : goal.returns-clause-child
returns-clause-child c =
    forked-words _ _ _ _ _ c.self.invariant.four c.self.view_is
    (c.generator_of.ensures.value ∙ ap nonzero (c.child_words.ensures ∙ ap child_words c.words-words.ensures))
    c.next_fork_word-self-inside.ensures

pub returns-clause-parent : goal.returns-clause-parent
returns-clause-parent c =
    after_fork-words _ _ _ _ c.self.invariant.four c.self.view_is c.next_fork_word-self-inside.ensures

pub returns-clause-along : goal.returns-clause-along
returns-clause-along c seeds path d f e =
    (returns-clause-child c ∙ ap forked e ∙ child_along seeds path d f, returns-clause-parent c ∙ ap after_fork e ∙ fork_along seeds path d f)
