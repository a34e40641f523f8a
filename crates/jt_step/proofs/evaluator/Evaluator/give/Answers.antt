-- A frame is taken off and has the value.
use Rattle.std.proofs.Common.{refl}
use Rattle.jt_step.proofs.Resumes.{hands}
use Rattle.jt_step.proofs.evaluator.Evaluator.give.Goals as goal

pub returns-in_ok-give_to-in-Some : goal.returns-in_ok-give_to-in-Some
returns-in_ok-give_to-in-Some c = λ program. hands program _ _ _ _ _ _ _ c.in-Some.ensures.items (λ fs s. refl) (λ rs. refl) refl refl (c.in_ok-give_to-in-Some.ensures program)
