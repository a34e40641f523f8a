-- The frame that is taken off is handed the end of its part.
use Rattle.std.proofs.Common.{refl}
use Rattle.jt_step.proofs.Resumes.{hands}
use Rattle.jt_step.proofs.evaluator.Evaluator.next_turn.Goals as goal

pub returns-in_ok-mode-in-Some : goal.returns-in_ok-mode-in-Some
returns-in_ok-mode-in-Some c = λ program. hands program _ _ _ _ _ _ _ c.in-Some.ensures.items (λ fs s. refl) (λ rs. refl) refl refl (c.in_ok-mode-in-Some.ensures program)
