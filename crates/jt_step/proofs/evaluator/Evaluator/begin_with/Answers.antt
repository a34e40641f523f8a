-- One frame is pushed, and what it does with the part's value is what follows.
use Rattle.std.proofs.Common.{arith, refl}
use Rattle.jt_step.proofs.Moves.{pushes}
use Rattle.jt_step.proofs.evaluator.Evaluator.begin_with.Goals as goal

pub returns : goal.returns
returns c = λ program. pushes program _ _ _ _ _ _ c.in_ok-push.ensures.items (λ rs. refl) refl (λ s. refl) ((omega arith))
