-- The texts up to the next value are in the line.
use Rattle.std.proofs.Common.{refl, arith}
use Rattle.jt_step.proofs.Moves.{pushes}
use Rattle.jt_step.proofs.evaluator.Evaluator.next_piece.Goals as goal

pub returns-in_ok-push-in-Some : goal.returns-in_ok-push-in-Some
returns-in_ok-push-in-Some c =
    let w = rw c.in-Some.is at c.in_ok-e.ensures.lighter in
    λ program. pushes program _ _ _ _ _ _ c.in_ok-push-in-Some.ensures.items (λ rs. refl) refl (λ s. rw c.in-Some.is at (c.in_ok-e.ensures.same program s)) (omega (arith, w))
