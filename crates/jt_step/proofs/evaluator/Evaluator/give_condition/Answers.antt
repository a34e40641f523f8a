-- An arm whose condition doesn't hold gives way to the next one.
use Rattle.std.proofs.Common.{arith}
use Rattle.jt_step.proofs.Moves.{gives_by}
use Rattle.jt_step.proofs.evaluator.Evaluator.give_condition.Goals as goal

pub returns-in-Flag : goal.returns-in-Flag
returns-in-Flag c =
    λ program. gives_by program _ _ _ _ _ _ _ (c.in_ok-next_arm-in-Flag.ensures program) (λ s. rw (← c.v.view_is, c.in-Flag.is, c.if-holds.false)) (omega arith)
