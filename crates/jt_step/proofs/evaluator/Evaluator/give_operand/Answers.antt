-- The operator's value is the first operand of those that are left.
use Rattle.std.proofs.Common.{arith}
use Rattle.jt_step.proofs.Moves.{gives_by, gives_fault}
use Rattle.jt_step.proofs.evaluator.Evaluator.give_operand.Goals as goal

pub returns-in-Ok : goal.returns-in-Ok
returns-in-Ok c = λ program. gives_by program _ _ _ _ _ _ _ (c.in_ok-next_operand-in-Ok.ensures program) (λ s. rw (← c.in-Ok.ensures)) (omega arith)

pub returns : goal.returns
returns c = λ program. gives_fault program _ _ _ _ (λ s. rw (← c.in-Err.ensures))
