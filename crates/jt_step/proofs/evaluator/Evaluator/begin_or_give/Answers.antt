-- What is read is given to the frame, and otherwise the frame is pushed.
use Rattle.jt_step.proofs.Moves.{reads_to}
use Rattle.jt_step.proofs.evaluator.Evaluator.begin_or_give.Goals as goal

pub returns-in_ok-give_to-in-Some : goal.returns-in_ok-give_to-in-Some
returns-in_ok-give_to-in-Some c = λ program. reads_to program _ _ _ _ _ _ (c.in_ok-give_to-in-Some.ensures program) ((rw c.in-Some.is at c.in_ok-v.ensures) program)
