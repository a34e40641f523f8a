-- Each move does what the mode before it does.
use Rattle.jt_step.proofs.Begins.{call_refuses, loop_refuses}
use Rattle.jt_step.proofs.evaluator.Evaluator.step.Goals as goal

pub returns-in_ok-mode-in-Eval : goal.returns-in_ok-mode-in-Eval
returns-in_ok-mode-in-Eval c = rw c.in-Eval.is (c.in_ok-mode-in-Eval.ensures)

pub returns-in_ok-mode-in-Gave : goal.returns-in_ok-mode-in-Gave
returns-in_ok-mode-in-Gave c = rw c.in-Gave.is (c.in_ok-mode-in-Gave.ensures _)

pub returns-in_ok-return_value-in-Returned : goal.returns-in_ok-return_value-in-Returned
returns-in_ok-return_value-in-Returned c = rw c.in-Returned.is (c.in_ok-return_value-in-Returned.ensures _)

pub returns-in-Broke : goal.returns-in-Broke
returns-in-Broke c = rw c.in-Broke.is (c.leave_loop.ensures _)

pub returns-in_ok-mode-in-Continued : goal.returns-in_ok-mode-in-Continued
returns-in_ok-mode-in-Continued c = rw c.in-Continued.is (c.in_ok-mode-in-Continued.ensures _)

pub returns-in_ok-fail-in-Faulted : goal.returns-in_ok-fail-in-Faulted
returns-in_ok-fail-in-Faulted c = rw c.in-Faulted.is (c.in_ok-fail-in-Faulted.ensures _)

pub returns-in-Enter : goal.returns-in-Enter
returns-in-Enter c = rw (c.in-Enter.is, c.refusal.ensures) (call_refuses _ _ _ _ (rw c.in-Enter.is at c.requires))

pub returns-in-Again : goal.returns-in-Again
returns-in-Again c = rw c.in-Again.is (loop_refuses _ _ _ (rw c.in-Again.is at c.requires))
