-- A comparison that holds goes on with the next one.
use Rattle.std.proofs.Common.{arith}
use Rattle.jt_step.proofs.Moves.{gives_by, gives_value, gives_fault}
use Rattle.jt_step.proofs.evaluator.Evaluator.give_compared.Goals as goal

pub returns-in-Some-true : goal.returns-in-Some-true
returns-in-Some-true c = λ program. gives_by program _ _ _ _ _ _ _ (c.in_ok-next_comparison-in-Some-true.ensures program) (λ s. rw (← c.in-Some-true.ensures, c.in-Some-true.field-0-test)) (omega arith)

pub returns-in-Some-false : goal.returns-in-Some-false
returns-in-Some-false c = λ program. gives_value program _ _ _ _ (λ s. rw (← c.in-Some-false.ensures, c.in-Some-false.field-0-test))

pub returns : goal.returns
returns c = λ program. gives_fault program _ _ _ _ (λ s. rw (← c.in-None.ensures))
