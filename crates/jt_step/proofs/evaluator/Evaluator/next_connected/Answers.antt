-- One frame is pushed where the next operand can't be read, and what it does with the part's value is what follows.
use Rattle.std.proofs.Common.{◌+◌, arith, refl}
use Rattle.jt_program.specs.View.{plans}
use Rattle.jt_meaning.specs.Meaning.{go, run_connection}
use Rattle.jt_step.specs.Stack.{plans_weight}
use Rattle.jt_step.proofs.AtOnce.{connected_waits}
use Rattle.jt_step.proofs.Moves.{pushes_from}
use Rattle.jt_step.proofs.evaluator.Evaluator.next_connected.Goals as goal

pub returns-in-None-2 : goal.returns-in-None-2
returns-in-None-2 c = λ program. pushes_from program _ _ _ _ _ (run_connection program (go program) _ c.operands.v (plans c.operands.es.now)) _ (plans_weight (plans c.operands.es.now) + 1) _ c.operands.invariant.kept c.in_ok-push-in-None-2.ensures.items (λ rs. refl) refl (λ s. connected_waits program _ _ _ _ _ s c.in-Some.ensures (rw c.in-Some-true.field-0-test at c.in-Some-true.ensures)) (rw c.in-Some.ensures (omega arith)) (c.operands.invariant.same program) (omega (arith, c.operands.invariant.less))
