-- What can be read is taken at once; else one frame is pushed, and what it does with the part's value is what follows.
use Rattle.std.proofs.Common.{◌+◌, ◌∙◌, arith, refl}
use Rattle.jt_program.specs.View.{plan_of}
use Rattle.jt_step.specs.Stack.{does_operands, operands_in, operands_weight}
use Rattle.jt_step.proofs.Moves.{pushes_from, does_from, does_value, does_fault}
use Rattle.jt_step.proofs.Known.{operand_read, operand_fails, operands_fewer, reads_at}
use Rattle.jt_step.proofs.Weights.{operands_least}
use Rattle.jt_step.proofs.evaluator.Evaluator.next_operand.Goals as goal

pub operands-preserved : goal.operands-preserved
operands-preserved c = let reads = rw c.in-Some-2.is at c.in_ok-read-in-Some.ensures in record {
  kept = c.operands.invariant.kept;
  same = λ program rs. operand_read program _ _ _ _ _ _ _ c.in-Some.ensures (reads_at program _ _ (plan_of c.in-Some.first.now.1) _ c.operands.invariant.kept (reads program) rs) c.in-Ok.ensures ∙ c.operands.invariant.same program rs;
  less = omega (arith, operands_fewer _ _ _ c.in-Some.ensures, c.operands.invariant.less);
}

pub returns-in-None : goal.returns-in-None
returns-in-None c = λ program. does_from program _ _ _ _ (does_operands program c.operands.v (operands_in c.operands.es.now)) _ (operands_weight (operands_in c.operands.es.now) + 1) _ c.operands.invariant.kept (does_value program _ _ _ _ (λ rs. rw c.in-None.ensures) (omega (arith, operands_least (operands_in c.operands.es.now)))) (c.operands.invariant.same program) (omega (arith, c.operands.invariant.less))

pub returns-in-None-2 : goal.returns-in-None-2
returns-in-None-2 c = λ program. pushes_from program _ _ _ _ _ (does_operands program c.operands.v (operands_in c.operands.es.now)) _ (operands_weight (operands_in c.operands.es.now) + 1) _ c.operands.invariant.kept c.in_ok-push-in-None-2.ensures.items (λ rs. refl) refl (λ s. rw c.in-Some.ensures) (rw c.in-Some.ensures (omega arith)) (c.operands.invariant.same program) (omega (arith, c.operands.invariant.less))

pub returns-in-Err : goal.returns-in-Err
returns-in-Err c = λ program. let reads = rw c.in-Some-2.is at c.in_ok-read-in-Some.ensures in does_from program _ _ _ _ (does_operands program c.operands.v (operands_in c.operands.es.now)) _ (operands_weight (operands_in c.operands.es.now) + 1) _ c.operands.invariant.kept (does_fault program _ _ _ _ (λ rs. operand_fails program _ _ _ _ _ _ _ c.in-Some.ensures (reads program rs) c.in-Err.ensures) (omega (arith, operands_least (operands_in c.operands.es.now)))) (c.operands.invariant.same program) (omega (arith, c.operands.invariant.less))
