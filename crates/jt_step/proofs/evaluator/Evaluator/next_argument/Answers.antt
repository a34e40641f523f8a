-- What can be read is taken at once; else one frame is pushed, and what it does with the part's value is what follows.
use Rattle.std.proofs.Common.{◌+◌, ◌∙◌, arith, refl}
use Rattle.jt_program.specs.View.{plan_of, plans}
use Rattle.jt_meaning.specs.Meaning.{go, run_arguments}
use Rattle.jt_step.specs.Stack.{plans_weight}
use Rattle.jt_step.proofs.Moves.{pushes_from, does_from, enters}
use Rattle.jt_step.proofs.Known.{argument_read, plans_fewer, reads_at}
use Rattle.jt_step.proofs.Syncs.{calls_built_in}
use Rattle.jt_step.proofs.evaluator.Evaluator.next_argument.Goals as goal

pub arguments-preserved : goal.arguments-preserved
arguments-preserved c = let reads = rw c.in-Some-2.is at c.in_ok-read-in-Some.ensures in record {
  kept = c.arguments.invariant.kept;
  same = λ program rs. rw c.in_ok-push-in-Some-2.ensures.ok (argument_read program _ _ _ _ _ _ _ c.in-Some.ensures (reads_at program _ _ (plan_of c.in-Some.e.now) _ c.arguments.invariant.kept (reads program) rs) ∙ c.arguments.invariant.same program rs);
  less = omega (arith, plans_fewer _ _ _ c.in-Some.ensures, c.arguments.invariant.less);
}

pub returns-in-None-2 : goal.returns-in-None-2
returns-in-None-2 c = λ program. pushes_from program _ _ _ _ _ (run_arguments program (go program) _ c.arguments.vs (plans c.arguments.es.now)) _ (plans_weight (plans c.arguments.es.now) + 1) _ c.arguments.invariant.kept c.in_ok-push-in-None-2.ensures.items (λ rs. refl) refl (λ s. rw c.in-Some.ensures) (rw c.in-Some.ensures (omega arith)) (c.arguments.invariant.same program) (omega (arith, c.arguments.invariant.less))

pub returns-in-Function : goal.returns-in-Function
returns-in-Function c = λ program. does_from program _ _ _ _ (run_arguments program (go program) _ c.arguments.vs (plans c.arguments.es.now)) _ (plans_weight (plans c.arguments.es.now) + 1) _ c.arguments.invariant.kept (enters program _ _ _ _ _ c.in-Function.is c.in-None.ensures) (c.arguments.invariant.same program) (omega (arith, c.arguments.invariant.less))

pub returns-in-BuiltIn : goal.returns-in-BuiltIn
returns-in-BuiltIn c = λ program. does_from program _ _ _ _ (run_arguments program (go program) _ c.arguments.vs (plans c.arguments.es.now)) _ (plans_weight (plans c.arguments.es.now) + 1) _ c.arguments.invariant.kept (calls_built_in program _ _ c.in-BuiltIn.function c.arguments.vs c.arguments.es.now _ c.in-BuiltIn.is c.in-None.ensures (rw c.as_slice.ensures at c.in_ok-call_built_in-in-BuiltIn.ensures)) (c.arguments.invariant.same program) (omega (arith, c.arguments.invariant.less))
