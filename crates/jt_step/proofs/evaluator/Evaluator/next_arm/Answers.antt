-- The arm whose condition is read and holds begins, or the last part; else one frame is pushed, and what it does with the condition's value is what follows.
use Rattle.std.proofs.Common.{◌+◌, arith, refl}
use Rattle.jt_program.specs.View.{plan_of}
use Rattle.jt_meaning.specs.Meaning.{go, run_choices}
use Rattle.jt_step.specs.Stack.{choices_in, choices_weight, does, weight}
use Rattle.jt_step.proofs.AtOnce.{arm_taken, arm_fails, does_part}
use Rattle.jt_step.proofs.Moves.{pushes_from, does_from, does_fault}
use Rattle.jt_step.proofs.Plans.{arm-of}
use Rattle.jt_step.proofs.evaluator.Evaluator.next_arm.Goals as goal

pub returns-in-None : goal.returns-in-None
returns-in-None c = λ program. does_from program _ _ _ _ (run_choices program (go program) (choices_in c.arms.arms.now) (does program (plan_of c.args.otherwise.now))) _ (choices_weight (choices_in c.arms.arms.now) + weight (plan_of c.args.otherwise.now) + 1) _ c.arms.invariant.kept (does_part program _ _ _ _ (λ rs. rw c.in-None.ensures) (rw c.in-None.ensures (omega arith))) (c.arms.invariant.same program) (omega (arith, c.arms.invariant.less))

pub returns-in-None-2 : goal.returns-in-None-2
returns-in-None-2 c = λ program. pushes_from program _ _ _ _ _ (run_choices program (go program) (choices_in c.arms.arms.now) (does program (plan_of c.args.otherwise.now))) _ (choices_weight (choices_in c.arms.arms.now) + weight (plan_of c.args.otherwise.now) + 1) _ c.arms.invariant.kept c.in_ok-push-in-None-2.ensures.items (λ rs. refl) refl (λ s. rw (c.in-Some.ensures, arm-of)) (rw (c.in-Some.ensures, arm-of) (omega arith)) (c.arms.invariant.same program) (omega (arith, c.arms.invariant.less))

pub returns-in-Some-true : goal.returns-in-Some-true
returns-in-Some-true c = λ program. let reads = rw c.in-Some-2.is at c.in_ok-read-in-Some.ensures in does_from program _ _ _ _ (run_choices program (go program) (choices_in c.arms.arms.now) (does program (plan_of c.args.otherwise.now))) _ (choices_weight (choices_in c.arms.arms.now) + weight (plan_of c.args.otherwise.now) + 1) _ c.arms.invariant.kept (does_part program _ _ _ _ (λ rs. arm_taken program c.in-Some.arm.now _ _ _ _ _ c.in-Some.ensures (reads program rs) (rw c.in-Some-true.field-0-test at c.in-Some-true.ensures)) (rw (c.in-Some.ensures, arm-of) (omega arith))) (c.arms.invariant.same program) (omega (arith, c.arms.invariant.less))

pub returns-in-None-truth : goal.returns-in-None-truth
returns-in-None-truth c = λ program. let reads = rw c.in-Some-2.is at c.in_ok-read-in-Some.ensures in does_from program _ _ _ _ (run_choices program (go program) (choices_in c.arms.arms.now) (does program (plan_of c.args.otherwise.now))) _ (choices_weight (choices_in c.arms.arms.now) + weight (plan_of c.args.otherwise.now) + 1) _ c.arms.invariant.kept (does_fault program _ _ _ _ (λ rs. arm_fails program c.in-Some.arm.now _ _ _ _ _ c.in-Some.ensures (reads program rs) c.in-None-truth.ensures) (rw c.in-Some.ensures (omega arith))) (c.arms.invariant.same program) (omega (arith, c.arms.invariant.less))
