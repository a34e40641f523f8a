-- What a branch gives is what the part gives that it comes to.
use Rattle.std.proofs.Common.{sym, ◌∙◌}
use Rattle.jt_program.specs.View.{plan_of}
use Rattle.jt_meaning.specs.Meaning.{go, run_choices}
use Rattle.jt_step.specs.Stack.{choices_in, does, state_of}
use Rattle.jt_step.proofs.AtOnce.{arm_taken, read_too}
use Rattle.jt_step.proofs.evaluator.Evaluator.+read.Goals as goal

pub read_branch-returns-in-None : goal.read_branch-returns-in-None
read_branch-returns-in-None t c =
    read_too c.read_within.result c.args.self.now (λ program. does program (plan_of c.args.otherwise.now)) (λ program. run_choices program (go program) (choices_in c.args.arms.now) (does program (plan_of c.args.otherwise.now)))
    (λ program rs. sym (c.arms.invariant program rs) ∙ rw c.in-None.ensures)
    c.read_within.ensures

pub read_branch-returns-in-Some-true : goal.read_branch-returns-in-Some-true
read_branch-returns-in-Some-true t c =
    let reads = rw c.in-Some-2.is at c.in_ok-v-in-Some.ensures in
    read_too c.read_within-in-Some-true.result c.args.self.now (λ program. does program (plan_of c.in-Some.arm.now.body)) (λ program. run_choices program (go program) (choices_in c.args.arms.now) (does program (plan_of c.args.otherwise.now)))
    (λ program rs. sym (c.arms.invariant program rs) ∙ sym (arm_taken program c.in-Some.arm.now _ (does program (plan_of c.args.otherwise.now)) _ _ (state_of c.args.self.now rs) c.in-Some.ensures (reads program rs) (rw c.in-Some-true.field-0-test at c.in-Some-true.ensures)))
    c.read_within-in-Some-true.ensures
