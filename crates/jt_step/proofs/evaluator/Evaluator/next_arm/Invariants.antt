-- The arms that are left do what all of them do.
use Rattle.std.proofs.Common.{◌≡◌, ◌≤◌, List, length}
use Rattle.jt_base.specs.declared.operation.Reply.{Reply}
use Rattle.jt_program.specs.Plan.{ProgramPlan}
use Rattle.jt_program.specs.View.{plan_of}
use Rattle.jt_meaning.specs.Meaning.{go, run_choices}
use Rattle.jt_step.specs.Stack.{choices_in, choices_weight, does, state_of}
use Rattle.jt_step.proofs.evaluator.Evaluator.next_arm.Given as goal

abbrev pub invariant-arms : goal.invariant-arms
invariant-arms l = record {
  kept : l.self ≡ l.fn.self;
  same : (program : ProgramPlan) (rs : List Reply) → run_choices program (go program) (choices_in l.arms) (does program (plan_of l.fn.otherwise)) (state_of l.fn.self rs) ≡ run_choices program (go program) (choices_in l.fn.arms) (does program (plan_of l.fn.otherwise)) (state_of l.fn.self rs);
  less : choices_weight (choices_in l.arms) ≤ choices_weight (choices_in l.fn.arms);
}

abbrev pub decreases-arms : goal.decreases-arms
decreases-arms l = length l.arms
