-- The arguments that are left do with the values so far what all of them do with the first ones.
use Rattle.std.proofs.Common.{◌≡◌, ◌≤◌, List, length}
use Rattle.jt_base.specs.declared.operation.Reply.{Reply}
use Rattle.jt_program.specs.Plan.{ProgramPlan}
use Rattle.jt_program.specs.View.{plans}
use Rattle.jt_meaning.specs.Meaning.{go, run_arguments}
use Rattle.jt_step.specs.Stack.{plans_weight, state_of}
use Rattle.jt_step.proofs.evaluator.Evaluator.next_argument.Given as goal

abbrev pub invariant-arguments : goal.invariant-arguments
invariant-arguments l = record {
  kept : l.self ≡ l.fn.self;
  same : (program : ProgramPlan) (rs : List Reply) → run_arguments program (go program) l.callee l.vs (plans l.es) (state_of l.fn.self rs) ≡ run_arguments program (go program) l.fn.callee l.fn.vs (plans l.fn.es) (state_of l.fn.self rs);
  less : plans_weight (plans l.es) ≤ plans_weight (plans l.fn.es);
}

abbrev pub decreases-arguments : goal.decreases-arguments
decreases-arguments l = length l.es
