-- The operands that are left do with the last value what all of them do with the first one.
use Rattle.std.proofs.Common.{◌≡◌, ◌≤◌, List, length}
use Rattle.jt_base.specs.declared.operation.Reply.{Reply}
use Rattle.jt_program.specs.Plan.{ProgramPlan}
use Rattle.jt_program.specs.View.{plans}
use Rattle.jt_meaning.specs.Meaning.{go, run_connection}
use Rattle.jt_step.specs.Stack.{plans_weight, state_of}
use Rattle.jt_step.proofs.evaluator.Evaluator.next_connected.Given as goal

abbrev pub invariant-operands : goal.invariant-operands
invariant-operands l = record {
  kept : l.self ≡ l.fn.self;
  same : (program : ProgramPlan) (rs : List Reply) → run_connection program (go program) l.connective l.v (plans l.es) (state_of l.fn.self rs) ≡ run_connection program (go program) l.fn.connective l.fn.v (plans l.fn.es) (state_of l.fn.self rs);
  less : plans_weight (plans l.es) ≤ plans_weight (plans l.fn.es);
}

abbrev pub decreases-operands : goal.decreases-operands
decreases-operands l = length l.es
