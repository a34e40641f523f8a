-- The operands that are left do with the value so far what all of them do with the first one.
use Rattle.std.proofs.Common.{◌≡◌, ◌≤◌, List, length}
use Rattle.jt_base.specs.declared.operation.Reply.{Reply}
use Rattle.jt_program.specs.Plan.{ProgramPlan}
use Rattle.jt_step.specs.Stack.{does_operands, operands_in, operands_weight, state_of}
use Rattle.jt_step.proofs.evaluator.Evaluator.next_operand.Given as goal

abbrev pub invariant-operands : goal.invariant-operands
invariant-operands l = record {
  kept : l.self ≡ l.fn.self;
  same : (program : ProgramPlan) (rs : List Reply) → does_operands program l.v (operands_in l.es) (state_of l.fn.self rs) ≡ does_operands program l.fn.v (operands_in l.fn.es) (state_of l.fn.self rs);
  less : operands_weight (operands_in l.es) ≤ operands_weight (operands_in l.fn.es);
}

abbrev pub decreases-operands : goal.decreases-operands
decreases-operands l = length l.es
