-- The comparisons that are left do with the operand before them what all of them do with the first one.
use Rattle.std.proofs.Common.{◌≡◌, ◌≤◌, List, length}
use Rattle.jt_base.specs.declared.operation.Reply.{Reply}
use Rattle.jt_program.specs.Plan.{ProgramPlan}
use Rattle.jt_step.specs.Stack.{does_comparisons, comparisons_in, comparisons_weight, state_of}
use Rattle.jt_step.proofs.evaluator.Evaluator.next_comparison.Given as goal

abbrev pub invariant-comparisons : goal.invariant-comparisons
invariant-comparisons l = record {
  kept : l.self ≡ l.fn.self;
  same : (program : ProgramPlan) (rs : List Reply) → does_comparisons program l.v (comparisons_in l.es) (state_of l.fn.self rs) ≡ does_comparisons program l.fn.v (comparisons_in l.fn.es) (state_of l.fn.self rs);
  less : comparisons_weight (comparisons_in l.es) ≤ comparisons_weight (comparisons_in l.fn.es);
}

abbrev pub decreases-comparisons : goal.decreases-comparisons
decreases-comparisons l = length l.es
