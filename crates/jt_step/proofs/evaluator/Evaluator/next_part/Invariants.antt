-- The parts that are left do from the evaluator now, with the last value, what all of them do from that at the beginning.
use Rattle.std.proofs.Common.{◌≡◌, ◌≤◌, List, length}
use Rattle.jt_base.specs.declared.operation.Reply.{Reply}
use Rattle.jt_program.specs.Plan.{ProgramPlan}
use Rattle.jt_program.specs.View.{plans}
use Rattle.jt_meaning.specs.Meaning.{go, run_all}
use Rattle.jt_step.specs.Stack.{plans_weight, state_of}
use Rattle.jt_step.proofs.evaluator.Evaluator.next_part.Given as goal

abbrev pub invariant-parts : goal.invariant-parts
invariant-parts l = record {
  frames : l.self.frames.items ≡ l.fn.self.frames.items;
  turns : l.self.turns ≡ l.fn.self.turns;
  same : (program : ProgramPlan) (rs : List Reply) → run_all program (go program) l.v (plans l.es) (state_of l.self rs) ≡ run_all program (go program) l.fn.v (plans l.fn.es) (state_of l.fn.self rs);
  less : plans_weight (plans l.es) ≤ plans_weight (plans l.fn.es);
}

abbrev pub decreases-parts : goal.decreases-parts
decreases-parts l = length l.es
