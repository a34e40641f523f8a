-- The evaluator does what it did at the beginning, with fewer turns and replies left.
use Rattle.std.proofs.Common.{◌≡◌, ◌≤◌, ◌+◌, ◌-◌, ◌++◌, List, length}
use Rattle.jt_base.specs.declared.operation.Reply.{Reply}
use Rattle.jt_program.specs.View.{program_plan}
use Rattle.jt_step.specs.Stack.{at, unused}
use Rattle.jt_step.proofs.evaluator.Evaluator.run_on.Given as goal

abbrev pub invariant-moves : goal.invariant-moves
invariant-moves l = record {
  same : (rs : List Reply) → at (program_plan l.program) l.self l.mode (unused l.log l.used ++ rs) ≡ at (program_plan l.program) l.fn.self l.fn.mode (unused l.log l.fn.used ++ rs);
  within : l.used ≤ length l.log;
  few : l.taken ≤ l.turns;
  turns : l.self.turns + l.taken ≡ l.fn.self.turns;
}

abbrev pub decreases-moves : goal.decreases-moves
decreases-moves l = (l.turns - l.taken) + (length l.log - l.used)
