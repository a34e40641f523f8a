-- The evaluator does what it did at the beginning, with less and less work.
use Rattle.std.proofs.Common.{◌≡◌, List}
use Rattle.jt_base.specs.declared.operation.Reply.{Reply}
use Rattle.jt_program.specs.View.{program_plan}
use Rattle.jt_step.specs.Stack.{at, work}
use Rattle.jt_step.proofs.evaluator.Evaluator.settle.Given as goal

abbrev pub invariant-moves : goal.invariant-moves
invariant-moves l = record {
  same : (rs : List Reply) → at (program_plan l.program) l.self l.mode rs ≡ at (program_plan l.program) l.fn.self l.fn.mode rs;
  turns : l.self.turns ≡ l.fn.self.turns;
}

abbrev pub decreases-moves : goal.decreases-moves
decreases-moves l = work l.self l.mode
