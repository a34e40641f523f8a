-- The line has the texts before the index, and the items from there on are left.
use Rattle.std.proofs.Common.{◌≡◌, ◌≤◌, drop}
use Rattle.jt_program.specs.Plan.{ProgramPlan}
use Rattle.jt_meaning.specs.Meaning.{go, run_pieces}
use Rattle.jt_meaning.specs.State.{State}
use Rattle.jt_step.specs.Stack.{pieces_in, pieces_weight}
use Rattle.jt_step.proofs.print.next_value.Given as goal

abbrev pub invariant-loop-index : goal.invariant-loop-index
invariant-loop-index l = record {
  same : (program : ProgramPlan) (s : State) → run_pieces program (go program) l.line (pieces_in (drop l.index l.pieces)) s ≡ run_pieces program (go program) l.initial.line (pieces_in l.pieces) s;
  lighter : pieces_weight (pieces_in (drop l.index l.pieces)) ≤ pieces_weight (pieces_in l.pieces);
}
