use Rattle.std.proofs.Common.{◌≡◌, drop}
use Rattle.jt_laws.specs.Lines.{main_end}
use Rattle.jt_machine.specs.Machines.{end_by}
use Rattle.jt_machine.proofs.ending.end_in.Given as goal

-- main doesn't end in the entries so far
abbrev pub invariant-loop-entry : goal.invariant-loop-entry
invariant-loop-entry l = end_by (main_end (drop l.entry-index l.log)) ≡ end_by (main_end l.fn.log)
