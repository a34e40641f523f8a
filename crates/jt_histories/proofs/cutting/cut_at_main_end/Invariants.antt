-- What was passed, and the cut of the rest.
use Rattle.std.proofs.Common.{◌≡◌, ◌++◌, drop, take}
use Rattle.jt_laws.specs.Lines.{cut_at_main_end}
use Rattle.jt_histories.proofs.cutting.cut_at_main_end.Given as goal

abbrev pub invariant-loop-entry : goal.invariant-loop-entry
invariant-loop-entry l = record { place : l.length ≡ l.entry-index; rest : take l.length l.entry-items ++ cut_at_main_end (drop l.entry-index l.entry-items) ≡ cut_at_main_end l.entry-items }
