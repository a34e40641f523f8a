-- What is left of the names gives what all of them give.
use Rattle.std.proofs.Common.{◌≡◌, drop}
use Rattle.jt_settling.specs.Settling.{with_assignments}
use Rattle.jt_settling.proofs.settling.Settling.note_assignments.Given as goal

abbrev pub invariant-loop-name : goal.invariant-loop-name
invariant-loop-name l = with_assignments l.body l.self (drop l.name-index l.names) ≡ with_assignments l.fn.body l.fn.self l.fn.names
