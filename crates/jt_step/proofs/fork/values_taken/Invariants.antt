-- The values of the slots so far are taken.
use Rattle.std.proofs.Common.{◌≡◌, [], drop}
use Rattle.jt_meaning.specs.Meaning as meaning
use Rattle.jt_step.proofs.fork.values_taken.Given as goal

abbrev pub invariant-loop-slot : goal.invariant-loop-slot
invariant-loop-slot l = meaning.values_taken l.values l.variables (drop l.slot-index l.slots) ≡ meaning.values_taken [] l.variables l.slots
