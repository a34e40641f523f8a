-- What is left begins as the variables did.
use Rattle.std.proofs.Common.{◌≡◌, length, take}
use Rattle.jt_step.proofs.variables.shorten.Given as goal

abbrev pub invariant-slots : goal.invariant-slots
invariant-slots l = take l.slot l.variables ≡ take l.slot l.fn.variables

abbrev pub decreases-slots : goal.decreases-slots
decreases-slots l = length l.variables
