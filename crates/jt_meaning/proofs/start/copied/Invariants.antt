-- The values so far are copied.
use Rattle.std.proofs.Common.{◌≡◌, take}
use Rattle.jt_meaning.proofs.start.copied.Given as goal

abbrev pub invariant-loop-value : goal.invariant-loop-value
invariant-loop-value l = l.copies ≡ take l.value-index l.values
