-- The values of the constants so far are taken.
use Rattle.std.proofs.Common.{◌≡◌, [], drop}
use Rattle.jt_meaning.specs.Meaning as meaning
use Rattle.jt_step.proofs.fork.values_known.Given as goal

abbrev pub invariant-loop-constant : goal.invariant-loop-constant
invariant-loop-constant l = meaning.values_known l.values (drop l.constant-index l.constants) ≡ meaning.values_known [] l.constants
