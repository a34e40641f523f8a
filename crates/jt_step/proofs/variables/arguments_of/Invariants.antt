-- The values so far are set.
use Rattle.std.proofs.Common.{◌≡◌, map, take, Some}
use Rattle.jt_step.proofs.variables.arguments_of.Given as goal

abbrev pub invariant-loop-v : goal.invariant-loop-v
invariant-loop-v l = l.variables ≡ map Some (take l.v-index l.vs)
