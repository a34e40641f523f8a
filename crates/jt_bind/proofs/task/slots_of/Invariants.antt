-- The slots so far, with those that are left behind them, are all of them.
use Rattle.std.proofs.Common.{◌≡◌, ◌++◌, drop}
use Rattle.jt_bound.specs.Slots as spec
use Rattle.jt_bind.proofs.task.slots_of.Given as goal

abbrev pub invariant-loop-identifier : goal.invariant-loop-identifier
invariant-loop-identifier l = l.slots ++ spec.slots_of l.chain (drop l.identifier-index l.names) ≡ spec.slots_of l.fn.chain l.fn.names
