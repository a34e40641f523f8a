use Rattle.std.proofs.Common.{◌+◌, ◌-◌, ◌*◌, ◌∷◌, length}
use Rattle.jt_machine.specs.Machines.{run_of, stamps_left}
use Rattle.jt_machine.specs.Advancing.{Leaves}
use Rattle.jt_machine.proofs.state.State.slice.Given as goal

-- what the slice has left so far
abbrev pub invariant-progress : goal.invariant-progress
invariant-progress l = Leaves (run_of l.setting) l.setting.seeds l.fn.self.shards.items l.fn.self.ready l.fn.job l.self.shards.items (l.job ∷ l.self.ready) (length l.self.ready)

-- the stamps, for each of them all turns, and the turns that are left
abbrev pub decreases-progress : goal.decreases-progress
decreases-progress l = stamps_left l.self.shards.items * (l.setting.limits.turns + 1) + (l.setting.limits.turns - l.job.taken)
