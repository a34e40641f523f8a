use Rattle.std.proofs.Common.{length}
use Rattle.jt_machine.specs.Machines.{waiting_in}
use Rattle.jt_machine.specs.Operations.{WakesSome}
use Rattle.jt_machine.proofs.state.State.wake.Given as goal

-- some are woken
abbrev pub invariant-loop-woken : goal.invariant-loop-woken
invariant-loop-woken l = WakesSome l.k l.fn.self.shards.items l.fn.self.ready l.self.shards.items l.self.ready

-- those that wait
abbrev pub decreases-loop-woken : goal.decreases-loop-woken
decreases-loop-woken l = length (waiting_in l.self.shards.items)
