use Rattle.std.proofs.Common.{◌≡◌}
use Rattle.jt_machine.specs.Machines.{first_shards}
use Rattle.jt_machine.proofs.state.empty_shards.Given as goal

-- as many shards as numbers so far
abbrev pub invariant-loop-number : goal.invariant-loop-number
invariant-loop-number l = l.shards.items ≡ first_shards l.number l.events
