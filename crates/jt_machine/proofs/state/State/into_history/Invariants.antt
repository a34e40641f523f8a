use Rattle.std.proofs.Common.{◌≡◌, map}
use Rattle.jt_histories.specs.Merges.{items_of}
use Rattle.jt_machine.specs.Machines.{logs_of}
use Rattle.jt_machine.proofs.state.State.into_history.Given as goal

-- the logs of the shards so far
abbrev pub invariant-loop-shard : goal.invariant-loop-shard
invariant-loop-shard l = map items_of l.logs.items ≡ logs_of l.yielded
