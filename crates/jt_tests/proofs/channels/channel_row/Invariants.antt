use Rattle.std.proofs.Common.{◌≤◌}
use Rattle.jt_channels.specs.Steps.{numbered}
use Rattle.jt_tests.proofs.channels.channel_row.Given as goal

abbrev pub invariant-loop-call : goal.invariant-loop-call
invariant-loop-call g l = numbered l.channel.state ≤ l.call-index
