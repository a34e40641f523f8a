use Rattle.std.proofs.Common.{arith}
use Rattle.jt_histories.proofs.Taking.{count_more}
use Rattle.jt_histories.proofs.merging.count.Goals as goal

pub loop-log-preserved : goal.loop-log-preserved
loop-log-preserved c = grind (arith, c.loop-log.invariant, c.saturating_add-count.ensures, c.len.ensures, count_more c.args.logs.now c.loop-log.log-index c.log-item.result c.loop-log-test.true c.log-item.is)
