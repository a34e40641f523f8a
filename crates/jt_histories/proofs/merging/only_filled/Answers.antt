use Rattle.std.proofs.Common.{map}
use Rattle.jt_histories.specs.Merges.{items_of}
use Rattle.jt_histories.proofs.FrontSteps.{empty_more, no_entries}
use Rattle.jt_histories.proofs.merging.only_filled.Goals as goal

pub loop-k-preserved-then-is_empty : goal.loop-k-preserved-then-is_empty
loop-k-preserved-then-is_empty c =
    empty_more (map items_of c.args.logs.now) c.loop-k.k c.loop-k.filled c.loop-k.invariant
    (no_entries c.args.logs.now c.loop-k.k c.index-logs-k.result c.loop-k-test.true c.index-logs-k.is c.is_empty.result c.is_empty.ensures c.if-is_empty.true)
