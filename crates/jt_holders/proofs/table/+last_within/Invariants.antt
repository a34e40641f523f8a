use Rattle.std.proofs.Common.{length}
use Rattle.jt_holders.proofs.table.+last_within.Given as goal

abbrev pub decreases-last_within : goal.decreases-last_within
decreases-last_within l = length l.depths.now
