use Rattle.std.proofs.Common.{map}
use Rattle.jt_histories.specs.Merges.{items_of}
use Rattle.jt_histories.specs.Fronts.{count_of}
use Rattle.jt_histories.proofs.Taking.{IsMergedBefore}
use Rattle.jt_histories.proofs.merging.merge.Given as goal

abbrev pub invariant-loop-entry : goal.invariant-loop-entry
invariant-loop-entry l = IsMergedBefore (map items_of l.fn.logs.items) l.fronts l.history.items

-- the entries that are left
abbrev pub decreases-loop-entry : goal.decreases-loop-entry
decreases-loop-entry l = count_of l.fronts
