use Rattle.std.proofs.Common.{map}
use Rattle.jt_histories.specs.Merges.{items_of}
use Rattle.jt_histories.proofs.FrontSteps.{OnlyOf}
use Rattle.jt_histories.proofs.merging.only_filled.Given as goal

-- none so far, or only one
abbrev pub invariant-loop-k : goal.invariant-loop-k
invariant-loop-k l = OnlyOf (map items_of l.logs) l.k l.filled
