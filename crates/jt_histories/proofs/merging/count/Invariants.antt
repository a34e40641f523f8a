use Rattle.std.proofs.Common.{◌≡◌, ◌-◌, ◌^◌, map, min, take}
use Rattle.jt_histories.specs.Fronts.{count_of}
use Rattle.jt_histories.specs.Merges.{items_of}
use Rattle.jt_histories.proofs.merging.count.Given as goal

-- the entries of the logs so far
abbrev pub invariant-loop-log : goal.invariant-loop-log
invariant-loop-log l = l.count ≡ min (count_of (map items_of (take l.log-index l.logs))) (2 ^ 64 - 1)
