use Rattle.std.proofs.Common.{◌≡◌, map, deque_items}
use Rattle.jt_histories.specs.Merges.{items_of}
use Rattle.jt_histories.specs.Fronts.{first_stamp}
use Rattle.jt_histories.proofs.fronts.Fronts.new.Given as goal

-- the logs so far, and their first stamps
abbrev pub invariant-loop-log : goal.invariant-loop-log
invariant-loop-log l = (map deque_items l.left.items ≡ map items_of l.yielded) × (l.stamps.items ≡ map first_stamp (map deque_items l.left.items))
