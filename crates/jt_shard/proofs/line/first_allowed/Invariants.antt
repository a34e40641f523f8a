use Rattle.std.proofs.Common.{◌≤◌, length, take}
use Rattle.std.specs.List.{All}
use Rattle.jt_shard.specs.Asking.{Refuses}
use Rattle.jt_shard.proofs.line.first_allowed.Given as goal

-- no earlier one is allowed
abbrev pub invariant-loop-i : goal.invariant-loop-i
invariant-loop-i g l =
    (l.i ≤ length l.waiting.items) × All (λ w. Refuses l.state (g.J.Job.told w.0).path w.1) (take l.i l.waiting.items)
