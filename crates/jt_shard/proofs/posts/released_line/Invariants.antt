use Rattle.std.proofs.Common.{◌≡◌, ◌≤◌, ◌+◌, ◌++◌, length, map}
use Rattle.std.specs.Vec.{vec_capacity}
use Rattle.jt_shard.proofs.posts.released_line.Given as goal

-- the jobs that were released, and those that are still in the line
abbrev pub invariant-loop-waiting : goal.invariant-loop-waiting
invariant-loop-waiting g l =
    (l.jobs.items ++ map (λ w. w.0) l.line.items ≡ l.fn.jobs.items ++ map (λ w. w.0) l.fn.line.items) × (length l.jobs.items + length l.line.items ≤ vec_capacity l.jobs) × (vec_capacity l.jobs ≡ vec_capacity l.fn.jobs)

abbrev pub decreases-loop-waiting : goal.decreases-loop-waiting
decreases-loop-waiting g l = length l.line.items
