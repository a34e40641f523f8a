use Rattle.std.proofs.Common.{◌≡◌, ◌≤◌, ◌+◌, ◌++◌, length, map}
use Rattle.std.specs.Vec.{vec_capacity}
use Rattle.jt_shard.specs.Posts.{waiting_in}
use Rattle.jt_shard.proofs.posts.released.Given as goal

-- the jobs that were released, and those that still wait
abbrev pub invariant-loop-post : goal.invariant-loop-post
invariant-loop-post g l =
    (l.jobs.items ++ map (λ w. w.0) (waiting_in l.post-iterator) ≡ l.fn.jobs.items ++ map (λ w. w.0) (waiting_in l.fn.posts.entries)) × (length l.jobs.items + length (waiting_in l.post-iterator) ≤ vec_capacity l.jobs)
