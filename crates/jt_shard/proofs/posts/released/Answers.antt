-- The jobs of the next line are released.
use Rattle.std.proofs.Common.{◌≡◌, ◌≤◌, ◌+◌, ◌++◌, length, ap, sym, subst, ◌∙◌, map}
use Rattle.jt_shard.specs.Posts.{waiting_in}
use Rattle.jt_shard.proofs.Posted.{released_more, released_room}
use Rattle.jt_shard.proofs.posts.released.Goals as goal

pub loop-post-preserved : goal.loop-post-preserved
loop-post-preserved g c =
    let more : c.released_line-jobs.result.items ≡ c.loop-post.jobs.items ++ map (λ w. w.0) c.in-Some.post.waiting.items = c.released_line-jobs.ensures.items ∙ ap (λ v. c.loop-post.jobs.items ++ map (λ w. w.0) v.items) (c.into_waiting.ensures ∙ ap (λ p. p.waiting) c.into_inner.ensures) in (
      released_more c.loop-post.jobs.items c.released_line-jobs.result.items c.in-Some.field-0-0 c.in-Some.post c.loop-post.post-iterator c.next.new.self c.in-Some.ensures.steps more _ c.loop-post.invariant.0,
      subst (λ n. length c.released_line-jobs.result.items + length (waiting_in c.next.new.self) ≤ n) (sym c.released_line-jobs.ensures.capacity)
          (released_room c.loop-post.jobs.items c.released_line-jobs.result.items c.in-Some.field-0-0 c.in-Some.post c.loop-post.post-iterator c.next.new.self c.in-Some.ensures.steps more _ c.loop-post.invariant.1),
    )
