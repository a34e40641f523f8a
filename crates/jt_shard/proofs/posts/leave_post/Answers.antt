-- The job at the place that was found.
use Rattle.std.proofs.Common.{sym, refl, subst}
use Rattle.jt_shard.specs.declared.post.Post.{Post}
use Rattle.jt_shard.specs.Posts.{FirstLeaves}
use Rattle.jt_shard.proofs.Posted.{left_post}
use Rattle.jt_shard.proofs.posts.leave_post.Goals as goal

pub returns : goal.returns
returns g c =
    let found = c.in_ok-i.ensures.some in
    let after : Post g.row.J.Denot = record { state = c.args.post.now.state; waiting = c.remove.new.self } in
    subst (λ w. FirstLeaves g.J.Job.told c.args.post.now w after) (sym c.into_inner.ensures)
    (left_post g.J.Job.told c.args.post.now c.in_ok-i.i c.in_ok-woken.woken after found.0 found.1.0 found.1.1 c.in_ok-woken.ensures.value c.in_ok-woken.ensures.items refl)
