-- The post is written back as the job's leaving left it.
use Rattle.std.proofs.Common.{Some, ap, sym, ◌∙◌, subst}
use Rattle.indexmap.specs.IndexMap.{set_value_at}
use Rattle.jt_shard.specs.Posts.{LeavesAt}
use Rattle.jt_shard.proofs.Indexes.{found_at}
use Rattle.jt_shard.proofs.Posted.{left_posts}
use Rattle.jt_shard.proofs.posts.leave.Goals as goal

pub returns : goal.returns
returns g c =
    let before = c.get_mut.result.now in
    let left = set_value_at c.args.posts.now.entries c.args.index c.leave_post.new.post in
    let f = found_at c.args.posts.now.entries c.args.index before c.len.ensures.unique (c.index_mut.ensures.value ∙ ap Some (sym c.get_mut.ensures.value)) in
    subst (λ t. LeavesAt g.J.Job.told c.args.posts.now.entries t c.leave_post.result left) (sym f.key)
    (left_posts g.J.Job.told c.args.posts.now.entries f.object before c.leave_post.result c.leave_post.new.post left c.leave_post.ensures (sym f.there) (f.has c.leave_post.new.post))
