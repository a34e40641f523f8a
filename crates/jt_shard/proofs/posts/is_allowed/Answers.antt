-- The post at the index is that of its object.
use Rattle.std.proofs.Common.{Some, subst, sym, ap, ◌∙◌}
use Rattle.std.specs.Prelude.{MatchBool}
use Rattle.jt_shard.specs.declared.post.Post.{Post}
use Rattle.jt_shard.specs.Asking.{Allows, Refuses}
use Rattle.jt_shard.proofs.Asked.{told_by}
use Rattle.jt_shard.proofs.Indexes.{is_post}
use Rattle.jt_shard.proofs.posts.is_allowed.Goals as goal

pub returns : goal.returns
returns g c = λ o post at there.
    let value = c.index.ensures ∙ ap Some (sym c.get.ensures) in
    subst (λ (p : Post g.row.J.Denot). MatchBool c.allows.result (Allows p.state c.args.task.now c.args.op.now) (Refuses p.state c.args.task.now c.args.op.now))
    (sym (is_post c.args.posts.now.entries c.args.index o c.get.result.now c.requires.distinct at value post there))
    (told_by c.get.result.now.state c.args.task.now c.args.op.now c.allows.result c.allows.ensures)
