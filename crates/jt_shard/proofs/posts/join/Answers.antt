-- The post that is written back has one job more.
use Rattle.std.proofs.Common.{Some, ap, refl, sym, ◌∙◌}
use Rattle.jt_shard.specs.declared.post.Post.{Post}
use Rattle.jt_shard.proofs.Indexes.{post_here, written_here}
use Rattle.jt_shard.proofs.posts.join.Goals as goal

pub push_back_reserved-requires : goal.push_back_reserved-requires
push_back_reserved-requires g c =
    (c.requires.reserved c.get_mut.result.now (c.index_mut.ensures.value ∙ ap Some (sym c.get_mut.ensures.value))).line

pub returns : goal.returns
returns g c = λ o at.
    let before : Post g.row.J.Denot = c.get_mut.result.now in
    let after : Post g.row.J.Denot = record { state = before.state; waiting = c.push_back_reserved.new.self } in
    let value = c.index_mut.ensures.value ∙ ap Some (sym c.get_mut.ensures.value) in
    record {
      before = before;
      after = after;
      there = post_here c.args.posts.now.entries c.args.index o before c.requires.distinct at value;
      state = refl;
      waiting = c.push_back_reserved.ensures.items;
      is = written_here c.args.posts.now.entries c.args.index o before c.requires.distinct at value after;
    }
