-- The post is written back as the object's answer left it.
use Rattle.std.proofs.Common.{Some, ap, refl, sym, ◌∙◌}
use Rattle.jt_shard.specs.declared.post.Post.{Post}
use Rattle.jt_shard.proofs.Indexes.{post_here, written_here}
use Rattle.jt_shard.proofs.posts.ask.Goals as goal

pub ask-requires-clause-reserved : goal.ask-requires-clause-reserved
ask-requires-clause-reserved g c =
    (c.requires.reserved c.get_mut.result.now (c.index_mut.ensures.value ∙ ap Some (sym c.get_mut.ensures.value))).room c.args.op.now

pub ask-requires-clause-small : goal.ask-requires-clause-small
ask-requires-clause-small g c =
    c.requires.small c.get_mut.result.now (c.index_mut.ensures.value ∙ ap Some (sym c.get_mut.ensures.value))

pub returns : goal.returns
returns g c = λ o at.
    let before : Post g.row.J.Denot = c.get_mut.result.now in
    let after : Post g.row.J.Denot = record { state = c.ask.new.self; waiting = before.waiting } in
    let value = c.index_mut.ensures.value ∙ ap Some (sym c.get_mut.ensures.value) in
    record {
      before = before;
      after = after;
      there = post_here c.args.posts.now.entries c.args.index o before c.requires.distinct at value;
      law = c.ask.ensures.law;
      stays = λ n. ap (λ s. record { state = s; waiting = before.waiting }) (c.ask.ensures.not_yet n);
      waiting = refl;
      is = written_here c.args.posts.now.entries c.args.index o before c.requires.distinct at value after;
    }
