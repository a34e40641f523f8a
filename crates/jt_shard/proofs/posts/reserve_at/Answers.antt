-- A post is written back with more memory, or a new one is inserted.
use Rattle.std.proofs.Common.{Some, refl, sym, ap, ◌∙◌, cond}
use Rattle.std.specs.Prelude.{is_some, slice_get}
use Rattle.jt_shard.specs.Posts.{post_at}
use Rattle.jt_shard.proofs.Split.{equal_itself, at_other}
use Rattle.jt_shard.proofs.Indexes.{on_err_any, no_item, keys_with_value, index_found, post_here, written_here}
use Rattle.jt_shard.proofs.Posted.{rewritten, inserted, inserted_at}
use Rattle.jt_shard.proofs.posts.reserve_at.Goals as goal

pub returns-in_err-reserve_post-clause-kept : goal.returns-in_err-reserve_post-clause-kept
returns-in_err-reserve_post-clause-kept g c =
    let before = c.get_mut.result.now in
    let value = c.index_mut.ensures.value ∙ ap Some (sym c.get_mut.ensures.value) in
    let at = index_found c.args.posts.now.entries c.in-Some.index c.args.object before c.in-Some.ensures.unique value (sym c.in-Some.ensures.index) in
    rewritten c.args.posts.now.entries c.args.object before c.reserve_post.new.post _ c.in-Some.ensures.unique
    (sym (post_here c.args.posts.now.entries c.in-Some.index c.args.object before c.in-Some.ensures.unique at value)) c.reserve_post.ensures.kept
    (written_here c.args.posts.now.entries c.in-Some.index c.args.object before c.in-Some.ensures.unique at value c.reserve_post.new.post)

pub returns-in_err-reserve_post-clause-err : goal.returns-in_err-reserve_post-clause-err
returns-in_err-reserve_post-clause-err g c =
    on_err_any c.from_residual.result (keys_with_value c.args.posts.now.entries c.in-Some.index c.reserve_post.new.post)

pub returns-in-Some-clause-index : goal.returns-in-Some-clause-index
returns-in-Some-clause-index g c =
    let before = c.get_mut.result.now in
    let value = c.index_mut.ensures.value ∙ ap Some (sym c.get_mut.ensures.value) in
    ap (λ ks. slice_get ks c.in-Some.index) (keys_with_value c.args.posts.now.entries c.in-Some.index c.reserve_post.new.post)
    ∙ index_found c.args.posts.now.entries c.in-Some.index c.args.object before c.in-Some.ensures.unique value (sym c.in-Some.ensures.index)

pub returns-in-Some-clause-reserved : goal.returns-in-Some-clause-reserved
returns-in-Some-clause-reserved g c =
    let before = c.get_mut.result.now in
    let after = c.reserve_post.new.post in
    let value = c.index_mut.ensures.value ∙ ap Some (sym c.get_mut.ensures.value) in
    let at = index_found c.args.posts.now.entries c.in-Some.index c.args.object before c.in-Some.ensures.unique value (sym c.in-Some.ensures.index) in
    let there = post_here c.args.posts.now.entries c.in-Some.index c.args.object before c.in-Some.ensures.unique at value in (
      after,
      ap (λ l. post_at l c.args.object) (written_here c.args.posts.now.entries c.in-Some.index c.args.object before c.in-Some.ensures.unique at value after)
          ∙ at_other c.args.posts.now.entries c.args.object before after there c.args.object
          ∙ ap (λ b. cond b (Some after) (post_at c.args.posts.now.entries c.args.object)) (equal_itself c.args.object),
      c.in_ok-reserve_post.ensures.reserved,
    )

pub returns-in-Some-clause-kept : goal.returns-in-Some-clause-kept
returns-in-Some-clause-kept g c =
    let before = c.get_mut.result.now in
    let value = c.index_mut.ensures.value ∙ ap Some (sym c.get_mut.ensures.value) in
    let at = index_found c.args.posts.now.entries c.in-Some.index c.args.object before c.in-Some.ensures.unique value (sym c.in-Some.ensures.index) in
    rewritten c.args.posts.now.entries c.args.object before c.reserve_post.new.post _ c.in-Some.ensures.unique
    (sym (post_here c.args.posts.now.entries c.in-Some.index c.args.object before c.in-Some.ensures.unique at value)) c.reserve_post.ensures.kept
    (written_here c.args.posts.now.entries c.in-Some.index c.args.object before c.in-Some.ensures.unique at value c.reserve_post.new.post)

pub returns-clause-index : goal.returns-clause-index
returns-clause-index g c =
    inserted_at c.args.posts.now.entries c.insert.new.self.entries c.args.object c.in_ok-post.post c.len-index.result c.len-index.ensures.len
    (no_item (post_at c.args.posts.now.entries c.args.object) (sym c.get_index_of.ensures.found ∙ ap is_some c.in_default.is)) c.in_ok-insert.ensures.entries

pub returns-clause-kept : goal.returns-clause-kept
returns-clause-kept g c =
    inserted c.args.posts.now.entries c.args.object c.args.object c.in_ok-post.post c.insert.new.self.entries refl
    (no_item (post_at c.args.posts.now.entries c.args.object) (sym c.get_index_of.ensures.found ∙ ap is_some c.in_default.is))
    c.in_ok-post.ensures.new c.in_ok-insert.ensures.entries c.in_ok-insert.ensures.updates.0 c.in_ok-insert.ensures.unique
