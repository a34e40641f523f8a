-- Only jobs of the touched object may be allowed.
use Rattle.std.proofs.Common.{List, Some, None, ap, sym, ◌∙◌, subst, refl}
use Rattle.jt_base.specs.declared.object.Object.{Object}
use Rattle.jt_shard.specs.declared.post.Post.{Post}
use Rattle.jt_shard.specs.Shards.{ShardState}
use Rattle.jt_shard.specs.Posts.{object_at, waiting_in, HasMemoryIf, IsCounted, IsStamped, ArePosts}
use Rattle.jt_shard.proofs.Waking.{woken_are, woken_some, woken_counted, woken_wakes, asleep_same, asleep_are, asleep_wakes, left_at}
use Rattle.jt_shard.proofs.shard.Shard.next_woken.Goals as goal

pub returns-in_default : goal.returns-in_default
returns-in_default g c =
    let f = c.self.inside in
    asleep_wakes g.J.Job.told c.args.self.now c.args.self.now f.log.items f.posts.entries None refl
    (subst (λ i. ArePosts g.J.Job.told f.log.items (object_at f.posts.entries i) f.posts.entries) c.in_default.is c.self.invariant.0)
    (ap (λ (s : ShardState g.row.J.Denot). s.log) c.self.view_is) (ap (λ (s : ShardState g.row.J.Denot). s.waiting) c.self.view_is) refl

pub overflow_sub-self : goal.overflow_sub-self
overflow_sub-self g c =
    let f = c.self.inside in
    woken_some g.J.Job.told f.log.items f.posts.entries (object_at f.posts.entries (Some c.in-Some.index)) c.leave-woken.result c.leave-woken.new.posts.entries f.count f.jobs (sym c.is_some.ensures ∙ c.if-is_some.true) c.leave-woken.ensures
    (subst (λ i. ArePosts g.J.Job.told f.log.items (object_at f.posts.entries i) f.posts.entries) c.in-Some.is c.self.invariant.0) c.self.invariant.1.0

pub invariant_of-self : goal.invariant_of-self
invariant_of-self g c =
    let f = c.self.inside in
    let left = c.leave-woken.new.posts.entries in
    let o = object_at f.posts.entries (Some c.in-Some.index) in
    let a = subst (λ i. ArePosts g.J.Job.told f.log.items (object_at f.posts.entries i) f.posts.entries) c.in-Some.is c.self.invariant.0 in
    let s = sym c.is_some.ensures ∙ c.if-is_some.true in (
      subst (λ i. ArePosts g.J.Job.told f.log.items (object_at left i) left) (sym c.in-Some.is)
          (subst (λ x. ArePosts g.J.Job.told f.log.items x left) (sym (left_at g.J.Job.told f.posts.entries o c.leave-woken.result left (Some c.in-Some.index) c.leave-woken.ensures))
          (woken_are g.J.Job.told f.log.items f.posts.entries o c.leave-woken.result left s c.leave-woken.ensures a)),
      (woken_counted g.J.Job.told f.log.items f.posts.entries o c.leave-woken.result left f.count f.jobs s c.leave-woken.ensures a c.self.invariant.1.0, (tt, c.self.invariant.1.1.1)),
    )

pub invariant_of-self-else-is_some : goal.invariant_of-self-else-is_some
invariant_of-self-else-is_some g c =
    let f = c.self.inside in
    let o = object_at f.posts.entries (Some c.in-Some.index) in
    let a = subst (λ i. ArePosts g.J.Job.told f.log.items (object_at f.posts.entries i) f.posts.entries) c.in-Some.is c.self.invariant.0 in
    let s = sym c.is_some.ensures ∙ c.if-is_some.false in
    subst (λ (p : List (Object × Post g.row.J.Denot)). ArePosts g.J.Job.told f.log.items None p × (IsCounted p f.count f.jobs × (HasMemoryIf f.log f.jobs f.spare p (object_at p f.reserved) × IsStamped f.log.items)))
    (sym (asleep_same g.J.Job.told f.posts.entries o c.leave-woken.result c.leave-woken.new.posts.entries s c.leave-woken.ensures))
    (asleep_are g.J.Job.told f.log.items f.posts.entries o c.leave-woken.result c.leave-woken.new.posts.entries s c.leave-woken.ensures a, c.self.invariant.1)

pub returns-then-is_some : goal.returns-then-is_some
returns-then-is_some g c =
    let f = c.self.inside in
    let a = subst (λ i. ArePosts g.J.Job.told f.log.items (object_at f.posts.entries i) f.posts.entries) c.in-Some.is c.self.invariant.0 in
    woken_wakes g.J.Job.told c.args.self.now _ f.log.items f.posts.entries (object_at f.posts.entries (Some c.in-Some.index)) c.leave-woken.result c.leave-woken.new.posts.entries (sym c.is_some.ensures ∙ c.if-is_some.true) c.leave-woken.ensures a
    (ap (λ (s : ShardState g.row.J.Denot). s.log) c.self.view_is) (ap (λ (s : ShardState g.row.J.Denot). s.waiting) c.self.view_is) refl
    (ap (λ (s : ShardState g.row.J.Denot). record s { waiting = waiting_in c.leave-woken.new.posts.entries; reserved = None }) c.self.view_is)

pub returns-else-is_some : goal.returns-else-is_some
returns-else-is_some g c =
    let f = c.self.inside in
    let o = object_at f.posts.entries (Some c.in-Some.index) in
    let a = subst (λ i. ArePosts g.J.Job.told f.log.items (object_at f.posts.entries i) f.posts.entries) c.in-Some.is c.self.invariant.0 in
    let s = sym c.is_some.ensures ∙ c.if-is_some.false in
    let same = asleep_same g.J.Job.told f.posts.entries o c.leave-woken.result c.leave-woken.new.posts.entries s c.leave-woken.ensures in
    asleep_wakes g.J.Job.told c.args.self.now _ f.log.items f.posts.entries c.leave-woken.result s
    (asleep_are g.J.Job.told f.log.items f.posts.entries o c.leave-woken.result c.leave-woken.new.posts.entries s c.leave-woken.ensures a)
    (ap (λ (v : ShardState g.row.J.Denot). v.log) c.self.view_is) (ap (λ (v : ShardState g.row.J.Denot). v.waiting) c.self.view_is)
    (ap (λ (p : List (Object × Post g.row.J.Denot)). record { number = f.number; events = f.events; log = f.log.items; waiting = waiting_in p; reserved = object_at p f.reserved }) same ∙ c.self.view_is)
