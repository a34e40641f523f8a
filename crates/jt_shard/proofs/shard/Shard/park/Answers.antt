-- The job joins the line of its object.
use Rattle.std.proofs.Common.{◌≡◌, Some, None, refl, ap, sym, ◌∙◌, subst}
use Rattle.std.specs.List.{All}
use Rattle.jt_base.specs.declared.object.Object.{Object}
use Rattle.jt_shard.specs.Shards.{ShardState, object_for, MustWait}
use Rattle.jt_shard.specs.Posts.{object_at, waiting_in, JoinsPost, HasMemoryIf, ArePosts}
use Rattle.jt_shard.proofs.Indexes.{within_at, reserved_here, stays_at}
use Rattle.jt_shard.proofs.Sound.{joined_are}
use Rattle.jt_shard.proofs.Lines.{JoinsLine, joins_line}
use Rattle.jt_shard.proofs.Room.{memory_at, counted_more}
use Rattle.jt_shard.proofs.States.{parks_of, settled_more}
use Rattle.jt_shard.proofs.shard.Shard.park.Goals as goal

pub join-requires-clause-there : goal.join-requires-clause-there
join-requires-clause-there g c =
    let f = c.self.inside in
    let o : Object = object_for g.J.Job.told c.args.job c.args.op in
    let r : object_at f.posts.entries f.reserved ≡ Some o = ap (λ (s : ShardState g.row.J.Denot). s.reserved) c.self.view_is ∙ c.requires.room.shard in
    let k : f.reserved ≡ Some c.in-Some-take.index = cc (c.in-Some-take.ensures.value) in
    let at : object_at f.posts.entries (Some c.in-Some-take.index) ≡ Some o = ap (object_at f.posts.entries) (sym k) ∙ r in
    within_at f.posts.entries c.in-Some-take.index o at

pub join-requires-clause-reserved : goal.join-requires-clause-reserved
join-requires-clause-reserved g c = λ post value.
    let f = c.self.inside in
    let o : Object = object_for g.J.Job.told c.args.job c.args.op in
    let r : object_at f.posts.entries f.reserved ≡ Some o = ap (λ (s : ShardState g.row.J.Denot). s.reserved) c.self.view_is ∙ c.requires.room.shard in
    let k : f.reserved ≡ Some c.in-Some-take.index = cc (c.in-Some-take.ensures.value) in
    let at : object_at f.posts.entries (Some c.in-Some-take.index) ≡ Some o = ap (object_at f.posts.entries) (sym k) ∙ r in
    reserved_here f.posts.entries c.in-Some-take.index o post c.self.invariant.0.distinct at value (memory_at f.log f.jobs f.spare f.posts.entries (object_at f.posts.entries f.reserved) o c.self.invariant.1.1.0 r).post

pub invariant_of-self : goal.invariant_of-self
invariant_of-self g c =
    let f = c.self.inside in
    let told = g.J.Job.told in
    let o : Object = object_for told c.args.job c.args.op in
    let r : object_at f.posts.entries f.reserved ≡ Some o = ap (λ (s : ShardState g.row.J.Denot). s.reserved) c.self.view_is ∙ c.requires.room.shard in
    let k : f.reserved ≡ Some c.in-Some-take.index = cc (c.in-Some-take.ensures.value) in
    let at : object_at f.posts.entries (Some c.in-Some-take.index) ≡ Some o = ap (object_at f.posts.entries) (sym k) ∙ r in
    let m : MustWait told f.log.items (c.args.job, c.args.op) = subst (λ (s : ShardState g.row.J.Denot). MustWait told s.log (c.args.job, c.args.op)) (sym c.self.view_is) c.requires.not_allowed in
    let room = memory_at f.log f.jobs f.spare f.posts.entries (object_at f.posts.entries f.reserved) o c.self.invariant.1.1.0 r in
    let j = subst (λ w. JoinsPost f.posts.entries o w c.join.new.posts.entries) c.fill.ensures (c.join.ensures o at) in
    let l = joins_line told f.log.items (object_at f.posts.entries f.touched) f.posts.entries c.join.new.posts.entries o (c.args.job, c.args.op) c.self.invariant.0 j refl in (
      subst (λ x. ArePosts told f.log.items x c.join.new.posts.entries) (sym (stays_at f.posts.entries o j.after c.join.new.posts.entries j.is f.touched))
          (joined_are told f.log.items (object_at f.posts.entries f.touched) f.posts.entries c.join.new.posts.entries o (c.args.job, c.args.op) c.self.invariant.0 j refl m),
      (
        counted_more f.posts.entries c.join.new.posts.entries f.count f.jobs (c.args.job, c.args.op) c.self.invariant.1.0 room.job l.permuted,
        (subst (λ x. HasMemoryIf f.log f.jobs c.take.new.self c.join.new.posts.entries (object_at c.join.new.posts.entries x)) (sym c.in-Some-take.ensures.after) tt, c.self.invariant.1.1.1),
      ),
    )

pub returns-clause-parks : goal.returns-clause-parks
returns-clause-parks g c =
    let f = c.self.inside in
    let told = g.J.Job.told in
    let o : Object = object_for told c.args.job c.args.op in
    let r : object_at f.posts.entries f.reserved ≡ Some o = ap (λ (s : ShardState g.row.J.Denot). s.reserved) c.self.view_is ∙ c.requires.room.shard in
    let k : f.reserved ≡ Some c.in-Some-take.index = cc (c.in-Some-take.ensures.value) in
    let at : object_at f.posts.entries (Some c.in-Some-take.index) ≡ Some o = ap (object_at f.posts.entries) (sym k) ∙ r in
    let j = subst (λ w. JoinsPost f.posts.entries o w c.join.new.posts.entries) c.fill.ensures (c.join.ensures o at) in
    let l = joins_line told f.log.items (object_at f.posts.entries f.touched) f.posts.entries c.join.new.posts.entries o (c.args.job, c.args.op) c.self.invariant.0 j refl in
    parks_of told c.args.self.now _ c.args.job c.args.op
    (ap (λ x. record { number = f.number; events = f.events; log = f.log.items; waiting = waiting_in c.join.new.posts.entries; reserved = object_at c.join.new.posts.entries x }) c.in-Some-take.ensures.after
    ∙ ap (λ (s : ShardState g.row.J.Denot). record s { waiting = waiting_in c.join.new.posts.entries; reserved = None }) c.self.view_is)
    (subst (λ (s : ShardState g.row.J.Denot). JoinsLine told s.waiting (c.args.job, c.args.op) (waiting_in c.join.new.posts.entries)) c.self.view_is l)

pub returns-clause-settled : goal.returns-clause-settled
returns-clause-settled g c = λ settled.
    let f = c.self.inside in
    let told = g.J.Job.told in
    let o : Object = object_for told c.args.job c.args.op in
    let r : object_at f.posts.entries f.reserved ≡ Some o = ap (λ (s : ShardState g.row.J.Denot). s.reserved) c.self.view_is ∙ c.requires.room.shard in
    let k : f.reserved ≡ Some c.in-Some-take.index = cc (c.in-Some-take.ensures.value) in
    let at : object_at f.posts.entries (Some c.in-Some-take.index) ≡ Some o = ap (object_at f.posts.entries) (sym k) ∙ r in
    let m : MustWait told f.log.items (c.args.job, c.args.op) = subst (λ (s : ShardState g.row.J.Denot). MustWait told s.log (c.args.job, c.args.op)) (sym c.self.view_is) c.requires.not_allowed in
    let j = subst (λ w. JoinsPost f.posts.entries o w c.join.new.posts.entries) c.fill.ensures (c.join.ensures o at) in
    let l = joins_line told f.log.items (object_at f.posts.entries f.touched) f.posts.entries c.join.new.posts.entries o (c.args.job, c.args.op) c.self.invariant.0 j refl in
    settled_more told f.log.items (waiting_in f.posts.entries) (waiting_in c.join.new.posts.entries) (c.args.job, c.args.op) l m
    (subst (λ (s : ShardState g.row.J.Denot). All (MustWait told s.log) s.waiting) (sym c.self.view_is) settled)
