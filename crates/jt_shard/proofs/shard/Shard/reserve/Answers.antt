-- Posts and lists with more memory are the same to those who ask them.
use Rattle.std.proofs.Common.{◌≤◌, ◌+◌, List, arith, ap, sym, subst}
use Rattle.std.specs.Vec.{vec_capacity}
use Rattle.jt_base.specs.declared.entry.Entry.{Entry}
use Rattle.jt_shard.specs.Posts.{key_at, object_at, HasMemoryIf, IsStamped, ArePosts}
use Rattle.jt_shard.proofs.Sound.{kept_at}
use Rattle.jt_shard.proofs.Room.{memory_kept, counted_kept, memory_made}
use Rattle.jt_shard.proofs.shard.Shard.reserve.Goals as goal

pub invariant_of-self-in_err-index : goal.invariant_of-self-in_err-index
invariant_of-self-in_err-index g c =
    let f = c.self.inside in
    let more = c.reserve_at.new.posts.entries in (
      subst (λ (l : List Entry). ArePosts g.J.Job.told l (object_at more f.touched) more) (sym c.reserve-2.ensures.items) (kept_at g.J.Job.told f.log.items f.touched f.posts.entries more c.self.invariant.0 c.reserve_at.ensures.kept),
      (
        counted_kept f.posts.entries more f.count f.jobs c.reserve.new.self c.self.invariant.1.0 c.reserve_at.ensures.kept c.reserve.ensures.items c.reserve.ensures.capacity,
        (
          subst (HasMemoryIf c.reserve-2.new.self c.reserve.new.self c.reserve_spare.new.spare more) (sym (ap (λ ks. key_at ks f.reserved) c.in_err-index.ensures.err))
              (memory_kept f.log c.reserve-2.new.self f.jobs c.reserve.new.self f.spare c.reserve_spare.new.spare f.posts.entries more (object_at f.posts.entries f.reserved) c.reserve_at.ensures.kept c.reserve-2.ensures.len c.reserve-2.ensures.capacity c.reserve.ensures.capacity c.reserve_spare.ensures.kept c.self.invariant.1.1.0),
          subst IsStamped (sym c.reserve-2.ensures.items) c.self.invariant.1.1.1,
        ),
      ),
    )

pub invariant_of-self-2 : goal.invariant_of-self-2
invariant_of-self-2 g c =
    let f = c.self.inside in
    let more = c.reserve_at.new.posts.entries in
    let room : f.count + 1 ≤ vec_capacity c.reserve.new.self = omega (arith, c.in_ok-reserve.ensures.ok, c.in-Some.ensures) in (
      subst (λ (l : List Entry). ArePosts g.J.Job.told l (object_at more f.touched) more) (sym c.reserve-2.ensures.items) (kept_at g.J.Job.told f.log.items f.touched f.posts.entries more c.self.invariant.0 c.reserve_at.ensures.kept),
      (
        counted_kept f.posts.entries more f.count f.jobs c.reserve.new.self c.self.invariant.1.0 c.reserve_at.ensures.kept c.reserve.ensures.items c.reserve.ensures.capacity,
        (
          subst (HasMemoryIf c.reserve-2.new.self c.reserve.new.self c.reserve_spare.new.spare more) (sym c.in_ok-index.ensures.index)
              (memory_made c.reserve-2.new.self c.reserve.new.self c.reserve_spare.new.spare f.posts.entries more f.count c.of-object.result c.self.invariant.1.0.counted c.reserve_at.ensures.kept c.in_ok-reserve-2.ensures.ok room c.in_ok-reserve_spare.ensures.there c.in_ok-index.ensures.reserved),
          subst IsStamped (sym c.reserve-2.ensures.items) c.self.invariant.1.1.1,
        ),
      ),
    )
