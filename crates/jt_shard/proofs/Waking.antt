-- A job that is woken leaves its line; where none is, the shard is settled.
use Rattle.std.proofs.Common.{◌≡◌, ℕ, ◌-◌, ◌≤◌, List, ◌∷◌, Option, Some, None, true, false, refl, sym, ap, subst, arith, length}
use Rattle.std.specs.Prelude.{Vec, is_some}
use Rattle.std.specs.Global.{Global}
use Rattle.std.specs.List.{All}
use Rattle.std.proofs.lemmas.List.Sorted.{length_permutation}
use Rattle.jt_base.specs.declared.operation.Op.{Op}
use Rattle.jt_base.specs.declared.entry.Entry.{Entry}
use Rattle.jt_base.specs.Jobs.{Held}
use Rattle.jt_base.specs.declared.object.Object.{Object}
use Rattle.jt_shard.specs.declared.post.Post.{Post}
use Rattle.jt_shard.specs.Shards.{ShardState, MustWait, IsSettled}
use Rattle.jt_shard.specs.Calls.{WakesNext}
use Rattle.jt_shard.specs.Posts.{object_at, waiting_in, LeavesPosts, LeavesAt, IsCounted, ArePosts}
use Rattle.jt_shard.proofs.Indexes.{stays_at}
use Rattle.jt_shard.proofs.Sound.{left_are, untouched, all_must_wait}
use Rattle.jt_shard.proofs.Lines.{LeavesLine, leaves_line}
use Rattle.jt_shard.proofs.Room.{counted_less}
use Rattle.jt_shard.proofs.States.{wakes_of}

module _ {J S : Type 0} (told : J → Held S) where
  -- a job that leaves left the line of the index's object
  object_of_leaver : (posts : List (Object × Post J)) (t : Option Object) (r : Option (J × Op)) (left : List (Object × Post J)) → is_some r ≡ true → LeavesAt told posts t r left → (o : Object) × (w : J × Op) × (t ≡ Some o) × (r ≡ Some w) × LeavesPosts told posts o (Some w) left
  object_of_leaver posts None None left s l = absurd (cc)
  object_of_leaver posts None (Some w) left s l = absurd (let no : Some w ≡ None = l.0 in cc)
  object_of_leaver posts (Some o) None left s l = absurd (cc)
  object_of_leaver posts (Some o) (Some w) left s l = (o, w, refl, refl, l)

  pub woken_are : (log : List Entry) (posts : List (Object × Post J)) (t : Option Object) (r : Option (J × Op)) (left : List (Object × Post J)) → is_some r ≡ true → LeavesAt told posts t r left → ArePosts told log t posts → ArePosts told log t left
  woken_are log posts t r left s l a =
      let v = object_of_leaver posts t r left s l in
      subst (ArePosts told log t) (sym v.4.4) (left_are told log t posts v.0 v.4.0 v.4.1 v.1 a v.4.2 v.4.3)

  left_line : (log : List Entry) (posts : List (Object × Post J)) (t : Option Object) (r : Option (J × Op)) (left : List (Object × Post J)) → is_some r ≡ true → LeavesAt told posts t r left → ArePosts told log t posts → (w : J × Op) × (r ≡ Some w) × LeavesLine told log (waiting_in posts) w (waiting_in left)
  left_line log posts t r left s l a =
      let v = object_of_leaver posts t r left s l in
      (v.1, v.3, subst (λ p. LeavesLine told log (waiting_in posts) v.1 (waiting_in p)) (sym v.4.4) (leaves_line told log posts v.0 v.4.0 v.4.1 v.1 (subst (λ x. ArePosts told log x posts) v.2 a) v.4.2 v.4.3))

  pub woken_some : (log : List Entry) (posts : List (Object × Post J)) (t : Option Object) (r : Option (J × Op)) (left : List (Object × Post J)) (n : ℕ) (jobs : Vec J Global) → is_some r ≡ true → LeavesAt told posts t r left → ArePosts told log t posts → IsCounted posts n jobs → 1 ≤ n
  woken_some log posts t r left n jobs s l a c =
      let p = left_line log posts t r left s l a in
      let e : length (p.0 ∷ waiting_in left) ≡ length (waiting_in posts) = length_permutation (waiting_in posts) (p.0 ∷ waiting_in left) p.2.permuted in
      omega (arith, c.counted, e)

  pub woken_counted : (log : List Entry) (posts : List (Object × Post J)) (t : Option Object) (r : Option (J × Op)) (left : List (Object × Post J)) (n : ℕ) (jobs : Vec J Global) → is_some r ≡ true → LeavesAt told posts t r left → ArePosts told log t posts → IsCounted posts n jobs → IsCounted left (n - 1) jobs
  woken_counted log posts t r left n jobs s l a c =
      let p = left_line log posts t r left s l a in counted_less posts left n jobs p.0 c p.2.permuted

  pub woken_wakes : (s s' : ShardState J) (log : List Entry) (posts : List (Object × Post J)) (t : Option Object) (r : Option (J × Op)) (left : List (Object × Post J)) → is_some r ≡ true → LeavesAt told posts t r left → ArePosts told log t posts
      → log ≡ s.log → waiting_in posts ≡ s.waiting → waiting_in left ≡ s'.waiting → s' ≡ record s { waiting = s'.waiting; reserved = None } → WakesNext told s r s'
  woken_wakes s s' log posts t r left is l a e f h k =
      let p = left_line log posts t r left is l a in
      subst (λ x. WakesNext told s x s') (sym p.1)
      (wakes_of told s s' p.0 k
      (subst (λ x. LeavesLine told s.log s.waiting p.0 x) h (subst (λ x. LeavesLine told s.log x p.0 (waiting_in left)) f (subst (λ x. LeavesLine told x (waiting_in posts) p.0 (waiting_in left)) e p.2))))

  pub asleep_same : (posts : List (Object × Post J)) (t : Option Object) (r : Option (J × Op)) (left : List (Object × Post J)) → is_some r ≡ false → LeavesAt told posts t r left → left ≡ posts
  asleep_same posts None r left s l = l.1
  asleep_same posts (Some o) (Some w) left s l = absurd (cc)
  asleep_same posts (Some o) None left s l = l.1

  pub asleep_are : (log : List Entry) (posts : List (Object × Post J)) (t : Option Object) (r : Option (J × Op)) (left : List (Object × Post J)) → is_some r ≡ false → LeavesAt told posts t r left → ArePosts told log t posts → ArePosts told log None posts
  asleep_are log posts None r left s l a = a
  asleep_are log posts (Some o) (Some w) left s l a = absurd (cc)
  asleep_are log posts (Some o) None left s l a = untouched told log o posts a l.0

  -- the objects stay at their indexes
  pub left_at : (posts : List (Object × Post J)) (t : Option Object) (r : Option (J × Op)) (left : List (Object × Post J)) (i : Option ℕ) → LeavesAt told posts t r left → object_at left i ≡ object_at posts i
  left_at posts None r left i l = ap (λ p. object_at p i) l.1
  left_at posts (Some o) None left i l = ap (λ p. object_at p i) l.1
  left_at posts (Some o) (Some w) left i l = stays_at posts o l.1 left l.4 i

  settles : (s : ShardState J) (log : List Entry) (waiting : List (J × Op)) → log ≡ s.log → waiting ≡ s.waiting → All (MustWait told log) waiting → IsSettled told s
  settles s log waiting e f a = subst (λ x. All (MustWait told s.log) x) f (subst (λ x. All (MustWait told x) waiting) e a)

  pub asleep_wakes : (s s' : ShardState J) (log : List Entry) (posts : List (Object × Post J)) (r : Option (J × Op)) → is_some r ≡ false → ArePosts told log None posts → log ≡ s.log → waiting_in posts ≡ s.waiting → s' ≡ s → WakesNext told s r s'
  asleep_wakes s s' log posts (Some w) is a e f k = absurd (cc)
  asleep_wakes s s' log posts None is a e f k = (settles s log (waiting_in posts) e f (all_must_wait told log posts a), k)
