-- Memory that is reserved, and the count of the waiting jobs.
use Rattle.std.proofs.Common.{◌≡◌, ℕ, ◌+◌, ◌-◌, ◌<◌, ◌≤◌, List, ◌∷◌, Option, Some, None, refl, sym, ap, ◌∙◌, subst, arith, length}
use Rattle.std.specs.Prelude.{Vec, vec_len, IsSome}
use Rattle.std.specs.Global.{Global}
use Rattle.std.specs.Vec.{vec_capacity}
use Rattle.std.specs.List.Sorted.{IsPermutation}
use Rattle.std.proofs.lemmas.List.Sorted.{length_permutation}
use Rattle.jt_base.specs.declared.operation.Op.{Op}
use Rattle.jt_base.specs.declared.entry.Entry.{Entry}
use Rattle.jt_base.specs.declared.object.Object.{Object}
use Rattle.jt_base.specs.declared.operation.Op.TheVariants.{Put, Offer, CWait}
use Rattle.jt_objects.specs.Needs.{HasChannelRoom, HasConditionRoom}
use Rattle.jt_shard.specs.declared.post.Post.{Post}
use Rattle.jt_shard.specs.declared.spare.Spare.{Spare}
use Rattle.jt_shard.specs.Posts.{post_at, waiting_in, HasReservedPost, KeepsOrMakesPost, KeepsPosts, HasMemory, HasMemoryIf, IsCounted}

module _ {J : Type 0} where
  pub memory_at : (log : Vec Entry Global) (jobs : Vec J Global) (spare : Option (Spare (J × Op))) (posts : List (Object × Post J)) (r : Option Object) (o : Object) → HasMemoryIf log jobs spare posts r → r ≡ Some o → HasMemory log jobs spare posts o
  memory_at log jobs spare posts r o m e = subst (HasMemoryIf log jobs spare posts) e m

  -- the reserved object has a post
  pub post_of : (log : Vec Entry Global) (jobs : Vec J Global) (spare : Option (Spare (J × Op))) (posts : List (Object × Post J)) (r : Option Object) (o : Object) → HasMemoryIf log jobs spare posts r → r ≡ Some o → (post : Post J) × (post_at posts o ≡ Some post)
  post_of log jobs spare posts r o m e = let p = (memory_at log jobs spare posts r o m e).post in (p.0, p.1)

  pub counted_more : (posts more : List (Object × Post J)) (n : ℕ) (jobs : Vec J Global) (w : J × Op) → IsCounted posts n jobs → length (waiting_in posts) < vec_capacity jobs → IsPermutation (w ∷ waiting_in posts) (waiting_in more) → IsCounted more (n + 1) jobs
  counted_more posts more n jobs w c l p =
      let e : length (waiting_in more) ≡ length (w ∷ waiting_in posts) = length_permutation (w ∷ waiting_in posts) (waiting_in more) p in
      record { counted = omega (arith, c.counted, e); none = c.none; room = omega (arith, e) }

  pub counted_less : (posts less : List (Object × Post J)) (n : ℕ) (jobs : Vec J Global) (w : J × Op) → IsCounted posts n jobs → IsPermutation (waiting_in posts) (w ∷ waiting_in less) → IsCounted less (n - 1) jobs
  counted_less posts less n jobs w c p =
      let e : length (w ∷ waiting_in less) ≡ length (waiting_in posts) = length_permutation (waiting_in posts) (w ∷ waiting_in less) p in
      record { counted = omega (arith, c.counted, e); none = c.none; room = omega (arith, c.room, e) }

  pub counted_same : (posts more : List (Object × Post J)) (n : ℕ) (jobs : Vec J Global) → IsCounted posts n jobs → waiting_in more ≡ waiting_in posts → IsCounted more n jobs
  counted_same posts more n jobs c e = record {
    counted = c.counted ∙ ap length (sym e);
    none = c.none;
    room = subst (λ (ws : List (J × Op)). length ws ≤ vec_capacity jobs) (sym e) c.room;
  }

  -- more memory keeps what is reserved
  has_post : (posts more : List (Object × Post J)) (o : Object) → KeepsPosts posts more → HasReservedPost posts o → HasReservedPost more o
  has_post posts more o g h = by_post (post_at more o) refl (subst (λ p. KeepsOrMakesPost o p (post_at more o)) h.1 (g.each o))
    where
      by_post : (n : Option (Post J)) → post_at more o ≡ n → KeepsOrMakesPost o (Some h.0) n → HasReservedPost more o
      by_post None e p = absurd p
      by_post (Some b) e p = (b, e, p.reserved h.2)

  pub memory_kept : (log log' : Vec Entry Global) (jobs jobs' : Vec J Global) (spare spare' : Option (Spare (J × Op))) (posts more : List (Object × Post J)) (r : Option Object) → KeepsPosts posts more → vec_len log' ≡ vec_len log → vec_capacity log ≤ vec_capacity log' → vec_capacity jobs ≤ vec_capacity jobs' → (IsSome spare → IsSome spare') → HasMemoryIf log jobs spare posts r → HasMemoryIf log' jobs' spare' more r
  memory_kept log log' jobs jobs' spare spare' posts more None g l k m s h = tt
  memory_kept log log' jobs jobs' spare spare' posts more (Some at) g l k m s h = record {
    entry = omega (arith, h.entry);
    job = let e : length (waiting_in more) ≡ length (waiting_in posts) = ap length g.waiting in omega (arith, h.job, e);
    spare = s h.spare;
    post = has_post posts more at g h.post;
  }

  pub counted_kept : (posts more : List (Object × Post J)) (n : ℕ) (jobs jobs' : Vec J Global) → IsCounted posts n jobs → KeepsPosts posts more → jobs'.items ≡ jobs.items → vec_capacity jobs ≤ vec_capacity jobs' → IsCounted more n jobs'
  counted_kept posts more n jobs jobs' c g i k =
      let e : length (waiting_in more) ≡ length (waiting_in posts) = ap length g.waiting in
      record { counted = c.counted ∙ sym e; none = i ∙ c.none; room = omega (arith, c.room, e) }

  -- room for an entry and for one more job
  pub memory_made : (log : Vec Entry Global) (jobs : Vec J Global) (spare : Option (Spare (J × Op))) (posts more : List (Object × Post J)) (n : ℕ) (at : Object) → n ≡ length (waiting_in posts) → KeepsPosts posts more → vec_len log + 1 ≤ vec_capacity log → n + 1 ≤ vec_capacity jobs → IsSome spare → HasReservedPost more at → HasMemory log jobs spare more at
  memory_made log jobs spare posts more n at c g l k s p = record {
    entry = omega arith;
    job = let e : length (waiting_in more) ≡ length (waiting_in posts) = ap length g.waiting in omega (arith, e);
    spare = s;
    post = p;
  }

-- more room in a channel or in a condition
pub more_in_channel : (a b : ℕ) (op : Op) → a ≤ b → HasChannelRoom a op → HasChannelRoom b op
more_in_channel a b (Put name v) l h = omega (arith, l, h)
more_in_channel a b (Offer name v) l h = omega (arith, l, h)
more_in_channel a b op l h = tt

pub more_in_condition : (a b : ℕ) (op : Op) → a ≤ b → HasConditionRoom a op → HasConditionRoom b op
more_in_condition a b (CWait name) l h = omega (arith, l, h)
more_in_condition a b op l h = tt
