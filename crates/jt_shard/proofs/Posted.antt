-- What the calls on posts leave.
use Rattle.std.proofs.Common.{◌≡◌, ℕ, suc, ◌+◌, ◌<◌, ◌≤◌, List, [], ◌∷◌, ◌++◌, Option, Some, None, true, false, refl, sym, ap, ◌∙◌, subst, cond, length, map, take, drop, get_or, arith}
use Rattle.std.specs.Prelude.{if◌then◌else◌}
use Rattle.std.specs.List.{All, HoldsAt, remove}
use Rattle.std.specs.Map.{keys_of}
use Rattle.indexmap.specs.IndexMap.{insert_entry}
use Rattle.std.proofs.lemmas.List.{append-nil, append_assoc, length-append, length-map, map-append, take-append-drop, drop_more}
use Rattle.jt_base.specs.declared.operation.Op.{Op}
use Rattle.jt_base.specs.declared.object.Object.{Object}
use Rattle.jt_base.specs.declared.entry.Ask.TheVariants.{NotYet}
use Rattle.jt_base.specs.Jobs.{Held}
use Rattle.jt_histories.proofs.Lists.{by_test}
use Rattle.jt_shard.specs.declared.post.Post.{Post}
use Rattle.jt_shard.specs.Posts.{equal_objects, key_at, object_at, post_at, with_post, waiting_in, AreDistinct, IsNewPost, KeepsPost, KeepsOrMakesPost, KeepsPosts, AsksPost, AllowsJob, RefusesJob, FirstLeaves, LeavesPost, LeavesPosts}
use Rattle.jt_shard.proofs.Indexes.{more_keys, last_key, stays_at}
use Rattle.jt_shard.proofs.Split.{equal_same, None≢Some, split, waiting_append, waits_round, with_distinct, at_other}

module _ {J : Type 0} where
  -- writing the same post back changes nothing
  pub with_same : (posts : List (Object × Post J)) (o : Object) (post : Post J) → Some post ≡ post_at posts o → with_post posts o post ≡ posts
  with_same [] o post e = refl
  with_same (x ∷ xs) o post e =
      elim (equal_objects o x.0) as (λ b. Some post ≡ cond b (Some x.1) (post_at xs o) → cond b ((x.0, post) ∷ xs) (x ∷ with_post xs o post) ≡ x ∷ xs) [
        | true ↦ λ q. let p : post ≡ x.1 = cc in ap (λ v. (x.0, v) ∷ xs) p
        | false ↦ λ q. ap (λ l. x ∷ l) (with_same xs o post q)
      ] e

  -- where the answer is not yet, nothing changes
  pub asked_same : (posts more : List (Object × Post J)) (o : Object) (task : List ℕ) (op : Op) → AsksPost posts o task op NotYet more → more ≡ posts
  asked_same posts more o task op k =
      k.is ∙ ap (with_post posts o) (k.stays refl) ∙ with_same posts o k.before (sym k.there)

  -- another state: the same jobs wait
  pub same_waiting : (posts : List (Object × Post J)) (o : Object) (before after : Post J) (more : List (Object × Post J)) → AreDistinct posts → Some before ≡ post_at posts o → after.waiting.items ≡ before.waiting.items → more ≡ with_post posts o after → waiting_in more ≡ waiting_in posts
  same_waiting posts o before after more r there g is =
      let s = split posts o before r (sym there) in
      ap waiting_in (is ∙ s.has after) ∙ waits_round s.front s.back o after ∙ ap (λ l. waiting_in s.front ++ (l ++ waiting_in s.back)) g
      ∙ sym (waits_round s.front s.back o before) ∙ sym (ap waiting_in s.had)

  -- posts with more memory
  kept_itself : (q : Object) (o : Option (Post J)) → KeepsOrMakesPost q o o
  kept_itself q None = tt
  kept_itself q (Some a) = record { state = refl; waiting = refl; reserved = λ p. p }

  pub rewritten : (posts : List (Object × Post J)) (o : Object) (before after : Post J) (more : List (Object × Post J)) → AreDistinct posts → Some before ≡ post_at posts o
      → KeepsPost before after → more ≡ with_post posts o after → KeepsPosts posts more
  rewritten posts o before after more r there g is =
      record {
        each = λ q. subst (KeepsOrMakesPost q (post_at posts q)) (sym (ap (λ l. post_at l q) is ∙ at_other posts o before after (sym there) q))
            (by_test (equal_objects o q)
            (λ t. subst (KeepsOrMakesPost q (post_at posts q)) (ap (λ b. cond b (Some after) (post_at posts q)) (sym t))
            (subst (λ p. KeepsOrMakesPost p (post_at posts p) (Some after)) (equal_same o q t) (subst (λ x. KeepsOrMakesPost o x (Some after)) there g)))
            (λ f. subst (KeepsOrMakesPost q (post_at posts q)) (ap (λ b. cond b (Some after) (post_at posts q)) (sym f)) (kept_itself q (post_at posts q))));
        waiting = same_waiting posts o before after more r there g.waiting is;
        distinct = λ p. subst AreDistinct (sym is) (with_distinct posts o after p);
        objects = λ i q e. stays_at posts o after more is i ∙ e;
      }

  -- the post of an object that has none stands last
  insert_last : (posts : List (Object × Post J)) (o : Object) (post : Post J) → post_at posts o ≡ None → insert_entry equal_objects posts o post ≡ posts ++ (o, post) ∷ []
  insert_last [] o post a = refl
  insert_last (x ∷ xs) o post a =
      elim (equal_objects o x.0) as (λ b. cond b (Some x.1) (post_at xs o) ≡ None → (if b then (x.0, post) ∷ xs else x ∷ insert_entry equal_objects xs o post) ≡ x ∷ (xs ++ (o, post) ∷ [])) [
        | true ↦ λ q. absurd (None≢Some x.1 (sym q))
        | false ↦ λ q. ap (λ l. x ∷ l) (insert_last xs o post q)
      ] a

  pub inserted_at : (posts more : List (Object × Post J)) (o : Object) (post : Post J) (n : ℕ) → n ≡ length posts → post_at posts o ≡ None → more ≡ insert_entry equal_objects posts o post → object_at more (Some n) ≡ Some o
  inserted_at posts more o post n len a is =
      ap (λ k. object_at more (Some k)) (len ∙ sym (length-map posts (λ (e : Object × Post J). e.0))) ∙ ap (λ l. key_at (keys_of l) (Some (length (keys_of posts)))) (is ∙ insert_last posts o post a)
      ∙ ap (λ ks. key_at ks (Some (length (keys_of posts)))) (map-append (λ (e : Object × Post J). e.0) posts ((o, post) ∷ [])) ∙ last_key (keys_of posts) o

  insert_waits : (posts : List (Object × Post J)) (o : Object) (post : Post J) → post.waiting.items ≡ [] → post_at posts o ≡ None → waiting_in (insert_entry equal_objects posts o post) ≡ waiting_in posts
  insert_waits posts o post n a =
      ap waiting_in (insert_last posts o post a) ∙ waiting_append posts ((o, post) ∷ []) ∙ ap (λ l. waiting_in posts ++ (l ++ [])) n ∙ append-nil (waiting_in posts)

  made_new : (q : Object) (after : Post J) (o : Option (Post J)) → o ≡ None → IsNewPost q after → KeepsOrMakesPost q o (Some after)
  made_new q after (Some x) a n = absurd (cc)
  made_new q after None a n = n

  pub inserted : (posts : List (Object × Post J)) (o key : Object) (after : Post J) (more : List (Object × Post J)) → key ≡ o → post_at posts o ≡ None → IsNewPost o after
      → more ≡ insert_entry equal_objects posts key after → ((q : Object) → post_at more q ≡ cond (equal_objects key q) (Some after) (post_at posts q)) → AreDistinct more → KeepsPosts posts more
  inserted posts o key after more k a n is u r = record {
    each = λ q. subst (KeepsOrMakesPost q (post_at posts q)) (sym (u q))
        (by_test (equal_objects key q)
        (λ t. subst (KeepsOrMakesPost q (post_at posts q)) (ap (λ b. cond b (Some after) (post_at posts q)) (sym t))
        (let p : o ≡ q = sym k ∙ equal_same key q t in made_new q after (post_at posts q) (ap (post_at posts) (sym p) ∙ a) (subst (λ z. IsNewPost z after) p n)))
        (λ f. subst (KeepsOrMakesPost q (post_at posts q)) (ap (λ b. cond b (Some after) (post_at posts q)) (sym f)) (kept_itself q (post_at posts q))));
    waiting = ap waiting_in is ∙ insert_waits posts key after n.waiting (ap (post_at posts) k ∙ a);
    distinct = λ p. r;
    objects = λ i q e. ap (λ l. key_at (keys_of l) i) (is ∙ insert_last posts key after (ap (post_at posts) k ∙ a)) ∙ ap (λ ks. key_at ks i) (map-append (λ (e : Object × Post J). e.0) posts ((key, after) ∷ [])) ∙ more_keys (keys_of posts) (key ∷ []) i q e;
  }

  -- the jobs of the first post are released
  module _ (jobs result : List J) (o : Object) (post : Post J) (posts rest : List (Object × Post J)) (is : posts ≡ (o, post) ∷ rest) (more : result ≡ jobs ++ map (λ w. w.0) post.waiting.items) where
    pub released_more : (all : List J) → jobs ++ map (λ w. w.0) (waiting_in posts) ≡ all → result ++ map (λ w. w.0) (waiting_in rest) ≡ all
    released_more all e =
        ap (λ l. l ++ map (λ w. w.0) (waiting_in rest)) more ∙ append_assoc jobs (map (λ w. w.0) post.waiting.items) (map (λ w. w.0) (waiting_in rest))
        ∙ ap (λ l. jobs ++ l) (sym (map-append (λ (w : J × Op). w.0) post.waiting.items (waiting_in rest))) ∙ ap (λ p. jobs ++ map (λ w. w.0) (waiting_in p)) (sym is) ∙ e

    pub released_room : (capacity : ℕ) → length jobs + length (waiting_in posts) ≤ capacity → length result + length (waiting_in rest) ≤ capacity
    released_room capacity h =
        let released : length result ≡ length jobs + length post.waiting.items = ap length more ∙ length-append jobs (map (λ w. w.0) post.waiting.items) ∙ ap (λ n. length jobs + n) (length-map post.waiting.items (λ (w : J × Op). w.0)) in
        let waiting : length (waiting_in posts) ≡ length post.waiting.items + length (waiting_in rest) = ap (λ p. length (waiting_in p)) is ∙ length-append post.waiting.items (waiting_in rest) in
        omega (arith, released, waiting, h)

module _ {J S : Type 0} (told : J → Held S) where
  pub left_posts : (posts : List (Object × Post J)) (o : Object) (before : Post J) (result : Option (J × Op)) (after : Post J) (left : List (Object × Post J)) → LeavesPost told before result after → Some before ≡ post_at posts o → left ≡ with_post posts o after → LeavesPosts told posts o result left
  left_posts posts o before (Some w) after left l there is = (before, after, sym there, l, is)
  left_posts posts o before None after left l there is = (
    λ post e. let p : post ≡ before = cc in subst (λ (v : Post J). All (RefusesJob told v) v.waiting.items) (sym p) l.0,
    is ∙ ap (with_post posts o) l.1 ∙ with_same posts o before there,
  )

  -- the job at a place leaves
  pub left_post : (before : Post J) (i : ℕ) (w : J × Op) (after : Post J) → i < length before.waiting.items → All (RefusesJob told before) (take i before.waiting.items) → HoldsAt (AllowsJob told before) before.waiting.items i
      → w ≡ get_or before.waiting.items i w → after.waiting.items ≡ remove before.waiting.items i → after.state ≡ before.state → FirstLeaves told before w after
  left_post before i w after l r h v m c = let n : suc i ≡ i + 1 = omega arith in record {
    front = take i before.waiting.items;
    back = drop (i + 1) before.waiting.items;
    had = sym (take-append-drop i before.waiting.items)
        ∙ ap (λ (l : List (J × Op)). take i before.waiting.items ++ l) (drop_more before.waiting.items i w l ∙ ap (λ (x : J × Op). x ∷ drop (i + 1) before.waiting.items) (sym v));
    has = m ∙ ap (λ (k : ℕ). take i before.waiting.items ++ drop k before.waiting.items) n;
    refused = r;
    allowed = subst (AllowsJob told before) (sym v) (h w);
    state = c;
  }
