-- The lines at the objects, when a job joins one or leaves one.
use Rattle.std.proofs.Common.{◌≡◌, List, [], ◌∷◌, ◌++◌, Option, Some, Bool, true, false, refl, sym, ap, ◌∙◌, subst, cond, get_or}
use Rattle.std.specs.Prelude.{filter}
use Rattle.std.specs.List.{All}
use Rattle.std.specs.List.Sorted.{IsPermutation}
use Rattle.std.proofs.lemmas.Bool.{false≢true}
use Rattle.std.proofs.lemmas.List.{append-nil, append_assoc}
use Rattle.std.proofs.lemmas.List.Elements.{All-head, All-tail, All-filter, filter-append}
use Rattle.std.proofs.lemmas.List.Sorted.{IsPermutation-middle, IsPermutation-sym}
use Rattle.jt_base.specs.declared.operation.Op.{Op}
use Rattle.jt_base.specs.declared.operation.Reply.{Reply}
use Rattle.jt_base.specs.declared.entry.Entry.{Entry}
use Rattle.jt_base.specs.Jobs.{Held}
use Rattle.jt_base.specs.declared.object.Object.{Object}
use Rattle.jt_laws.specs.Entries.{same_object}
use Rattle.jt_histories.proofs.Lists.{by_test, same_object_refl, same_object_true}
use Rattle.jt_shard.specs.declared.post.Post.{Post}
use Rattle.jt_shard.specs.Shards.{object_for, reply_now, MustWait, line}
use Rattle.jt_shard.specs.Posts.{equal_objects, post_at, with_post, line_of, waiting_in, FirstLeaves, JoinsPost, ArePosts}
use Rattle.jt_shard.proofs.Split.{equal_same, apart, All-left, All-right, all_waiting, each_entry, split, waits_round}
use Rattle.jt_shard.proofs.Sound.{some_same, post_is, allowed_now, all_refused}

module _ {X : Type 0} (f : X → Bool) where
  filter_nothing : (xs : List X) → All (λ x. f x ≡ false) xs → filter f xs ≡ []
  filter_nothing [] h = refl
  filter_nothing (x ∷ xs) h =
      ap (λ b. cond b (x ∷ filter f xs) (filter f xs)) (All-head (λ y. f y ≡ false) x xs h) ∙ filter_nothing xs (All-tail (λ y. f y ≡ false) x xs h)

  filter_yes : (x : X) (xs : List X) → f x ≡ true → filter f (x ∷ xs) ≡ x ∷ filter f xs
  filter_yes x xs e = ap (λ b. cond b (x ∷ filter f xs) (filter f xs)) e

  filter_no : (x : X) (xs : List X) → f x ≡ false → filter f (x ∷ xs) ≡ filter f xs
  filter_no x xs e = ap (λ b. cond b (x ∷ filter f xs) (filter f xs)) e

  filter_parts : (front mid back : List X) → filter f (front ++ (mid ++ back)) ≡ filter f front ++ (filter f mid ++ filter f back)
  filter_parts front mid back =
      filter-append f front (mid ++ back) ∙ ap (λ l. filter f front ++ l) (filter-append f mid back)

  -- nothing passes before and behind
  filter_mid : (front mid back : List X) → filter f front ≡ [] → filter f back ≡ [] → filter f (front ++ (mid ++ back)) ≡ filter f mid
  filter_mid front mid back n m =
      filter_parts front mid back ∙ ap (λ l. l ++ (filter f mid ++ filter f back)) n ∙ ap (λ l. filter f mid ++ l) m ∙ append-nil (filter f mid)

  filter_same : (front mid new back : List X) → filter f new ≡ filter f mid → filter f (front ++ (new ++ back)) ≡ filter f (front ++ (mid ++ back))
  filter_same front mid new back e =
      filter_parts front new back ∙ ap (λ l. filter f front ++ (l ++ filter f back)) e ∙ sym (filter_parts front mid back)

module _ {X : Type 0} where
  joins_in : (front mid back : List X) (w : X) → IsPermutation (w ∷ (front ++ (mid ++ back))) (front ++ ((mid ++ w ∷ []) ++ back))
  joins_in front mid back w =
      subst (λ l. IsPermutation (w ∷ (front ++ (mid ++ back))) l)
      (append_assoc front mid (w ∷ back) ∙ ap (λ l. front ++ l) (sym (append_assoc mid (w ∷ []) back)))
      (subst (λ l. IsPermutation (w ∷ l) ((front ++ mid) ++ w ∷ back)) (append_assoc front mid back)
      (IsPermutation-sym ((front ++ mid) ++ w ∷ back) (w ∷ ((front ++ mid) ++ back)) (IsPermutation-middle (front ++ mid) w back)))

  leaves_out : (front a b back : List X) (w : X) → IsPermutation (front ++ ((a ++ w ∷ b) ++ back)) (w ∷ (front ++ ((a ++ b) ++ back)))
  leaves_out front a b back w =
      subst (λ l. IsPermutation l (w ∷ (front ++ ((a ++ b) ++ back))))
      (append_assoc front a (w ∷ (b ++ back)) ∙ ap (λ l. front ++ l) (sym (append_assoc a (w ∷ b) back)))
      (subst (λ l. IsPermutation ((front ++ a) ++ w ∷ (b ++ back)) (w ∷ l)) (append_assoc front a (b ++ back) ∙ ap (λ l. front ++ l) (sym (append_assoc a b back)))
      (IsPermutation-middle (front ++ a) w (b ++ back)))

apart_objects : (o q : Object) → (o ≡ q → ⊥) → same_object o q ≡ false
apart_objects o q n = by_test (same_object o q) (λ t. absurd (n (same_object_true o q t))) (λ f. f)

module _ {J S : Type 0} (told : J → Held S) where
  -- nobody waits for an object at other posts
  none_elsewhere : (key : Object) (es : List (Object × Post J)) → All (λ e. All (λ w. object_for told w.0 w.1 ≡ e.0) (line_of e)) es → All (λ e. e.0 ≡ key → ⊥) es → (o : Object) → o ≡ key → line told o (waiting_in es) ≡ []
  none_elsewhere key es h n o is =
      filter_nothing (λ w. same_object (object_for told w.0 w.1) o) (waiting_in es)
      (all_waiting (λ w. same_object (object_for told w.0 w.1) o ≡ false) es
      (λ k d l i x m. ap (λ z. same_object z o) (h k d l i x m) ∙ ap (same_object (get_or es k d).0) is ∙ apart_objects (get_or es k d).0 key (n k d l)))

  here_all : (log : List Entry) (t : Option Object) (posts : List (Object × Post J)) → ArePosts told log t posts → All (λ e. All (λ w. object_for told w.0 w.1 ≡ e.0) (line_of e)) posts
  here_all log t posts a =
      each_entry (λ q v. All (λ w. object_for told w.0 w.1 ≡ q) v.waiting.items) posts a.distinct (λ q v e. (post_is told log t posts q v a e).here)

  -- the lists of a post's neighbours
  pub record Round (posts : List (Object × Post J)) (key : Object) (before : Post J) : Type 0 where
    pub front : List (J × Op)
    pub back : List (J × Op)
    pub had : waiting_in posts ≡ front ++ (before.waiting.items ++ back)
    pub has : (after : Post J) → waiting_in (with_post posts key after) ≡ front ++ (after.waiting.items ++ back)
    pub front_none : (o : Object) → o ≡ key → line told o front ≡ []
    pub back_none : (o : Object) → o ≡ key → line told o back ≡ []

  pub round : (log : List Entry) (t : Option Object) (posts : List (Object × Post J)) (key : Object) (before : Post J) → ArePosts told log t posts → post_at posts key ≡ Some before → Round posts key before
  round log t posts key before a there =
      let s = split posts key before a.distinct there in
      let h = subst (All (λ e. All (λ w. object_for told w.0 w.1 ≡ e.0) (line_of e))) s.had (here_all log t posts a) in
      record {
        front = waiting_in s.front;
        back = waiting_in s.back;
        had = ap waiting_in s.had ∙ waits_round s.front s.back key before;
        has = λ after. ap waiting_in (s.has after) ∙ waits_round s.front s.back key after;
        front_none = none_elsewhere key s.front (All-left (λ e. All (λ w. object_for told w.0 w.1 ≡ e.0) (line_of e)) s.front ((key, before) ∷ s.back) h) s.front_apart;
        back_none = none_elsewhere key s.back
            (All-tail (λ e. All (λ w. object_for told w.0 w.1 ≡ e.0) (line_of e)) (key, before) s.back (All-right (λ e. All (λ w. object_for told w.0 w.1 ≡ e.0) (line_of e)) s.front ((key, before) ∷ s.back) h)) s.back_apart;
      }

  -- a job joins
  pub record JoinsLine (waiting : List (J × Op)) (w : J × Op) (more : List (J × Op)) : Type 0 where
    pub permuted : IsPermutation (w ∷ waiting) more
    pub own : line told (object_for told w.0 w.1) more ≡ line told (object_for told w.0 w.1) waiting ++ w ∷ []
    pub others : (o : Object) → same_object (object_for told w.0 w.1) o ≡ false → line told o more ≡ line told o waiting

  pub joins_line : (log : List Entry) (t : Option Object) (posts joined : List (Object × Post J)) (key : Object) (w : J × Op) → ArePosts told log t posts → JoinsPost posts key w joined → object_for told w.0 w.1 ≡ key → JoinsLine (waiting_in posts) w (waiting_in joined)
  joins_line log t posts joined key w a j o =
      let r = round log t posts key j.before a j.there in
      let mine = object_for told w.0 w.1 in
      let new : waiting_in joined ≡ r.front ++ ((j.before.waiting.items ++ w ∷ []) ++ r.back) = ap waiting_in j.is ∙ r.has j.after ∙ ap (λ l. r.front ++ (l ++ r.back)) j.waiting in
      record {
        permuted = subst (λ l. IsPermutation (w ∷ waiting_in posts) l) (sym new) (subst (λ l. IsPermutation (w ∷ l) (r.front ++ ((j.before.waiting.items ++ w ∷ []) ++ r.back))) (sym r.had) (joins_in r.front j.before.waiting.items r.back w));
        own = ap (line told mine) new
            ∙ filter_mid (λ v. same_object (object_for told v.0 v.1) mine) r.front (j.before.waiting.items ++ w ∷ []) r.back (r.front_none mine o) (r.back_none mine o)
            ∙ filter-append (λ v. same_object (object_for told v.0 v.1) mine) j.before.waiting.items (w ∷ [])
            ∙ ap (λ l. line told mine j.before.waiting.items ++ l) (filter_yes (λ v. same_object (object_for told v.0 v.1) mine) w [] (same_object_refl mine))
            ∙ ap (λ l. l ++ w ∷ []) (sym (ap (line told mine) r.had ∙ filter_mid (λ v. same_object (object_for told v.0 v.1) mine) r.front j.before.waiting.items r.back (r.front_none mine o) (r.back_none mine o)));
        others = λ q n. ap (line told q) new
            ∙ filter_same (λ v. same_object (object_for told v.0 v.1) q) r.front j.before.waiting.items (j.before.waiting.items ++ w ∷ []) r.back
            (filter-append (λ v. same_object (object_for told v.0 v.1) q) j.before.waiting.items (w ∷ [])
            ∙ ap (λ l. line told q j.before.waiting.items ++ l) (filter_no (λ v. same_object (object_for told v.0 v.1) q) w [] n) ∙ append-nil (line told q j.before.waiting.items))
            ∙ sym (ap (line told q) r.had);
      }

  -- the first allowed job leaves
  pub record LeavesLine (log : List Entry) (waiting : List (J × Op)) (w : J × Op) (less : List (J × Op)) : Type 0 where
    pub allowed : (reply : Reply) × (reply_now told log w.0 w.1 ≡ Some reply)
    pub one_line : All (λ v. same_object (object_for told v.0 v.1) (object_for told w.0 w.1) ≡ false → MustWait told log v) waiting
    pub front : List (J × Op)
    pub back : List (J × Op)
    pub front_waits : All (MustWait told log) front
    pub own : line told (object_for told w.0 w.1) waiting ≡ front ++ w ∷ back
    pub own_left : line told (object_for told w.0 w.1) less ≡ front ++ back
    pub others : (o : Object) → same_object (object_for told w.0 w.1) o ≡ false → line told o less ≡ line told o waiting
    pub permuted : IsPermutation waiting (w ∷ less)

  others_wait : (log : List Entry) (key : Object) (posts : List (Object × Post J)) (o : Object) → o ≡ key → ArePosts told log (Some key) posts → All (λ v. same_object (object_for told v.0 v.1) o ≡ false → MustWait told log v) (waiting_in posts)
  others_wait log key posts o is a =
      all_waiting (λ v. same_object (object_for told v.0 v.1) o ≡ false → MustWait told log v) posts
      (each_entry (λ q p. All (λ v. same_object (object_for told v.0 v.1) o ≡ false → MustWait told log v) p.waiting.items) posts a.distinct
      (λ q p e. let i = post_is told log (Some key) posts q p a e in
      λ k d l n. by_test (equal_objects key q)
      (λ t. absurd (false≢true (sym n ∙ ap (λ z. same_object z o) (i.here k d l) ∙ ap (λ z. same_object z o) (sym (equal_same key q t)) ∙ ap (same_object key) is ∙ same_object_refl key)))
      (λ f. i.settled (λ s. apart key q f (some_same key q s)) k d l)))

  pub leaves_line : (log : List Entry) (posts : List (Object × Post J)) (key : Object) (before after : Post J) (w : J × Op) → ArePosts told log (Some key) posts → post_at posts key ≡ Some before → FirstLeaves told before w after → LeavesLine log (waiting_in posts) w (waiting_in (with_post posts key after))
  leaves_line log posts key before after w a there v =
      let r = round log (Some key) posts key before a there in
      let i = post_is told log (Some key) posts key before a there in
      let here = subst (All (λ x. object_for told x.0 x.1 ≡ key)) v.had i.here in
      let o : object_for told w.0 w.1 ≡ key = All-head (λ x. object_for told x.0 x.1 ≡ key) w v.back (All-right (λ x. object_for told x.0 x.1 ≡ key) v.front (w ∷ v.back) here) in
      let mine = object_for told w.0 w.1 in
      let old : waiting_in posts ≡ r.front ++ ((v.front ++ w ∷ v.back) ++ r.back) = r.had ∙ ap (λ l. r.front ++ (l ++ r.back)) v.had in
      let new : waiting_in (with_post posts key after) ≡ r.front ++ ((v.front ++ v.back) ++ r.back) = r.has after ∙ ap (λ l. r.front ++ (l ++ r.back)) v.has in
      record {
        allowed = allowed_now told log (Some key) key before w a.lawful i o v.allowed;
        one_line = others_wait log key posts mine o a;
        front = line told mine v.front;
        back = line told mine v.back;
        front_waits = All-filter (λ x. same_object (object_for told x.0 x.1) mine) (MustWait told log) v.front
            (all_refused told log (Some key) key before v.front a.lawful i (All-left (λ x. object_for told x.0 x.1 ≡ key) v.front (w ∷ v.back) here) v.refused);
        own = ap (line told mine) old
            ∙ filter_mid (λ x. same_object (object_for told x.0 x.1) mine) r.front (v.front ++ w ∷ v.back) r.back (r.front_none mine o) (r.back_none mine o)
            ∙ filter-append (λ x. same_object (object_for told x.0 x.1) mine) v.front (w ∷ v.back)
            ∙ ap (λ l. line told mine v.front ++ l) (filter_yes (λ x. same_object (object_for told x.0 x.1) mine) w v.back (same_object_refl mine));
        own_left = ap (line told mine) new
            ∙ filter_mid (λ x. same_object (object_for told x.0 x.1) mine) r.front (v.front ++ v.back) r.back (r.front_none mine o) (r.back_none mine o)
            ∙ filter-append (λ x. same_object (object_for told x.0 x.1) mine) v.front v.back;
        others = λ q n. ap (line told q) new
            ∙ filter_same (λ x. same_object (object_for told x.0 x.1) q) r.front (v.front ++ w ∷ v.back) (v.front ++ v.back) r.back
            (filter-append (λ x. same_object (object_for told x.0 x.1) q) v.front v.back
            ∙ ap (λ l. line told q v.front ++ l) (sym (filter_no (λ x. same_object (object_for told x.0 x.1) q) w v.back n))
            ∙ sym (filter-append (λ x. same_object (object_for told x.0 x.1) q) v.front (w ∷ v.back)))
            ∙ sym (ap (line told q) old);
        permuted = subst (λ l. IsPermutation (waiting_in posts) (w ∷ l)) (sym new) (subst (λ l. IsPermutation l (w ∷ (r.front ++ ((v.front ++ v.back) ++ r.back)))) (sym old) (leaves_out r.front v.front v.back r.back w));
      }
