-- Posts by object: the one of an object, with those before and behind it.
use Rattle.std.proofs.Common.{◌≡◌, ℕ, List, [], ◌∷◌, ◌++◌, Option, Some, None, true, false, refl, sym, ap, ◌∙◌, subst, cond}
use Rattle.std.specs.List.{All, AllByRecursion, Contains, IsDistinct}
use Rattle.std.specs.Map.{keys_of}
use Rattle.std.specs.Cmp.{IsEquivalence}
use Rattle.std.specs.Cmp.Lexicographic.{pointwise, bytes_decides}
use Rattle.std.specs.Option.{IsSome}
use Rattle.std.specs.Prelude.{nat_eq}
use Rattle.std.proofs.lemmas.Bool.{eqb-true, and_parts, false≢true}
use Rattle.std.proofs.lemmas.List.{append_assoc}
use Rattle.std.proofs.lemmas.List.Elements.{All-nil, All-cons, All-head, All-tail, All-append, All-weaker, All-contains, All-contains_itself}
use Rattle.std.proofs.lemmas.Map.{lookup-set_value, keys-set_value}
use Rattle.std.proofs.lemmas.Map.Keys.{IsDistinct-head, IsDistinct-tail}
use Rattle.std.proofs.lemmas.Map.Views.{lookup-from_Contains, Contains-from_lookup}
use Rattle.jt_base.specs.declared.operation.Op.{Op}
use Rattle.jt_base.specs.declared.name.Name.{Name}
use Rattle.jt_base.specs.declared.object.Object.{Object}
use Rattle.jt_base.specs.declared.object.Object.TheVariants.{Printer, Task, Named}
use Rattle.jt_base.specs.contracts.object.ObjectEq.TheImpl.Laws as object_laws
use Rattle.jt_histories.proofs.Lists.{by_test}
use Rattle.jt_shard.specs.declared.post.Post.{Post}
use Rattle.jt_shard.specs.Posts.{equal_objects, post_at, with_post, line_of, waiting_in, AreDistinct}

pub equality : IsEquivalence equal_objects
equality = object_laws.laws-law

abbrev name_with : List ℕ → ℕ → Name
name_with path number = record { path = path; number = number }

equal_names : (n m : Name) → equal_objects (Named n) (Named m) ≡ true → n ≡ m
equal_names n m e =
    let b = and_parts (pointwise nat_eq n.path m.path) (nat_eq n.number m.number) e in
    ap (λ p. name_with p n.number) ((bytes_decides n.path m.path).0 b.0) ∙ ap (λ k. name_with m.path k) (eqb-true n.number m.number b.1)

-- equal objects are the same
pub equal_same : (o q : Object) → equal_objects o q ≡ true → o ≡ q
equal_same Printer Printer e = refl
equal_same (Task p) (Task q) e = ap Task ((bytes_decides p q).0 e)
equal_same (Named n) (Named m) e = ap Named (equal_names n m e)
equal_same o q e = absurd (cc)

pub equal_itself : (o : Object) → equal_objects o o ≡ true
equal_itself o = equality.refl o

pub apart : (o q : Object) → equal_objects o q ≡ false → o ≡ q → ⊥
apart o q e is = false≢true (sym e ∙ ap (equal_objects o) (sym is) ∙ equal_itself o)

pub None≢Some : {X : Type 0} (x : X) → (None ≡ Some x) → ⊥
None≢Some x e = absurd (cc)

one_key : (at x y : Object) → equal_objects at x ≡ true → equal_objects at y ≡ equal_objects x y
one_key at x y t = ap (λ q. equal_objects q y) (equal_same at x t)

-- all of two lists
pub All-left : {X : Type 0} (P : X → Type 0) (xs ys : List X) → All P (xs ++ ys) → All P xs
All-left P [] ys h = All-nil P
All-left P (x ∷ xs) ys h = All-cons P x xs (All-head P x (xs ++ ys) h) (All-left P xs ys (All-tail P x (xs ++ ys) h))

pub All-right : {X : Type 0} (P : X → Type 0) (xs ys : List X) → All P (xs ++ ys) → All P ys
All-right P [] ys h = h
All-right P (x ∷ xs) ys h = All-right P xs ys (All-tail P x (xs ++ ys) h)

module _ {J : Type 0} where
  -- all that wait, and all at each post
  pub all_waiting : (Q : J × Op → Type 0) (posts : List (Object × Post J)) → All (λ e. All Q (line_of e)) posts → All Q (waiting_in posts)
  all_waiting Q [] h = All-nil Q
  all_waiting Q (e ∷ es) h =
      All-append Q (line_of e) (waiting_in es) (All-head (λ x. All Q (line_of x)) e es h) (all_waiting Q es (All-tail (λ x. All Q (line_of x)) e es h))

  pub waiting_all : (Q : J × Op → Type 0) (posts : List (Object × Post J)) → All Q (waiting_in posts) → All (λ e. All Q (line_of e)) posts
  waiting_all Q [] h = All-nil (λ x. All Q (line_of x))
  waiting_all Q (e ∷ es) h =
      All-cons (λ x. All Q (line_of x)) e es (All-left Q (line_of e) (waiting_in es) h) (waiting_all Q es (All-right Q (line_of e) (waiting_in es) h))

  pub waiting_append : (xs ys : List (Object × Post J)) → waiting_in (xs ++ ys) ≡ waiting_in xs ++ waiting_in ys
  waiting_append [] ys = refl
  waiting_append (x ∷ xs) ys =
      ap (λ l. line_of x ++ l) (waiting_append xs ys) ∙ sym (append_assoc (line_of x) (waiting_in xs) (waiting_in ys))

  -- what holds of each post that is found holds of each entry
  pub each_entry : (P : Object → Post J → Type 0) (posts : List (Object × Post J)) → AreDistinct posts → ((q : Object) (v : Post J) → post_at posts q ≡ Some v → P q v) → All (λ e. P e.0 e.1) posts
  each_entry P posts o f =
      All-weaker (Contains posts) (λ e. P e.0 e.1)
      (λ e i. f e.0 e.1 (lookup-from_Contains equality e.0 e.1 posts o i))
      posts (All-contains_itself posts)

  -- and what holds of each entry holds of the one that is found
  pub found_entry : (P : Object × Post J → Type 0) (posts : List (Object × Post J)) (q : Object) (v : Post J) → All P posts → post_at posts q ≡ Some v → P (q, v)
  found_entry P posts q v h e = All-contains P posts (q, v) h (Contains-from_lookup equal_same q v posts e)

  -- a post in its place
  pub record Split (posts : List (Object × Post J)) (at : Object) (post : Post J) : Type 0 where
    pub front : List (Object × Post J)
    pub back : List (Object × Post J)
    pub had : posts ≡ front ++ (at, post) ∷ back
    pub has : (w : Post J) → with_post posts at w ≡ front ++ (at, w) ∷ back
    pub front_apart : All (λ e. e.0 ≡ at → ⊥) front
    pub back_apart : All (λ e. e.0 ≡ at → ⊥) back

  keys_apart : (at : Object) (es : List (Object × Post J)) → AllByRecursion (λ y. equal_objects at y ≡ false) (keys_of es) → All (λ e. e.0 ≡ at → ⊥) es
  keys_apart at [] h = All-nil (λ e. e.0 ≡ at → ⊥)
  keys_apart at (e ∷ es) h = All-cons (λ x. x.0 ≡ at → ⊥) e es (λ q. apart at e.0 h.0 (sym q)) (keys_apart at es h.1)

  pub split : (posts : List (Object × Post J)) (at : Object) (post : Post J) → AreDistinct posts → post_at posts at ≡ Some post → Split posts at post
  split [] at post o e = absurd (None≢Some post e)
  split (x ∷ xs) at post o e = by_test (equal_objects at x.0)
      (λ t. let same = equal_same at x.0 t in
      let is : x.1 ≡ post = cc (ap (λ b. cond b (Some x.1) (post_at xs at)) (sym t) ∙ e) in
      record {
        front = [];
        back = xs;
        had = ap (λ q. (q, x.1) ∷ xs) (sym same) ∙ ap (λ v. (at, v) ∷ xs) is;
        has = λ w. ap (λ b. cond b ((x.0, w) ∷ xs) (x ∷ with_post xs at w)) t ∙ ap (λ q. (q, w) ∷ xs) (sym same);
        front_apart = All-nil (λ e. e.0 ≡ at → ⊥);
        back_apart = keys_apart at xs (subst (λ q. AllByRecursion (λ y. equal_objects q y ≡ false) (keys_of xs)) (sym same) (IsDistinct-head equal_objects x.0 (keys_of xs) o));
      })
      (λ f. let s = split xs at post (IsDistinct-tail equal_objects x.0 (keys_of xs) o) (ap (λ b. cond b (Some x.1) (post_at xs at)) (sym f) ∙ e) in
      record {
        front = x ∷ s.front;
        back = s.back;
        had = ap (λ l. x ∷ l) s.had;
        has = λ w. ap (λ b. cond b ((x.0, w) ∷ xs) (x ∷ with_post xs at w)) f ∙ ap (λ l. x ∷ l) (s.has w);
        front_apart = All-cons (λ e. e.0 ≡ at → ⊥) x s.front (λ q. apart at x.0 f (sym q)) s.front_apart;
        back_apart = s.back_apart;
      })

  -- what waits, round one post
  pub waits_round : (front back : List (Object × Post J)) (at : Object) (post : Post J) → waiting_in (front ++ (at, post) ∷ back) ≡ waiting_in front ++ (post.waiting.items ++ waiting_in back)
  waits_round front back at post = waiting_append front ((at, post) ∷ back)

  -- another post of a task
  pub with_distinct : (posts : List (Object × Post J)) (at : Object) (post : Post J) → AreDistinct posts → AreDistinct (with_post posts at post)
  with_distinct posts at post o =
      subst (IsDistinct equal_objects) (sym (keys-set_value (equal_objects at) posts post)) o

  some_there : (o : Option (Post J)) (v : Post J) → o ≡ Some v → IsSome o
  some_there None v n = absurd (None≢Some v n)
  some_there (Some x) v n = refl

  pub at_other : (posts : List (Object × Post J)) (at : Object) (before after : Post J) → post_at posts at ≡ Some before → (q : Object) → post_at (with_post posts at after) q ≡ cond (equal_objects at q) (Some after) (post_at posts q)
  at_other posts at before after e q =
      lookup-set_value equality (equal_objects at) (one_key at) q after posts (some_there (post_at posts at) before e)
