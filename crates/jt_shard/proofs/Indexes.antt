-- The post at an index is that of its object.
use Rattle.std.proofs.Common.{◌≡◌, ℕ, zero, suc, ◌<◌, ◌≤◌, List, [], ◌∷◌, ◌++◌, Option, Some, None, true, false, refl, sym, ap, ◌∙◌, subst, cond, get_or, length, arith}
use Rattle.std.specs.Prelude.{Result, Ok, Err, OnErr, slice_get, position, is_some}
use Rattle.std.specs.List.{AllByRecursion}
use Rattle.std.specs.Map.{keys_of, values_of}
use Rattle.std.proofs.lemmas.List.{length-map}
use Rattle.std.proofs.lemmas.List.Quantifiers.{position-Some}
use Rattle.std.proofs.lemmas.Option.{slice_get_within, get_or_from_slice_get}
use Rattle.std.proofs.lemmas.Map.{keys-set_value}
use Rattle.std.proofs.lemmas.Map.Keys.{IsDistinct-head, IsDistinct-tail}
use Rattle.indexmap.specs.IndexMap.{set_value_at}
use Rattle.jt_base.specs.declared.operation.Op.{Op}
use Rattle.jt_base.specs.declared.object.Object.{Object}
use Rattle.jt_shard.specs.declared.post.Post.{Post}
use Rattle.jt_shard.specs.Changing.{changes}
use Rattle.jt_shard.specs.Posts.{touched_by, equal_objects, key_at, object_at, post_at, with_post, AreDistinct, IsReserved, HasReservedPost}
use Rattle.jt_shard.proofs.Split.{equality, equal_same, equal_itself, None≢Some}

pub on_err_any : {T E P : Type 0} (r : Result T E) → P → OnErr r P
on_err_any (Ok x) p = tt
on_err_any (Err e) p = p

pub no_item : {X : Type 0} (o : Option X) → is_some o ≡ false → o ≡ None
no_item (Some x) e = absurd (cc)
no_item None e = refl

pub past_all : {X : Type 0} (xs : List X) (i : ℕ) → length xs ≤ i → slice_get xs i ≡ None
past_all [] i l = refl
past_all (x ∷ xs) zero l = absurd (omega (arith, l))
past_all (x ∷ xs) (suc i) l = past_all xs i (omega (arith, l))

at_key : {X : Type 0} (P : X → Type 0) (xs : List X) (i : ℕ) (y : X) → AllByRecursion P xs → slice_get xs i ≡ Some y → P y
at_key P [] i y a e = absurd (None≢Some y e)
at_key P (x ∷ xs) zero y a e = let p : x ≡ y = cc in subst P p a.0
at_key P (x ∷ xs) (suc i) y a e = at_key P xs i y a.1 e

-- what stands at an index stays there where more follows
pub more_keys : (objects more : List Object) (i : Option ℕ) (o : Object) → key_at objects i ≡ Some o → key_at (objects ++ more) i ≡ Some o
more_keys objects more None o e = absurd (None≢Some o e)
more_keys [] more (Some i) o e = absurd (None≢Some o e)
more_keys (x ∷ xs) more (Some zero) o e = e
more_keys (x ∷ xs) more (Some (suc i)) o e = more_keys xs more (Some i) o e

pub last_key : (objects : List Object) (o : Object) → key_at (objects ++ o ∷ []) (Some (length objects)) ≡ Some o
last_key [] o = refl
last_key (x ∷ xs) o = last_key xs o

-- the object that is touched
pub touched_at : (objects : List Object) (i : ℕ) (o : Object) (op : Op) → key_at objects (Some i) ≡ Some o → key_at objects (touched_by i op) ≡ touched_by o op
touched_at objects i o op e =
    elim (changes op) as (λ b. key_at objects (cond b (Some i) None) ≡ cond b (Some o) None) [ true ↦ e | false ↦ refl ]

module _ {J : Type 0} where
  pub record IsAt (posts : List (Object × Post J)) (i : ℕ) (post : Post J) : Type 0 where
    pub object : Object
    pub key : object_at posts (Some i) ≡ Some object
    pub there : post_at posts object ≡ Some post
    pub has : (w : Post J) → set_value_at posts i w ≡ with_post posts object w

  pub found_at : (posts : List (Object × Post J)) (i : ℕ) (post : Post J) → AreDistinct posts → slice_get (values_of posts) i ≡ Some post → IsAt posts i post
  found_at [] i post d e = absurd (None≢Some post e)
  found_at (x ∷ xs) zero post d e = record {
    object = x.0;
    key = refl;
    there = ap (λ b. cond b (Some x.1) (post_at xs x.0)) (equal_itself x.0) ∙ e;
    has = λ w. sym (ap (λ b. cond b ((x.0, w) ∷ xs) (x ∷ with_post xs x.0 w)) (equal_itself x.0));
  }
  found_at (x ∷ xs) (suc i) post d e =
      let r = found_at xs i post (IsDistinct-tail equal_objects x.0 (keys_of xs) d) e in
      let other : equal_objects r.object x.0 ≡ false = equality.symm r.object x.0 ∙ at_key (λ y. equal_objects x.0 y ≡ false) (keys_of xs) i r.object (IsDistinct-head equal_objects x.0 (keys_of xs) d) r.key in
      record {
        object = r.object;
        key = r.key;
        there = ap (λ b. cond b (Some x.1) (post_at xs r.object)) other ∙ r.there;
        has = λ w. ap (λ l. x ∷ l) (r.has w) ∙ sym (ap (λ b. cond b ((x.0, w) ∷ xs) (x ∷ with_post xs r.object w)) other);
      }

  pub within_at : (posts : List (Object × Post J)) (i : ℕ) (o : Object) → object_at posts (Some i) ≡ Some o → i < length posts
  within_at posts i o e =
      let n : length (keys_of posts) ≡ length posts = length-map posts (λ (x : Object × Post J). x.0) in
      let w = slice_get_within (keys_of posts) i o e in
      omega (arith, n, w)

  pub past_objects : (posts : List (Object × Post J)) (i : ℕ) → length posts ≤ i → object_at posts (Some i) ≡ None
  past_objects posts i l =
      let n : length (keys_of posts) ≡ length posts = length-map posts (λ (x : Object × Post J). x.0) in
      past_all (keys_of posts) i (omega (arith, n, l))

  pub keys_with_value : (posts : List (Object × Post J)) (i : ℕ) (w : Post J) → keys_of (set_value_at posts i w) ≡ keys_of posts
  keys_with_value [] i w = refl
  keys_with_value (x ∷ xs) zero w = refl
  keys_with_value (x ∷ xs) (suc i) w = ap (λ l. x.0 ∷ l) (keys_with_value xs i w)

  -- where the index is an object's
  module _ (posts : List (Object × Post J)) (i : ℕ) (o : Object) (post : Post J) (d : AreDistinct posts) (at : object_at posts (Some i) ≡ Some o) (value : slice_get (values_of posts) i ≡ Some post) where
    found : IsAt posts i post
    found = found_at posts i post d value

    same : found.object ≡ o
    same = let e : Some found.object ≡ Some o = sym found.key ∙ at in cc

    pub post_here : post_at posts o ≡ Some post
    post_here = subst (λ x. post_at posts x ≡ Some post) same found.there

    pub written_here : (w : Post J) → set_value_at posts i w ≡ with_post posts o w
    written_here w = found.has w ∙ ap (λ x. with_post posts x w) same

    pub is_post : (p : Post J) → post_at posts o ≡ Some p → p ≡ post
    is_post p e = let f : Some p ≡ Some post = sym e ∙ post_here in cc

    pub reserved_here : HasReservedPost posts o → IsReserved post
    reserved_here h = subst IsReserved (is_post h.0 h.1) h.2

  -- the index that is found for an object is that of its post
  pub index_found : (posts : List (Object × Post J)) (i : ℕ) (o : Object) (post : Post J) → AreDistinct posts → slice_get (values_of posts) i ≡ Some post → position (equal_objects o) (keys_of posts) ≡ Some i → object_at posts (Some i) ≡ Some o
  index_found posts i o post d value e =
      let f = found_at posts i post d value in
      let p = (position-Some (equal_objects o) (keys_of posts) i f.object e).1 in
      let k : get_or (keys_of posts) i f.object ≡ f.object = get_or_from_slice_get (keys_of posts) i f.object f.object f.key in
      f.key ∙ ap Some (sym (equal_same o f.object (subst (λ x. equal_objects o x ≡ true) k p)))

  -- the objects stay at their indexes where a post is written
  pub stays_at : (posts : List (Object × Post J)) (o : Object) (post : Post J) (more : List (Object × Post J)) → more ≡ with_post posts o post → (i : Option ℕ) → object_at more i ≡ object_at posts i
  stays_at posts o post more e i = ap (λ ks. key_at ks i) (ap keys_of e ∙ keys-set_value (equal_objects o) posts post)
