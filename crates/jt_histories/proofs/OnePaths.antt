-- Lists of jobs of different tasks: they are told by their members.
use Rattle.std.proofs.Common.{◌≡◌, List, [], ◌∷◌, ◌++◌, Bool, false, inl, inr, refl, sym, ap, ◌∙◌}
use Rattle.std.specs.List.{IsDistinct, AllByRecursion}
use Rattle.std.specs.List.Sorted.{IsPermutation}
use Rattle.std.proofs.lemmas.Bool.{false≢true}
use Rattle.std.proofs.lemmas.List.Sorted.{IsPermutation-sym, IsPermutation-refl, IsPermutation-trans, IsPermutation-cons, IsPermutation-append_comm}
use Rattle.std.proofs.lemmas.Map.Keys.{IsDistinct-IsPermutation}
use Rattle.jt_base.specs.Jobs.{Held}
use Rattle.jt_laws.specs.Entries.{same_path}
use Rattle.jt_laws.proofs.Paths.{same_itself, same_equal}
use Rattle.jt_histories.specs.Jobs.{Has, OnePath}
use Rattle.jt_histories.proofs.Lists.{or_else, by_test}
use Rattle.jt_histories.proofs.Members.{has_moved, has_left, has_right, has_either, has_others}

same_job : (S : Type 0) → Held S → Held S → Bool
same_job S i j = same_path i.path j.path

path_flips : (S : Type 0) (i j : Held S) → same_job S i j ≡ same_job S j i
unfolding same_job
path_flips S i j = by_test (same_path i.path j.path)
    (λ y. y ∙ sym (ap (λ p. same_path p i.path) (sym (same_equal i.path j.path y)) ∙ same_itself i.path))
    (λ n. n ∙ sym (by_test (same_path j.path i.path)
    (λ y. absurd (false≢true (sym n ∙ ap (λ p. same_path i.path p) (same_equal j.path i.path y) ∙ same_itself i.path)))
    (λ z. z)))

module _ (S : Type 0) where
  apart : (x : Held S) (xs : List (Held S)) → ((k : Held S) → Has S k xs → k.path ≡ x.path → ⊥) → AllByRecursion (λ y. same_job S x y ≡ false) xs
  unfolding same_job
  apart x [] d = tt
  apart x (y ∷ ys) d = (by_test (same_path x.path y.path) (λ t. absurd (d y (inl refl) (sym (same_equal x.path y.path t)))) (λ n. n), apart x ys (λ k h. d k (inr h)))

  apart_back : (x : Held S) (xs : List (Held S)) → AllByRecursion (λ y. same_job S x y ≡ false) xs → (k : Held S) → Has S k xs → k.path ≡ x.path → ⊥
  unfolding same_job
  apart_back x [] d k h e = absurd h
  apart_back x (y ∷ ys) d k h e = or_else h
      (λ p. false≢true (sym d.0 ∙ ap (λ (z : Held S). same_path x.path z.path) p ∙ ap (λ q. same_path x.path q) e ∙ same_itself x.path))
      (λ j. apart_back x ys d.1 k j e)

  distinct_from : (xs : List (Held S)) → OnePath S xs → IsDistinct (same_job S) xs
  unfolding IsDistinct
  distinct_from [] o = tt
  distinct_from (x ∷ xs) o = (apart x xs o.0, distinct_from xs o.1)

  distinct_to : (xs : List (Held S)) → IsDistinct (same_job S) xs → OnePath S xs
  unfolding IsDistinct
  distinct_to [] d = tt
  distinct_to (x ∷ xs) d = (apart_back x xs d.0, distinct_to xs d.1)

  pub one_moved : (xs ys : List (Held S)) → IsPermutation xs ys → OnePath S xs → OnePath S ys
  one_moved xs ys p o = distinct_to ys (IsDistinct-IsPermutation (same_job S) (path_flips S) xs ys p (distinct_from xs o))

  one_front : (xs ys : List (Held S)) → OnePath S (xs ++ ys) → OnePath S xs
  one_front [] ys o = tt
  one_front (x ∷ xs) ys o = ((λ k h. o.0 k (has_left S k xs ys h)), one_front xs ys o.1)

  not_both : (xs ys : List (Held S)) → OnePath S (xs ++ ys) → (j : Held S) → Has S j xs → Has S j ys → ⊥
  not_both [] ys o j h k = h
  not_both (x ∷ xs) ys o j h k = or_else h
      (λ p. o.0 j (has_right S j xs ys k) (ap (λ (z : Held S). z.path) (sym p)))
      (λ q. not_both xs ys o.1 j q k)

  -- one of the jobs behind the first isn't the first
  behind_first : (x : Held S) (xs : List (Held S)) → OnePath S (x ∷ xs) → (j : Held S) → Has S j xs → x ≡ j → ⊥
  behind_first x xs o j h q = o.0 j h (ap (λ (z : Held S). z.path) (sym q))

  pub same_members : (xs ys : List (Held S)) → OnePath S xs → OnePath S ys → ((j : Held S) → Has S j xs → Has S j ys) → ((j : Held S) → Has S j ys → Has S j xs) → IsPermutation xs ys
  same_members [] [] o p to from = IsPermutation-refl []
  same_members [] (y ∷ ys) o p to from = absurd (from y (inl refl))
  same_members (x ∷ xs) ys o p to from =
      let r = has_others S x ys (to x (inl refl)) in
      let one : OnePath S (x ∷ r.0) = one_moved ys (x ∷ r.0) r.1 p in
      let back : IsPermutation (x ∷ r.0) ys = IsPermutation-sym ys (x ∷ r.0) r.1 in
      let inner : IsPermutation xs r.0 = same_members xs r.0 o.1 one.1
      (λ j h. or_else (has_moved S ys (x ∷ r.0) r.1 j (to j (inr h))) (λ q. absurd (behind_first x xs o j h q)) (λ k. k))
      (λ j h. or_else (from j (has_moved S (x ∷ r.0) ys back j (inr h))) (λ q. absurd (behind_first x r.0 one j h q)) (λ k. k)) in
      IsPermutation-trans (x ∷ xs) (x ∷ r.0) ys (IsPermutation-cons x xs r.0 inner) back

  -- what is the same behind two lists may go
  cancel_back : (a b r : List (Held S)) → OnePath S (a ++ r) → IsPermutation (a ++ r) (b ++ r) → IsPermutation a b
  cancel_back a b r o p =
      let q = one_moved (a ++ r) (b ++ r) p o in
      same_members a b (one_front a r o) (one_front b r q)
      (λ j h. or_else (has_either S j b r (has_moved S (a ++ r) (b ++ r) p j (has_left S j a r h))) (λ k. k) (λ k. absurd (not_both a r o j h k)))
      (λ j h. or_else (has_either S j a r (has_moved S (b ++ r) (a ++ r) (IsPermutation-sym (a ++ r) (b ++ r) p) j (has_left S j b r h))) (λ k. k) (λ k. absurd (not_both b r q j h k)))

  -- what is the same before them
  pub cancel_front : (r a b : List (Held S)) → OnePath S (r ++ a) → IsPermutation (r ++ a) (r ++ b) → IsPermutation a b
  cancel_front r a b o p = cancel_back a b r (one_moved (r ++ a) (a ++ r) (IsPermutation-append_comm r a) o)
      (IsPermutation-trans (a ++ r) (r ++ a) (b ++ r) (IsPermutation-append_comm a r) (IsPermutation-trans (r ++ a) (r ++ b) (b ++ r) p (IsPermutation-append_comm r b)))
