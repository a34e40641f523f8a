-- What is in a list of jobs.
use Rattle.std.proofs.Common.{◌≡◌, ℕ, zero, suc, ◌<◌, List, [], ◌∷◌, ◌++◌, ◌⊎◌, inl, inr, ap, sym, subst, arith, get_or, length}
use Rattle.std.specs.Prelude.{Contains}
use Rattle.std.specs.List.Sorted.{IsPermutation}
use Rattle.std.proofs.lemmas.List.Sorted.{Contains-permutation, IsPermutation-middle}
use Rattle.jt_base.specs.Jobs.{Held}
use Rattle.jt_histories.specs.Jobs.{Has}
use Rattle.jt_histories.proofs.Lists.{or_else}

module _ (S : Type 0) where
  has_contains : (xs : List (Held S)) (x : Held S) → Has S x xs → Contains xs x
  has_contains [] x i = absurd i
  has_contains (y ∷ ys) x i = or_else i
      (λ p. (0, omega arith, p))
      (λ j. let r = has_contains ys x j in let l : r.0 < length ys = r.1 in (suc r.0, omega arith, r.2))

  contains_has : (xs : List (Held S)) (x : Held S) (k : ℕ) → k < length xs → get_or xs k x ≡ x → Has S x xs
  contains_has [] x k l e = absurd (omega (arith, l))
  contains_has (y ∷ ys) x zero l e = inl e
  contains_has (y ∷ ys) x (suc k) l e = inr (contains_has ys x k (omega (arith, l)) e)

  pub has_moved : (xs ys : List (Held S)) → IsPermutation xs ys → (j : Held S) → Has S j xs → Has S j ys
  has_moved xs ys p j h = let c = Contains-permutation xs ys j p (has_contains xs j h) in contains_has ys j c.0 c.1 c.2

  pub has_left : (i : Held S) (xs ys : List (Held S)) → Has S i xs → Has S i (xs ++ ys)
  has_left i [] ys h = absurd h
  has_left i (x ∷ xs) ys h = or_else h (λ p. inl p) (λ q. inr (has_left i xs ys q))

  pub has_right : (i : Held S) (xs ys : List (Held S)) → Has S i ys → Has S i (xs ++ ys)
  has_right i [] ys h = h
  has_right i (x ∷ xs) ys h = inr (has_right i xs ys h)

  pub has_either : (i : Held S) (xs ys : List (Held S)) → Has S i (xs ++ ys) → Has S i xs ⊎ Has S i ys
  has_either i [] ys h = inr h
  has_either i (x ∷ xs) ys h = or_else h (λ p. inl (inl p)) (λ q. or_else (has_either i xs ys q) (λ z. inl (inr z)) (λ z. inr z))

  split_has : (x : Held S) (ys : List (Held S)) → Has S x ys → (before : List (Held S)) × (behind : List (Held S)) × (ys ≡ before ++ x ∷ behind)
  split_has x [] h = absurd h
  split_has x (y ∷ ys) h = or_else h
      (λ p. ([], ys, ap (λ z. z ∷ ys) p))
      (λ q. let r = split_has x ys q in (y ∷ r.0, r.1, ap (λ l. y ∷ l) r.2))

  -- a job that is there comes first, before the others
  pub has_others : (x : Held S) (ys : List (Held S)) → Has S x ys → (others : List (Held S)) × IsPermutation ys (x ∷ others)
  has_others x ys h = let r = split_has x ys h in
      (r.0 ++ r.1, subst (λ l. IsPermutation l (x ∷ (r.0 ++ r.1))) (sym r.2) (IsPermutation-middle r.0 x r.1))
