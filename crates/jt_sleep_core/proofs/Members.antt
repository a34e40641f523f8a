-- Who is in a list: after its first element, after `without`, after a filter, in a range, and after a write.
use Rattle.std.proofs.Common.{◌≡◌, ◌≢◌, ℕ, zero, suc, ◌+◌, ◌<◌, ◌≤◌, ◌⊎◌, eqb, Bool, true, false, List, [], ◌∷◌, refl, sym, ap, ◌∙◌, subst, inl, inr, ⊎_elim, arith, eqb-true}
use Rattle.std.specs.List.{Contains, filter, range_with_len}
use Rattle.std.proofs.lemmas.Bool.{cond-true, cond-false, cases_Bool}
use Rattle.jt_sleep_core.specs.Steps.{without}

module _ {X : Type 0} where
  pub Contains-here : (x : X) (xs : List X) → Contains (x ∷ xs) x
  Contains-here x xs = (0, omega arith, refl)

  pub Contains-there : (x : X) (xs : List X) (y : X) → Contains xs y → Contains (x ∷ xs) y
  Contains-there x xs y (k, l, e) = (suc k, omega arith, e)

  pub Contains-cons_cases : (x : X) (xs : List X) (y : X) → Contains (x ∷ xs) y → (x ≡ y) ⊎ Contains xs y
  Contains-cons_cases x xs y (zero, l, e) = inl e
  Contains-cons_cases x xs y (suc k, l, e) = inr (k, omega arith, e)

  pub Contains-nil : (y : X) → Contains [] y → ⊥
  Contains-nil y (k, l, e) = omega arith

  -- an element that passes the test is kept
  pub Contains-filter : (p : X → Bool) (xs : List X) (y : X) → p y ≡ true → Contains xs y → Contains (filter p xs) y
  Contains-filter p [] y t h = absurd (Contains-nil y h)
  Contains-filter p (x ∷ xs) y t h =
      ⊎_elim (λ (e : x ≡ y). subst (λ zs. Contains zs y) (sym (cond-true (p x) _ _ (ap p e ∙ t))) (subst (λ z. Contains (z ∷ filter p xs) y) (sym e) (Contains-here y (filter p xs))))
      (λ (i : Contains xs y). ⊎_elim (λ (b : p x ≡ true). subst (λ zs. Contains zs y) (sym (cond-true (p x) _ _ b)) (Contains-there x _ y (Contains-filter p xs y t i)))
      (λ (b : p x ≡ false). subst (λ zs. Contains zs y) (sym (cond-false (p x) _ _ b)) (Contains-filter p xs y t i)) (cases_Bool (p x)))
      (Contains-cons_cases x xs y h)

  -- what is kept was there and passes the test
  pub filter-Contains : (p : X → Bool) (xs : List X) (y : X) → Contains (filter p xs) y → Contains xs y × (p y ≡ true)
  filter-Contains p [] y h = absurd (Contains-nil y h)
  filter-Contains p (x ∷ xs) y h =
      ⊎_elim (λ (b : p x ≡ true). ⊎_elim (λ (e : x ≡ y). (subst (λ z. Contains (z ∷ xs) y) (sym e) (Contains-here y xs), ap p (sym e) ∙ b))
      (λ (i : Contains (filter p xs) y). let j = filter-Contains p xs y i in (Contains-there x xs y j.0, j.1))
      (Contains-cons_cases x (filter p xs) y (subst (λ zs. Contains zs y) (cond-true (p x) _ _ b) h)))
      (λ (b : p x ≡ false). let j = filter-Contains p xs y (subst (λ zs. Contains zs y) (cond-false (p x) _ _ b) h) in (Contains-there x xs y j.0, j.1))
      (cases_Bool (p x))

-- a range has the numbers from its first one on
pub Contains-range : (a n k : ℕ) → a ≤ k → k < a + n → Contains (range_with_len a n) k
Contains-range a zero k l h = absurd (omega arith)
Contains-range a (suc n) k l h =
    ⊎_elim (λ (e : a ≡ k). subst (λ z. Contains (z ∷ range_with_len (a + 1) n) k) (sym e) (Contains-here k _))
    (λ (ne : (a ≡ k) → ⊥). Contains-there a _ k (Contains-range (a + 1) n k (omega arith) (omega arith)))
    (Rattle.std.proofs.lemmas.Bool.cases_eq a k)

pub range-Contains : (a n k : ℕ) → Contains (range_with_len a n) k → (a ≤ k) × (k < a + n)
range-Contains a zero k h = absurd (Contains-nil k h)
range-Contains a (suc n) k h =
    ⊎_elim (λ (e : a ≡ k). (omega arith, omega arith))
    (λ (i : Contains (range_with_len (a + 1) n) k). let j = range-Contains (a + 1) n k i in (omega arith, omega arith))
    (Contains-cons_cases a _ k h)

-- `without` takes away no other number
pub Contains-without : (w v : ℕ) (xs : List ℕ) → w ≢ v → Contains xs v → Contains (without w xs) v
Contains-without w v [] ne h = h
Contains-without w v (x ∷ xs) ne h =
    ⊎_elim (λ (b : eqb x w ≡ true). subst (λ zs. Contains zs v) (sym (cond-true (eqb x w) _ _ b))
    (⊎_elim (λ (e : x ≡ v). absurd (ne (sym (eqb-true x w b) ∙ e))) (λ i. i) (Contains-cons_cases x xs v h)))
    (λ (b : eqb x w ≡ false). subst (λ zs. Contains zs v) (sym (cond-false (eqb x w) _ _ b))
    (⊎_elim (λ (e : x ≡ v). subst (λ z. Contains (z ∷ without w xs) v) (sym e) (Contains-here v _)) (λ (i : Contains xs v). Contains-there x _ v (Contains-without w v xs ne i)) (Contains-cons_cases x xs v h)))
    (cases_Bool (eqb x w))
