-- `without` as the code does it: by the place of the first such element.
use Rattle.std.proofs.Common.{◌≡◌, ◌≢◌, ℕ, zero, suc, ◌<◌, ◌≤◌, eqb, ltb, List, [], ◌∷◌, Some, None, length, get_or, refl, sym, ap, ◌∙◌, ⊎_elim, arith, eqb-true}
use Rattle.std.specs.List.{position, position_or_len, remove}
use Rattle.std.proofs.lemmas.Bool.{cond-true, cond-false, eq-eqb, ne_eqb, eqb-false, cases_lt, lt-ltb, le-ltb}
use Rattle.std.proofs.lemmas.List.Sums.{fails_before_first, passes_at_first}
use Rattle.jt_sleep_core.specs.Steps.{without}

-- the first such element stands at i
without_at : (w : ℕ) (xs : List ℕ) (i : ℕ) → i < length xs → get_or xs i 0 ≡ w → ((k : ℕ) → k < i → get_or xs k 0 ≢ w) → without w xs ≡ remove xs i
without_at w [] i l e h = absurd (omega arith)
without_at w (x ∷ xs) zero l e h = cond-true (eqb x w) _ _ (eq-eqb x w e)
without_at w (x ∷ xs) (suc i) l e h = cond-false (eqb x w) _ _ (ne_eqb x w (h 0 (omega arith))) ∙ ap (λ ys. x ∷ ys) (without_at w xs i (omega arith) e (λ k b. h (suc k) (omega arith)))

-- there is none
without_absent : (w : ℕ) (xs : List ℕ) → ((k : ℕ) → k < length xs → get_or xs k 0 ≢ w) → without w xs ≡ xs
without_absent w [] h = refl
without_absent w (x ∷ xs) h = cond-false (eqb x w) _ _ (ne_eqb x w (h 0 (omega arith))) ∙ ap (λ ys. x ∷ ys) (without_absent w xs (λ k b. h (suc k) (omega arith)))

module _ (w : ℕ) (xs : List ℕ) where
  abbrev first : ℕ
  first = position_or_len (λ x. eqb x w) xs

  apart : (k : ℕ) → k < first → get_or xs k 0 ≢ w
  apart k h = eqb-false _ _ (fails_before_first (λ x. eqb x w) xs k 0 h)

  pub without-Some : (i : ℕ) → position (λ x. eqb x w) xs ≡ Some i → without w xs ≡ remove xs i
  without-Some i e = ⊎_elim
      (λ (l : first < length xs). let same : first ≡ i = (let f = sym (cond-true (ltb first (length xs)) (Some first) None (lt-ltb first (length xs) l)) ∙ e in cc) in
      without_at w xs first l (eqb-true _ _ (passes_at_first (λ x. eqb x w) xs 0 l)) apart ∙ ap (remove xs) same)
      (λ (l : length xs ≤ first). absurd (let f = sym (cond-false (ltb first (length xs)) (Some first) None (le-ltb first (length xs) l)) ∙ e in cc))
      (cases_lt first (length xs))

  pub without-None : position (λ x. eqb x w) xs ≡ None → without w xs ≡ xs
  without-None e = ⊎_elim
      (λ (l : first < length xs). absurd (let f = sym (cond-true (ltb first (length xs)) (Some first) None (lt-ltb first (length xs) l)) ∙ e in cc))
      (λ (l : length xs ≤ first). without_absent w xs (λ k h. apart k (omega arith)))
      (cases_lt first (length xs))
