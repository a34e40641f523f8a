-- What a test keeps of a range.
use Rattle.std.proofs.Common.{◌≡◌, ◌≢◌, ℕ, zero, suc, ◌+◌, ◌-◌, ◌<◌, ◌≤◌, Bool, true, false, List, [], ◌∷◌, ◌++◌, refl, sym, ap, ◌∙◌, ⊎_elim, arith, append_assoc}
use Rattle.std.specs.List.{filter, range_with_len}
use Rattle.std.proofs.lemmas.Bool.{cond-true, cond-false, cases_eq}

-- a range goes on where its front ends
pub range-append : (a n m b : ℕ) → b ≡ a + n → range_with_len a (n + m) ≡ range_with_len a n ++ range_with_len b m
range-append a zero m b e = let f : zero + m ≡ m = omega arith in let g : a ≡ b = omega arith in ap (range_with_len a) f ∙ ap (λ k. range_with_len k m) g
range-append a (suc n) m b e = let f : suc n + m ≡ suc (n + m) = omega arith in ap (range_with_len a) f ∙ ap (λ xs. a ∷ xs) (range-append (a + 1) n m b (omega arith))

-- each number passes
pub filter-range_all : (p : ℕ → Bool) (a n : ℕ) → ((k : ℕ) → a ≤ k → k < a + n → p k ≡ true) → filter p (range_with_len a n) ≡ range_with_len a n
filter-range_all p a zero h = refl
filter-range_all p a (suc n) h = cond-true (p a) _ _ (h a (omega arith) (omega arith)) ∙ ap (λ xs. a ∷ xs) (filter-range_all p (a + 1) n (λ k l u. h k (omega arith) (omega arith)))

-- no number passes
pub filter-range_none : (p : ℕ → Bool) (a n : ℕ) → ((k : ℕ) → a ≤ k → k < a + n → p k ≡ false) → filter p (range_with_len a n) ≡ []
filter-range_none p a zero h = refl
filter-range_none p a (suc n) h = cond-false (p a) _ _ (h a (omega arith) (omega arith)) ∙ filter-range_none p (a + 1) n (λ k l u. h k (omega arith) (omega arith))

-- one number passes
pub filter-range_one : (p : ℕ → Bool) (a n j : ℕ) → a ≤ j → j < a + n → p j ≡ true → ((k : ℕ) → k ≢ j → a ≤ k → k < a + n → p k ≡ false) → filter p (range_with_len a n) ≡ j ∷ []
filter-range_one p a zero j l u t h = absurd (omega arith)
filter-range_one p a (suc n) j l u t h =
    ⊎_elim (λ (e : a ≡ j). cond-true (p a) _ _ (ap p e ∙ t) ∙ (ap (λ xs. a ∷ xs) (filter-range_none p (a + 1) n (λ k low high. h k (omega arith) (omega arith) (omega arith))) ∙ ap (λ k. k ∷ []) e))
    (λ (ne : (a ≡ j) → ⊥). cond-false (p a) _ _ (h a ne (omega arith) (omega arith)) ∙ filter-range_one p (a + 1) n j (let f : a ≢ j = ne in omega arith) (omega arith) t (λ k apart low high. h k apart (omega arith) (omega arith)))
    (cases_eq a j)

-- a range with one number more
pub range-more : (a b : ℕ) → a ≤ b → range_with_len a (b + 1 - a) ≡ range_with_len a (b - a) ++ b ∷ []
range-more a b h = let e : b + 1 - a ≡ b - a + 1 = omega arith in ap (range_with_len a) e ∙ range-append a (b - a) 1 b (omega arith)

-- what a loop over a range has added to a list
pub range-pushed : (xs ys zs : List ℕ) (a b : ℕ) → a ≤ b → ys ≡ xs ++ range_with_len a (b - a) → zs ≡ ys ++ b ∷ [] → zs ≡ xs ++ range_with_len a (b + 1 - a)
range-pushed xs ys zs a b h before pushed =
    pushed ∙ (ap (λ us. us ++ b ∷ []) before ∙ (append_assoc xs (range_with_len a (b - a)) (b ∷ []) ∙ ap (λ us. xs ++ us) (sym (range-more a b h))))

-- a range that was added to the empty list
pub range-alone : (xs ys : List ℕ) (a n m : ℕ) → xs ≡ [] → ys ≡ xs ++ range_with_len a n → n ≡ m → ys ≡ range_with_len a m
range-alone xs ys a n m none pushed e = pushed ∙ (ap (λ us. us ++ range_with_len a n) none ∙ ap (range_with_len a) e)
