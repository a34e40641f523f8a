-- Quotients and remainders.
use Rattle.std.proofs.Common.{◌≡◌, ℕ, zero, suc, ◌+◌, ◌-◌, ◌*◌, ◌/◌, ◌%◌, ◌^◌, ◌<◌, ◌≤◌, refl, sym, ap, ◌∙◌, subst, arith, ◌≢◌, ⊎_elim, inl, inr, Bool, true, false, not}
use Rattle.std.specs.Prelude.{◌⊎◌, ℤ, pos, negsuc, neg_ℤ, ◌+ℤ◌, ◌-ℤ◌, ◌*ℤ◌, ◌<ℤ◌, FitsSigned, unsigned_abs, int_lt, int_div, int_rem, Option, Some, None, Ok, Err, IfOk}
use Rattle.std.specs.Int.{w64, cast_signed, cast_unsigned, int_rem_euclid, CanDivide}
use Rattle.std.specs.Bool.{beq}
use Rattle.std.specs.Option.{SomeIff, ok_or}
use Rattle.std.proofs.lemmas.Int.{ints, fits_signed_from_abs, to_z-of_z, quot-rem, rem_below}
use Rattle.std.proofs.lemmas.Nat.{div-add-mod'}
use Rattle.std.proofs.lemmas.Bool.{cases_lt, cond-true, cond-false}
use Rattle.std.proofs.Math.IntN.{*ℤ-negsuc}
use Rattle.std.proofs.Math.Nat.{div-le_self, suc-mul, suc-mod, mod_self, mod-le, mod-lt, mod-eq_of_lt}
use Rattle.jt_num.proofs.WrappingLemmas.{pos_not_below}
use Rattle.jt_num.specs.declared.NumFault.TheVariants.{Divide}
use Rattle.jt_num.specs.Division.{quotient, remainder, modulus, floored_rem, TakesSign, IsRemainder, IsModulus, IsQuotient}

TakesSign-int_rem : (a b : ℤ) → TakesSign a (int_rem a b)
TakesSign-int_rem (pos n) b = record { below = λ h. absurd (omega (arith, ints)); above = λ h. omega (arith, ints, mod-le n (unsigned_abs b)) }
TakesSign-int_rem (negsuc n) b = record { below = λ h. omega (arith, ints); above = λ h. absurd (omega (arith, ints)) }

pub IsRemainder-int_rem : (a b : ℤ) → 0 < unsigned_abs b → IsRemainder a b (int_rem a b)
IsRemainder-int_rem a b h =
    (record { multiple = (int_div a b, sym (quot-rem a b)); smaller = rem_below a b h }, TakesSign-int_rem a b)

pub IsQuotient-int_div : (a b : ℤ) → 0 < unsigned_abs b → IsQuotient a b (int_div a b)
IsQuotient-int_div a b h =
    let e : int_rem a b ≡ a -ℤ int_div a b *ℤ b = omega (arith, ints, quot-rem a b) in
    subst (IsRemainder a b) e (IsRemainder-int_rem a b h)

-- the remainder of the next number
next_wraps : (m d : ℕ) → suc m % suc d ≡ 0 → m % suc d ≡ d
next_wraps m d e =
    let r : ℕ = m % suc d in
    let below : m % suc d < suc d = mod-lt m (omega arith) in
    ⊎_elim
    (λ (h : m % suc d < d). absurd (let f : suc (m % suc d) % suc d ≡ suc (m % suc d) = mod-eq_of_lt (omega arith) in omega (arith, suc-mod m (suc d), e, f)))
    (λ (h : d ≤ m % suc d). omega arith)
    (cases_lt (m % suc d) d)

next_counts : (m d : ℕ) → 0 < suc m % suc d → suc m % suc d ≡ suc (m % suc d)
next_counts m d p =
    let below : m % suc d < suc d = mod-lt m (omega arith) in
    ⊎_elim
    (λ (h : m % suc d < d). suc-mod m (suc d) ∙ mod-eq_of_lt (omega arith))
    (λ (h : d ≤ m % suc d). absurd (
    let f : suc (m % suc d) ≡ suc d = omega arith in
    let g : suc (m % suc d) % suc d ≡ 0 = ap (λ x. x % suc d) f ∙ mod_self (suc d) in
    omega (arith, suc-mod m (suc d), g)))
    (cases_lt (m % suc d) d)

-- ---- signs of a remainder

zero_from_neg : (r : ℕ) → (neg_ℤ (pos r) ≡ pos 0) ⊎ (int_lt (neg_ℤ (pos r)) (pos 0) ≡ false) → r ≡ 0
zero_from_neg zero s = refl
zero_from_neg (suc n) s = absurd (⊎_elim (λ (e : negsuc n ≡ pos 0). cc) (λ (e : true ≡ false). cc) s)

zero_from_pos : (r d : ℕ) → (pos r ≡ pos 0) ⊎ (int_lt (pos r) (pos 0) ≡ true) → r ≡ 0
zero_from_pos r d s = ⊎_elim (λ (e : pos r ≡ pos 0). omega (arith, ints)) (λ (e : int_lt (pos r) (pos 0) ≡ true). absurd (let f = pos_not_below r in cc)) s

neg_below : (r : ℕ) → neg_ℤ (pos r) ≢ pos 0 → int_lt (neg_ℤ (pos r)) (pos 0) ≡ true
neg_below zero p = absurd (p refl)
neg_below (suc n) p = refl

above_from_neg : (r : ℕ) → neg_ℤ (pos r) ≢ pos 0 → 0 < r
above_from_neg zero p = absurd (p refl)
above_from_neg (suc n) p = omega arith

above_from_pos : (r : ℕ) → pos r ≢ pos 0 → 0 < r
above_from_pos zero p = absurd (p refl)
above_from_pos (suc n) p = omega arith

zero_mod : (d : ℕ) → 0 % d ≡ 0
zero_mod d = omega (arith, mod-le 0 d)

-- the remainder has the divisor's sign already, where it is 0 or both are on one side of 0
pub floored_rem-same : (a b : ℤ) → 0 < unsigned_abs b → (int_rem a b ≡ pos 0) ⊎ (int_lt (int_rem a b) (pos 0) ≡ int_lt b (pos 0)) → floored_rem a b ≡ int_rem a b
floored_rem-same (pos n) (pos d) h s = refl
floored_rem-same (negsuc m) (negsuc d) h s = refl
floored_rem-same (pos zero) (negsuc d) h s = ap (λ k. neg_ℤ (pos k)) (zero_mod (suc d)) ∙ ap pos (sym (zero_mod (suc d)))
floored_rem-same (pos (suc n)) (negsuc d) h s =
    let e : suc n % suc d ≡ 0 = zero_from_pos (suc n % suc d) d s in
    let none : suc d - 1 - n % suc d ≡ 0 = omega (arith, next_wraps n d e) in
    ap (λ k. neg_ℤ (pos k)) none ∙ ap pos (sym e)
floored_rem-same (negsuc m) (pos zero) h s = absurd (omega arith)
floored_rem-same (negsuc m) (pos (suc d)) h s =
    let e : suc m % suc d ≡ 0 = zero_from_neg (suc m % suc d) (⊎_elim inl (λ t. inr (t ∙ pos_not_below (suc d))) s) in
    let none : suc d - 1 - m % suc d ≡ 0 = omega (arith, next_wraps m d e) in
    ap pos none ∙ ap (λ k. neg_ℤ (pos k)) (sym e)

pub floored_rem-turned : (a b : ℤ) → 0 < unsigned_abs b → int_rem a b ≢ pos 0 → (int_lt (int_rem a b) (pos 0) ≡ int_lt b (pos 0) → ⊥) → floored_rem a b ≡ int_rem a b +ℤ b
floored_rem-turned (pos n) (pos d) h p s = absurd (s (pos_not_below (n % d) ∙ sym (pos_not_below d)))
floored_rem-turned (negsuc m) (negsuc d) h p s = absurd (s (neg_below (suc m % suc d) p))
floored_rem-turned (pos zero) (negsuc d) h p s = absurd (p (ap pos (zero_mod (suc d))))
floored_rem-turned (pos (suc n)) (negsuc d) h p s =
    let e : suc n % suc d ≡ suc (n % suc d) = next_counts n d (above_from_pos (suc n % suc d) p) in
    let below : n % suc d < suc d = mod-lt n (omega arith) in
    omega (arith, ints, e)
floored_rem-turned (negsuc m) (pos zero) h p s = absurd (omega arith)
floored_rem-turned (negsuc m) (pos (suc d)) h p s =
    let e : suc m % suc d ≡ suc (m % suc d) = next_counts m d (above_from_neg (suc m % suc d) p) in
    let below : m % suc d < suc d = mod-lt m (omega arith) in
    omega (arith, ints, e)

IsModulus-euclid : (a : ℤ) (d : ℕ) → IsModulus a (pos (suc d)) (int_rem_euclid a (pos (suc d)))
IsModulus-euclid (pos n) d = (
  record {
    multiple = (pos (n / suc d), omega (arith, ints, div-add-mod' n (suc d)));
    smaller = mod-lt n (omega arith);
  },
  record { below = λ h. absurd (omega (arith, ints)); above = λ h. omega (arith, ints) },
)
IsModulus-euclid (negsuc m) d =
    let below : m % suc d < suc d = mod-lt m (omega arith) in
    let split : suc (m / suc d) * suc d ≡ m / suc d * suc d + suc d = suc-mul (m / suc d) (suc d) in (
      record {
        multiple = (negsuc (m / suc d), omega (arith, ints, split, div-add-mod' m (suc d)));
        smaller = omega arith;
      },
      record { below = λ h. absurd (omega (arith, ints)); above = λ h. omega (arith, ints) },
    )

unsigned_abs-neg : (z : ℤ) → unsigned_abs (neg_ℤ z) ≡ unsigned_abs z
unsigned_abs-neg (pos zero) = refl
unsigned_abs-neg (pos (suc n)) = refl
unsigned_abs-neg (negsuc n) = refl

-- where both signs turn, so does what is left
IsModulus-turned : (a r : ℤ) (d : ℕ) → IsModulus (neg_ℤ a) (pos (suc d)) r → IsModulus a (negsuc d) (neg_ℤ r)
IsModulus-turned a r d e =
    let k : ℤ = e.0.multiple.0 in
    let whole : neg_ℤ a ≡ k *ℤ pos (suc d) +ℤ r = e.0.multiple.1 in
    let turned : k *ℤ negsuc d ≡ neg_ℤ (k *ℤ pos (suc d)) = *ℤ-negsuc k d in
    let size : unsigned_abs (neg_ℤ r) ≡ unsigned_abs r = unsigned_abs-neg r in (
      record { multiple = (k, omega (arith, ints, whole, turned)); smaller = rw size e.0.smaller },
      record {
        below = λ h. omega (arith, ints);
        above = λ h. absurd (let low : r <ℤ pos 0 = omega (arith, ints) in let clash = e.1.below low in omega (arith, ints));
      },
    )

pub IsModulus-floored_rem : (a b : ℤ) → 0 < unsigned_abs b → IsModulus a b (floored_rem a b)
IsModulus-floored_rem a (pos zero) h = absurd (omega arith)
IsModulus-floored_rem a (pos (suc d)) h = IsModulus-euclid a d
IsModulus-floored_rem a (negsuc d) h = IsModulus-turned a _ d (IsModulus-euclid (neg_ℤ a) d)

pub modulus-some : (a b : ℤ) → 0 < unsigned_abs b → modulus a b ≡ Ok (floored_rem a b)
unfolding modulus
modulus-some a (pos zero) h = absurd (omega arith)
modulus-some a (pos (suc n)) h = refl
modulus-some a (negsuc n) h = refl

pub modulus-zero : (a b : ℤ) → b ≡ pos 0 → Err Divide ≡ modulus a b
unfolding modulus
modulus-zero a b e = sym (ap (modulus a) e)

abs-int_div : (a b : ℤ) → unsigned_abs (int_div a b) ≤ unsigned_abs a
abs-int_div (pos a) (pos b) = div-le_self a b
abs-int_div (pos a) (negsuc b) = omega (arith, ints, div-le_self a (suc b))
abs-int_div (negsuc a) (pos b) = omega (arith, ints, div-le_self (suc a) b)
abs-int_div (negsuc a) (negsuc b) = div-le_self (suc a) (suc b)

quotient_fits : (q : ℤ) → FitsSigned w64 q → int_lt q (pos (2 ^ 63)) ≡ true
quotient_fits q h = grind (arith, ints)

pub quotient-some : (a b : ℤ) → 0 < unsigned_abs b → FitsSigned w64 (int_div a b) → quotient a b ≡ Ok (int_div a b)
unfolding quotient
quotient-some a (pos zero) h fits = absurd (omega arith)
quotient-some a (pos (suc d)) h fits = cond-true _ _ _ (quotient_fits (int_div a (pos (suc d))) fits)
quotient-some a (negsuc d) h fits = cond-true _ _ _ (quotient_fits (int_div a (negsuc d)) fits)

quotient_over : (q : ℤ) → unsigned_abs q ≤ 2 ^ 63 → (FitsSigned w64 q → ⊥) → int_lt q (pos (2 ^ 63)) ≡ false
quotient_over q p h = grind (arith, ints)

pub quotient-none : (a b : ℤ) → FitsSigned w64 a → FitsSigned w64 b → ¬ CanDivide w64 a b → quotient a b ≡ Err Divide
unfolding quotient
quotient-none a (pos zero) fits fits' h = refl
quotient-none a (pos (suc d)) fits fits' h =
    let size : unsigned_abs (int_div a (pos (suc d))) ≤ 2 ^ 63 = omega (arith, ints, abs-int_div a (pos (suc d))) in
    cond-false _ _ _ (quotient_over (int_div a (pos (suc d))) size (λ q. h (omega arith, q)))
quotient-none a (negsuc d) fits fits' h =
    let size : unsigned_abs (int_div a (negsuc d)) ≤ 2 ^ 63 = omega (arith, ints, abs-int_div a (negsuc d)) in
    cond-false _ _ _ (quotient_over (int_div a (negsuc d)) size (λ q. h (omega (arith, fits'.sfits), q)))

pub above_from_word : (b : ℤ) → FitsSigned w64 b → 0 < cast_unsigned w64 b → 0 < unsigned_abs b
above_from_word (pos n) fits h = h
above_from_word (negsuc n) fits h = omega arith

pub quotient-checked : (a b : ℤ) (r : Option ℤ) → FitsSigned w64 a → FitsSigned w64 b → SomeIff r (CanDivide w64 a b) (int_div a b) → ok_or r Divide ≡ quotient a b
quotient-checked a b None fits fits' s = sym (quotient-none a b fits fits' s)
quotient-checked a b (Some q) fits fits' s =
    ap Ok s.1 ∙ sym (quotient-some a b (above_from_word b fits' s.0.0) s.0.1)

pub remainder-some : (a b : ℤ) → 0 < unsigned_abs b → remainder a b ≡ Ok (int_rem a b)
unfolding remainder
remainder-some a (pos zero) h = absurd (omega arith)
remainder-some a (pos (suc n)) h = refl
remainder-some a (negsuc n) h = refl

pub remainder-zero : (a b : ℤ) → b ≡ pos 0 → Err Divide ≡ remainder a b
unfolding remainder
remainder-zero a b e = sym (ap (remainder a) e)

-- ---- what the code's calls answer

pub IsQuotient-checked : (a b : ℤ) (r : Option ℤ) → FitsSigned w64 b → SomeIff r (CanDivide w64 a b) (int_div a b) → IfOk (ok_or r Divide) (IsQuotient a b)
IsQuotient-checked a b None fits s = tt
IsQuotient-checked a b (Some q) fits s = subst (IsQuotient a b) (sym s.1) (IsQuotient-int_div a b (above_from_word b fits s.0.0))

pub zero_from_word : (b : ℤ) → FitsSigned w64 b → cast_unsigned w64 b ≡ 0 → b ≡ pos 0
zero_from_word (pos n) fits h = ap pos h
zero_from_word (negsuc n) fits h = absurd (omega (arith, fits.sfits))

pub some_from_word : (b : ℤ) → FitsSigned w64 b → (cast_unsigned w64 b ≡ 0 → ⊥) → 0 < unsigned_abs b
some_from_word b fits h = above_from_word b fits (omega arith)

differ : (s t : Bool) → not (beq s t) ≡ true → s ≡ t → ⊥
differ true true h e = cc
differ true false h e = cc
differ false true h e = cc
differ false false h e = cc

agree : (s t : Bool) → not (beq s t) ≡ false → s ≡ t
agree true true h = refl
agree true false h = cc
agree false true h = cc
agree false false h = refl

-- the remainder r and b on two sides of 0
pub turned_word : (a b r : ℤ) → FitsSigned w64 b → 0 < unsigned_abs b → r ≡ int_rem a b → FitsSigned w64 r → (cast_unsigned w64 r ≡ 0 → ⊥) → not (beq (int_lt r (pos 0)) (int_lt b (pos 0))) ≡ true → cast_signed w64 (cast_unsigned w64 (r +ℤ b)) ≡ floored_rem a b
turned_word a b r fits h e fits' p s =
    let nonzero : int_rem a b ≢ pos 0 = λ z. p (ap (cast_unsigned w64) (e ∙ z)) in
    let apart : int_lt (int_rem a b) (pos 0) ≡ int_lt b (pos 0) → ⊥ =
    subst (λ x. int_lt x (pos 0) ≡ int_lt b (pos 0) → ⊥) e (differ _ _ s) in
    let f : floored_rem a b ≡ r +ℤ b = floored_rem-turned a b h nonzero apart ∙ ap (λ x. x +ℤ b) (sym e) in
    let size : unsigned_abs (floored_rem a b) < unsigned_abs b = (IsModulus-floored_rem a b h).0.smaller in
    let low : unsigned_abs b ≤ 2 ^ 63 = omega (arith, ints) in
    rw (← f) (to_z-of_z w64 (floored_rem a b) (fits_signed_from_abs w64 (floored_rem a b) (omega arith)))

-- r and b on one side of 0, or r is 0
pub same_word : (a b r : ℤ) → 0 < unsigned_abs b → r ≡ int_rem a b → not (beq (int_lt r (pos 0)) (int_lt b (pos 0))) ≡ false → r ≡ floored_rem a b
same_word a b r h e s =
    let one : int_lt (int_rem a b) (pos 0) ≡ int_lt b (pos 0) = subst (λ x. int_lt x (pos 0) ≡ int_lt b (pos 0)) e (agree _ _ s) in
    e ∙ sym (floored_rem-same a b h (inr one))

pub zero_word : (a b r : ℤ) → 0 < unsigned_abs b → r ≡ int_rem a b → FitsSigned w64 r → cast_unsigned w64 r ≡ 0 → r ≡ floored_rem a b
zero_word a b r h e fits z = e ∙ sym (floored_rem-same a b h (inl (sym e ∙ zero_from_word r fits z)))
