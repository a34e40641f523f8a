-- Powers by squaring.
use Rattle.std.proofs.Common.{◌≡◌, ℕ, zero, suc, ◌+◌, ◌/◌, ◌%◌, ◌<◌, refl, sym, ap, ◌∙◌, arith, true, false, eq-eqb, ne_eqb}
use Rattle.std.specs.Prelude.{ℤ, pos, negsuc, neg_ℤ, ◌*ℤ◌, ◌==◌, FitsSigned, int_le, int_rem, unsigned_abs, Ok, Err}
use Rattle.std.specs.Int.{w64, cast_unsigned}
use Rattle.std.proofs.lemmas.Int.{ints}
use Rattle.std.proofs.Math.IntN.{*ℤ_comm}
use Rattle.std.proofs.lemmas.Bool.{cond-true, cond-false}
use Rattle.jt_num.specs.declared.NumFault.TheVariants.{Domain}
use Rattle.jt_num.specs.Powers.{power, raised}
use Rattle.jt_num.specs.Wrapping.{wrapped}
use Rattle.jt_num.proofs.WrappingLemmas.{pos_never_above}
use Rattle.jt_num.proofs.ProductLemmas.{product_assoc, wrapped-mul_left, wrapped-mul_right}

-- a factor moves past another
product_swap : (a b c : ℤ) → a *ℤ (b *ℤ c) ≡ b *ℤ (a *ℤ c)
product_swap a b c = sym (product_assoc a b c) ∙ ap (λ x. x *ℤ c) (*ℤ_comm a b) ∙ product_assoc b a c

product_one : (z : ℤ) → z *ℤ pos 1 ≡ z
product_one z = omega (arith, ints)

-- twice as many factors
pub raised-square : (z : ℤ) (n : ℕ) → raised (z *ℤ z) n ≡ raised z (n + n)
unfolding raised
raised-square z zero = refl
raised-square z (suc n) =
    let e : suc n + suc n ≡ suc (suc (n + n)) = omega arith in
    ap (λ x. (z *ℤ z) *ℤ x) (raised-square z n) ∙ product_assoc z z (raised z (n + n)) ∙ sym (ap (raised z) e)

-- to wrap the base changes nothing
pub raised-wrapped : (z : ℤ) (n : ℕ) → wrapped (raised (wrapped z) n) ≡ wrapped (raised z n)
unfolding raised
raised-wrapped z zero = refl
raised-wrapped z (suc n) =
    wrapped-mul_left z (raised (wrapped z) n)
    ∙ sym (wrapped-mul_right z (raised (wrapped z) n))
    ∙ ap (λ x. wrapped (z *ℤ x)) (raised-wrapped z n)
    ∙ wrapped-mul_right z (raised z n)

-- the base squared, and half of the factors
halved : (p b : ℤ) (n : ℕ) → wrapped (p *ℤ raised (wrapped (b *ℤ b)) n) ≡ wrapped (p *ℤ raised b (n + n))
halved p b n =
    sym (wrapped-mul_right p (raised (wrapped (b *ℤ b)) n))
    ∙ ap (λ x. wrapped (p *ℤ x)) (raised-wrapped (b *ℤ b) n ∙ ap wrapped (raised-square b n))
    ∙ wrapped-mul_right p (raised b (n + n))

-- one round: r is the product so far, and s the base squared
pub even_step : (p b s : ℤ) (k : ℕ) → s ≡ wrapped (b *ℤ b) → (k % 2 ≡ 1 → ⊥) → wrapped (p *ℤ raised s (k / 2)) ≡ wrapped (p *ℤ raised b k)
even_step p b s k f h =
    let e : k / 2 + k / 2 ≡ k = omega arith in
    ap (λ x. wrapped (p *ℤ raised x (k / 2))) f ∙ halved p b (k / 2) ∙ ap (λ n. wrapped (p *ℤ raised b n)) e

pub odd_step : (p b r s : ℤ) (k : ℕ) → r ≡ wrapped (p *ℤ b) → s ≡ wrapped (b *ℤ b) → k % 2 ≡ 1 → wrapped (r *ℤ raised s (k / 2)) ≡ wrapped (p *ℤ raised b k)
unfolding raised
odd_step p b r s k g f h =
    let e : suc (k / 2 + k / 2) ≡ k = omega arith in
    ap (λ x. wrapped (x *ℤ raised s (k / 2))) g
    ∙ ap (λ x. wrapped (wrapped (p *ℤ b) *ℤ raised x (k / 2))) f
    ∙ halved (wrapped (p *ℤ b)) b (k / 2)
    ∙ wrapped-mul_left (p *ℤ b) (raised b (k / 2 + k / 2))
    ∙ ap wrapped (product_assoc p b (raised b (k / 2 + k / 2)))
    ∙ ap (λ n. wrapped (p *ℤ raised b n)) e

pub first_step : (b : ℤ) (n : ℕ) → wrapped (pos 1 *ℤ raised b n) ≡ wrapped (raised b n)
first_step b n = ap wrapped (*ℤ_comm (pos 1) (raised b n) ∙ product_one (raised b n))

pub last_step : (p b : ℤ) (n : ℕ) → n ≡ 0 → wrapped (p *ℤ raised b n) ≡ wrapped p
unfolding raised
last_step p b n e = ap (λ k. wrapped (p *ℤ raised b k)) e ∙ ap wrapped (product_one p)

-- ---- exponents of either sign

pub power-pos : (a b : ℤ) → int_le (pos 0) b ≡ true → power a b ≡ Ok (wrapped (raised a (unsigned_abs b)))
unfolding power
power-pos a (pos n) h = refl
power-pos a (negsuc n) h = cc

pub power-one : (a b : ℤ) → a ≡ pos 1 → int_le (pos 0) b ≡ false → Ok (pos 1) ≡ power a b
unfolding power
power-one a (pos n) e h = pos_never_above n h
power-one a (negsuc n) e h = sym (ap (λ x. power x (negsuc n)) e)

-- the parity of a number below 0
even_from_word : (r : ℕ) → r < 2 → cast_unsigned w64 (neg_ℤ (pos r)) ≡ 0 → r ≡ 0
even_from_word zero below h = refl
even_from_word (suc zero) below h = absurd (omega arith)
even_from_word (suc (suc r)) below h = absurd (omega arith)

even_negsuc : (n : ℕ) → cast_unsigned w64 (int_rem (negsuc n) (pos 2)) ≡ 0 → (suc n % 2 == 0) ≡ true
even_negsuc n h = eq-eqb (suc n % 2) 0 (even_from_word (suc n % 2) (omega arith) h)

odd_negsuc : (n : ℕ) → (cast_unsigned w64 (int_rem (negsuc n) (pos 2)) ≡ 0 → ⊥) → (suc n % 2 == 0) ≡ false
odd_negsuc n h = ne_eqb (suc n % 2) 0 (λ e. h (ap (λ r. cast_unsigned w64 (neg_ℤ (pos r))) e))

pub power-even : (a b : ℤ) → a ≡ negsuc 0 → int_le (pos 0) b ≡ false → cast_unsigned w64 (int_rem b (pos 2)) ≡ 0 → Ok (pos 1) ≡ power a b
unfolding power
power-even a (pos n) e h p = pos_never_above n h
power-even a (negsuc n) e h p =
    sym (ap (λ x. power x (negsuc n)) e ∙ ap Ok (cond-true _ (pos 1) (negsuc 0) (even_negsuc n p)))

pub power-odd : (a b : ℤ) → a ≡ negsuc 0 → int_le (pos 0) b ≡ false → (cast_unsigned w64 (int_rem b (pos 2)) ≡ 0 → ⊥) → Ok (negsuc 0) ≡ power a b
unfolding power
power-odd a (pos n) e h p = pos_never_above n h
power-odd a (negsuc n) e h p =
    sym (ap (λ x. power x (negsuc n)) e ∙ ap Ok (cond-false _ (pos 1) (negsuc 0) (odd_negsuc n p)))

pub power-other : (a b : ℤ) → (a ≡ pos 1 → ⊥) → (a ≡ negsuc 0 → ⊥) → int_le (pos 0) b ≡ false → Err Domain ≡ power a b
unfolding power
power-other a (pos n) p q h = pos_never_above n h
power-other (pos zero) (negsuc n) p q h = refl
power-other (pos (suc zero)) (negsuc n) p q h = absurd (p refl)
power-other (pos (suc (suc m))) (negsuc n) p q h = refl
power-other (negsuc zero) (negsuc n) p q h = absurd (q refl)
power-other (negsuc (suc m)) (negsuc n) p q h = refl

-- what a test of a word says
pub one_from_word : (a : ℤ) → FitsSigned w64 a → cast_unsigned w64 a ≡ 1 → a ≡ pos 1
one_from_word (pos n) fits h = ap pos h
one_from_word (negsuc n) fits h = absurd (omega (arith, fits.sfits))

pub minus_one_from_word : (a : ℤ) → FitsSigned w64 a → cast_unsigned w64 a ≡ 18446744073709551615 → a ≡ negsuc 0
minus_one_from_word (pos n) fits h = absurd (omega (arith, fits.sfits))
minus_one_from_word (negsuc n) fits h = ap negsuc (omega (arith, fits.sfits))
