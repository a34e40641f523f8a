-- The product of whole numbers, wrapped.
use Rattle.std.proofs.Common.{◌≡◌, ℕ, ◌+◌, ◌*◌, ◌%◌, ◌^◌, ◌<◌, sym, ap, ◌∙◌, arith}
use Rattle.std.specs.Prelude.{ℤ, pos, ◌*ℤ◌, FitsSigned}
use Rattle.std.specs.Int.{w64, int_wrap, cast_signed, cast_unsigned}
use Rattle.std.proofs.lemmas.Int.{int_wrap-mul_left, int_wrap-mul_right, to_z-of_z, wrapping_mul-bits}
use borrow.Author.Differences.{up, down, product_is, same_in}
use Rattle.jt_num.specs.Wrapping.{wrapped}
use Rattle.jt_num.proofs.WrappingLemmas.{wrapped-int_wrap, wrapped-word, word_below}

pub product_assoc : (a b c : ℤ) → (a *ℤ b) *ℤ c ≡ a *ℤ (b *ℤ c)
product_assoc a b c =
    let ab = product_is a b in
    let bc = product_is b c in
    let by = λ (k : ℕ) (m n : ℕ) (e : m ≡ n). ap (λ x. x * k) e in
    let left = product_is (a *ℤ b) c in
    let right = product_is a (b *ℤ c) in
    let ups : up ((a *ℤ b) *ℤ c) ≡ up (a *ℤ (b *ℤ c)) =
    omega (arith, by (up c) _ _ ab.0, by (down c) _ _ ab.1, by (up a) _ _ bc.0, by (down a) _ _ bc.1) in
    let downs : down ((a *ℤ b) *ℤ c) ≡ down (a *ℤ (b *ℤ c)) =
    omega (arith, by (down c) _ _ ab.0, by (up c) _ _ ab.1, by (down a) _ _ bc.0, by (up a) _ _ bc.1) in
    same_in _ _ (λ i. ups i + sym downs i)

-- to wrap a factor changes nothing
pub wrapped-mul_left : (a b : ℤ) → wrapped (wrapped a *ℤ b) ≡ wrapped (a *ℤ b)
wrapped-mul_left a b =
    ap (λ z. wrapped (z *ℤ b)) (wrapped-int_wrap a) ∙ wrapped-int_wrap _
    ∙ int_wrap-mul_left w64 a b ∙ sym (wrapped-int_wrap _)

pub wrapped-mul_right : (a b : ℤ) → wrapped (a *ℤ wrapped b) ≡ wrapped (a *ℤ b)
wrapped-mul_right a b =
    ap (λ z. wrapped (a *ℤ z)) (wrapped-int_wrap b) ∙ wrapped-int_wrap _
    ∙ int_wrap-mul_right w64 a b ∙ sym (wrapped-int_wrap _)

-- the bits of z times a word
pub wrapped-mul_word : (z : ℤ) (m : ℕ) → FitsSigned w64 z → m < 2 ^ 64 → cast_signed w64 ((cast_unsigned w64 z * m) % 2 ^ 64) ≡ wrapped (z *ℤ pos m)
wrapped-mul_word z m fits below =
    wrapping_mul-bits w64 (cast_unsigned w64 z) m (word_below z fits) below
    ∙ ap (λ x. int_wrap w64 (x *ℤ cast_signed w64 m)) (to_z-of_z w64 z fits)
    ∙ ap (λ x. int_wrap w64 (z *ℤ x)) (sym (wrapped-word m below))
    ∙ sym (wrapped-int_wrap _)
    ∙ wrapped-mul_right z (pos m)

-- the product of two words
pub wrapped-mul_bits : (m n : ℕ) → m < 2 ^ 64 → n < 2 ^ 64 → cast_signed w64 ((m * n) % 2 ^ 64) ≡ wrapped (cast_signed w64 m *ℤ cast_signed w64 n)
wrapped-mul_bits m n p q = wrapping_mul-bits w64 m n p q ∙ sym (wrapped-int_wrap _)
