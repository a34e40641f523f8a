-- A word within a range.
use Rattle.std.proofs.Common.{◌≡◌, ℕ, ◌+◌, ◌%◌, ◌^◌, ◌<◌, ap, sym, ◌∙◌, arith, mod-lt, false}
use Rattle.std.specs.Prelude.{ℤ, pos, negsuc, ◌+ℤ◌, ◌-ℤ◌, ◌≤ℤ◌, FitsSigned, unsigned_abs, int_lt}
use Rattle.std.specs.Int.{w64, cast_signed, cast_unsigned}
use Rattle.std.proofs.lemmas.Int.{ints}
use Rattle.jt_rng.specs.Range.{size_of, range_value}

distance_is : (z : ℤ) → pos 0 ≤ℤ z → pos (unsigned_abs z) ≡ z
distance_is (pos n) h = omega (arith, ints)
distance_is (negsuc n) h = absurd (omega (arith, ints))

size_is : (a b : ℤ) → a ≤ℤ b → size_of a b ≡ unsigned_abs (b -ℤ a) + 1
size_is a b h =
    let e : pos (unsigned_abs (b -ℤ a)) ≡ b -ℤ a = distance_is (b -ℤ a) (omega (arith, ints)) in
    let f : pos (size_of a b) ≡ b -ℤ a +ℤ pos 1 = distance_is (b -ℤ a +ℤ pos 1) (omega (arith, ints)) in
    omega (arith, ints, e, f)

sum_fits : (a : ℤ) (k : ℕ) → FitsSigned w64 a → FitsSigned w64 (a +ℤ pos k) → cast_signed w64 ((cast_unsigned w64 a + k) % 2 ^ 64) ≡ a +ℤ pos k
sum_fits (pos n) k p q = grind (arith, ints)
sum_fits (negsuc n) k p q = grind (arith, ints)

-- the sum that the code makes, at the distance of the bounds
pub range_sum : (a b : ℤ) (word distance offset : ℕ) → FitsSigned w64 a → FitsSigned w64 b → a ≤ℤ b → distance ≡ unsigned_abs (b -ℤ a) → offset ≡ word % (distance + 1) → cast_signed w64 ((cast_unsigned w64 a + offset) % 2 ^ 64) ≡ range_value a b word
unfolding range_value
range_sum a b word distance offset p q h e f =
    let far : pos (unsigned_abs (b -ℤ a)) ≡ b -ℤ a = distance_is (b -ℤ a) (omega (arith, ints)) in
    let below : word % (distance + 1) < distance + 1 = mod-lt word (omega arith) in
    let fits : FitsSigned w64 (a +ℤ pos offset) = omega (arith, ints) in
    let size : distance + 1 ≡ size_of a b = ap (λ n. n + 1) e ∙ sym (size_is a b h) in
    sum_fits a offset p fits ∙ ap (λ n. a +ℤ pos n) (f ∙ ap (λ n. word % n) size)

-- a test that failed
pub in_order : (a b : ℤ) → int_lt b a ≡ false → a ≤ℤ b
in_order a b h = grind (arith, ints)
