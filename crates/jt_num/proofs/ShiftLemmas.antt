-- Shifts by whole words, and shifts that leave nothing.
use Rattle.std.proofs.Common.{◌≡◌, ℕ, ◌+◌, ◌-◌, ◌*◌, ◌/◌, ◌%◌, ◌^◌, ◌<◌, ◌≤◌, min, true, false, ⊎_elim, refl, sym, ap, ◌∙◌, arith, lit<}
use Rattle.std.specs.Prelude.{ℤ, pos, negsuc, ◌+ℤ◌, ◌*ℤ◌, FitsSigned, unsigned_abs, int_lt}
use Rattle.std.specs.Int.{w64, cast_signed, cast_unsigned, int_shr}
use Rattle.std.proofs.lemmas.Bool.{cases_lt}
use Rattle.std.proofs.lemmas.Int.{ints, to_z-of_z}
use Rattle.std.proofs.lemmas.Nat.{pow-add, pow_below, pow_pos, div-add-mod', shr_le}
use Rattle.std.proofs.Math.IntN.{+ℤ_one, suc_ℤ-*ℤ}
use Rattle.std.proofs.Math.Nat.{div-eq_of_lt, div-le_self, lt-div-mul-add, pow-le-pow_right}
use Rattle.jt_num.specs.Shifts.{floor_of, IsFloor, shifted_up, shifted_down, shifted_down_unsigned, left_shift, right_shift, unsigned_right_shift}
use Rattle.jt_num.specs.Wrapping.{residue, wrapped, WrapsTo}
use Rattle.jt_num.proofs.WrappingLemmas.{residue_below, word-residue, wrapped-word, only_wrapped, pos_never_below}
use Rattle.jt_num.proofs.ProductLemmas.{product_assoc, wrapped-mul_word}

pub up_low : (z : ℤ) (n : ℕ) → FitsSigned w64 z → n < 64 → cast_signed w64 ((cast_unsigned w64 z * 2 ^ n) % 2 ^ 64) ≡ shifted_up z n
unfolding shifted_up
up_low z n fits h = wrapped-mul_word z (2 ^ n) fits (pow_below n 64 h)

-- 64 bits or more leave a multiple of 2^64
pub up_high : (z : ℤ) (n : ℕ) → 64 ≤ n → pos 0 ≡ shifted_up z n
unfolding shifted_up
up_high z n h =
    let e : n ≡ (n - 64) + 64 = omega arith in
    let k : ℤ = z *ℤ pos (2 ^ (n - 64)) in
    let whole : z *ℤ pos (2 ^ n) ≡ k *ℤ pos (2 ^ 64) =
    ap (λ m. z *ℤ pos m) (ap (λ m. 2 ^ m) e ∙ pow-add 2 (n - 64) 64) ∙ sym (product_assoc z (pos (2 ^ (n - 64))) (pos (2 ^ 64))) in
    let at : WrapsTo (z *ℤ pos (2 ^ n)) (pos 0) = record {
      least = omega (arith, ints);
      greatest = omega (arith, ints);
      multiple = (k, omega (arith, ints, whole));
    } in
    (only_wrapped (z *ℤ pos (2 ^ n)) _ refl (pos 0)).0 at

-- a number below 2^h is below 2^n
below_power : (a h n : ℕ) → a < 2 ^ h → h ≤ n → a < 2 ^ n
below_power a h n p q = omega (arith, p, pow-le-pow_right {n = 2} (omega arith) q)

floor-shr : (z : ℤ) (n : ℕ) → int_shr z n ≡ floor_of z (2 ^ n)
floor-shr (pos a) n = refl
floor-shr (negsuc a) n = refl

FitsSigned-floor_of : (z : ℤ) (m : ℕ) → FitsSigned w64 z → FitsSigned w64 (floor_of z m)
FitsSigned-floor_of (pos a) m fits = record { sfits = omega (arith, fits.sfits, div-le_self a m) }
FitsSigned-floor_of (negsuc a) m fits = record { sfits = omega (arith, fits.sfits, div-le_self a m) }

-- 63 bits or more leave nothing but the sign
floor_high : (z : ℤ) (m n : ℕ) → FitsSigned w64 z → 63 ≤ m → 63 ≤ n → floor_of z (2 ^ m) ≡ floor_of z (2 ^ n)
floor_high (pos a) m n fits p q =
    ap pos (div-eq_of_lt (below_power a 63 m fits.sfits p) ∙ sym (div-eq_of_lt (below_power a 63 n fits.sfits q)))
floor_high (negsuc a) m n fits p q =
    ap negsuc (div-eq_of_lt (below_power a 63 m fits.sfits p) ∙ sym (div-eq_of_lt (below_power a 63 n fits.sfits q)))

pub down_capped : (z : ℤ) (n : ℕ) → FitsSigned w64 z → int_shr z (min n 63) ≡ shifted_down z n
unfolding shifted_down
down_capped z n fits = floor-shr z (min n 63) ∙ ⊎_elim
    (λ (h : n < 63). ap (λ k. floor_of z (2 ^ k)) (omega arith))
    (λ (h : 63 ≤ n). floor_high z (min n 63) n fits (omega arith) h)
    (cases_lt n 63)

-- the same as the machine writes it
pub down_word : (z : ℤ) (n k : ℕ) → FitsSigned w64 z → k ≡ min n 63 → cast_signed w64 (cast_unsigned w64 (int_shr (cast_signed w64 (cast_unsigned w64 z)) k)) ≡ shifted_down z n
down_word z n k fits e =
    ap (λ x. cast_signed w64 (cast_unsigned w64 (int_shr x k))) (to_z-of_z w64 z fits)
    ∙ to_z-of_z w64 (int_shr z k) (rw (floor-shr z k) (FitsSigned-floor_of z (2 ^ k) fits))
    ∙ ap (int_shr z) e
    ∙ down_capped z n fits

pub IsFloor-floor_of : (z : ℤ) (m : ℕ) → 0 < m → IsFloor z m (floor_of z m)
IsFloor-floor_of (pos n) m h = record {
  reached = omega (arith, ints, div-add-mod' n m);
  greatest = omega (arith, ints, lt-div-mul-add {a = n} h);
}
IsFloor-floor_of (negsuc n) m h =
    let next : (negsuc (n / m) +ℤ pos 1) *ℤ pos m ≡ negsuc (n / m) *ℤ pos m +ℤ pos m =
    ap (λ z. z *ℤ pos m) (+ℤ_one (negsuc (n / m))) ∙ suc_ℤ-*ℤ (negsuc (n / m)) (pos m) in
    record {
      reached = omega (arith, ints, lt-div-mul-add {a = n} h);
      greatest = omega (arith, ints, next, div-add-mod' n m);
    }

pub IsFloor-shifted_down : (z : ℤ) (n : ℕ) → IsFloor z (2 ^ n) (shifted_down z n)
unfolding shifted_down
IsFloor-shifted_down z n = IsFloor-floor_of z (2 ^ n) (pow_pos n)

pub down_unsigned_low : (z : ℤ) (n : ℕ) → FitsSigned w64 z → cast_signed w64 (cast_unsigned w64 z / 2 ^ n) ≡ shifted_down_unsigned z n
unfolding shifted_down_unsigned
down_unsigned_low z n fits =
    let below : residue z / 2 ^ n < 2 ^ 64 = omega (arith, residue_below z, shr_le (residue z) n) in
    ap (λ m. cast_signed w64 (m / 2 ^ n)) (word-residue z fits) ∙ sym (wrapped-word (residue z / 2 ^ n) below)

pub down_unsigned_high : (z : ℤ) (n : ℕ) → 64 ≤ n → pos 0 ≡ shifted_down_unsigned z n
unfolding shifted_down_unsigned
down_unsigned_high z n h =
    sym (ap (λ m. wrapped (pos m)) (div-eq_of_lt (below_power (residue z) 64 n (residue_below z) h)) ∙ wrapped-word 0 (lit< tt))

-- which way a count shifts
pub left_shift-pos : (a b : ℤ) → int_lt b (pos 0) ≡ false → left_shift a b ≡ shifted_up a (unsigned_abs b)
unfolding left_shift
left_shift-pos a (pos n) h = refl
left_shift-pos a (negsuc n) h = cc

pub left_shift-neg : (a b : ℤ) → int_lt b (pos 0) ≡ true → left_shift a b ≡ shifted_down a (unsigned_abs b)
unfolding left_shift
left_shift-neg a (pos n) h = pos_never_below n h
left_shift-neg a (negsuc n) h = refl

pub right_shift-pos : (a b : ℤ) → int_lt b (pos 0) ≡ false → right_shift a b ≡ shifted_down a (unsigned_abs b)
unfolding right_shift
right_shift-pos a (pos n) h = refl
right_shift-pos a (negsuc n) h = cc

pub right_shift-neg : (a b : ℤ) → int_lt b (pos 0) ≡ true → right_shift a b ≡ shifted_up a (unsigned_abs b)
unfolding right_shift
right_shift-neg a (pos n) h = pos_never_below n h
right_shift-neg a (negsuc n) h = refl

pub unsigned_right_shift-pos : (a b : ℤ) → int_lt b (pos 0) ≡ false → unsigned_right_shift a b ≡ shifted_down_unsigned a (unsigned_abs b)
unfolding unsigned_right_shift
unsigned_right_shift-pos a (pos n) h = refl
unsigned_right_shift-pos a (negsuc n) h = cc

pub unsigned_right_shift-neg : (a b : ℤ) → int_lt b (pos 0) ≡ true → unsigned_right_shift a b ≡ shifted_up a (unsigned_abs b)
unfolding unsigned_right_shift
unsigned_right_shift-neg a (pos n) h = pos_never_below n h
unsigned_right_shift-neg a (negsuc n) h = refl

-- the floor that a count of 0 or more gives
pub IsFloor-right_shift : (a b r : ℤ) → r ≡ right_shift a b → (n : ℕ) → b ≡ pos n → IsFloor a (2 ^ n) r
unfolding right_shift
IsFloor-right_shift a b r e n f = rw (e, f) (IsFloor-shifted_down a n)
