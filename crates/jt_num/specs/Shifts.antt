-- Shifts of whole numbers, by a count of either sign.
use Rattle.std.specs.Prelude.{ℕ, suc, ◌/◌, ◌^◌, ℤ, pos, negsuc, ◌+ℤ◌, ◌*ℤ◌, ◌≤ℤ◌, ◌<ℤ◌}
use Rattle.jt_num.specs.Wrapping.{wrapped, residue}

-- z / m rounded down
abbrev pub floor_of : ℤ → ℕ → ℤ
floor_of (pos n) m = pos (n / m)
floor_of (negsuc n) m = negsuc (n / m)

-- q is z / m rounded down
pub record IsFloor (z : ℤ) (m : ℕ) (q : ℤ) : Type 0 where
  pub reached : (q *ℤ pos m) ≤ℤ z
  pub greatest : z <ℤ ((q +ℤ pos 1) *ℤ pos m)

-- z shifted by n bits: upwards, downwards with the sign filled in, and downwards with zeros filled in
unfoldable pub shifted_up : ℤ → ℕ → ℤ
shifted_up z n = wrapped (z *ℤ pos (2 ^ n))

unfoldable pub shifted_down : ℤ → ℕ → ℤ
shifted_down z n = floor_of z (2 ^ n)

unfoldable pub shifted_down_unsigned : ℤ → ℕ → ℤ
shifted_down_unsigned z n = wrapped (pos (residue z / 2 ^ n))

-- Julia's `<<`, `>>` and `>>>`: a negative count shifts the other way
unfoldable pub left_shift : ℤ → ℤ → ℤ
left_shift a (pos n) = shifted_up a n
left_shift a (negsuc n) = shifted_down a (suc n)

unfoldable pub right_shift : ℤ → ℤ → ℤ
right_shift a (pos n) = shifted_down a n
right_shift a (negsuc n) = shifted_up a (suc n)

unfoldable pub unsigned_right_shift : ℤ → ℤ → ℤ
unsigned_right_shift a (pos n) = shifted_down_unsigned a n
unsigned_right_shift a (negsuc n) = shifted_up a (suc n)
