-- Whole numbers modulo 2^64, as Julia's Int64 has them (manual, "Integers and Floating-Point Numbers", "Overflow behavior").
use Rattle.std.specs.Prelude.{ℕ, ◌-◌, ◌%◌, ◌^◌, ℤ, pos, negsuc, neg_ℤ, ◌+ℤ◌, ◌-ℤ◌, ◌*ℤ◌, ◌≤ℤ◌, ◌<ℤ◌, ◌≡◌, nat_lt, if◌then◌else◌}

-- z modulo 2^64: the number from 0 to 2^64 - 1 that differs from z by a multiple of 2^64
abbrev pub residue : ℤ → ℕ
residue (pos n) = n % 2 ^ 64
residue (negsuc n) = 2 ^ 64 - 1 - n % 2 ^ 64

-- the number from -2^63 to 2^63 - 1 that differs from z by a multiple of 2^64
unfoldable pub wrapped : ℤ → ℤ
wrapped z =
    if nat_lt (residue z) (2 ^ 63) then pos (residue z) else (pos (residue z) -ℤ pos (2 ^ 64))

-- r is such a number
pub record WrapsTo (z r : ℤ) : Type 0 where
  pub least : neg_ℤ (pos (2 ^ 63)) ≤ℤ r
  pub greatest : r <ℤ pos (2 ^ 63)
  pub multiple : (k : ℤ) × (z ≡ r +ℤ k *ℤ pos (2 ^ 64))
