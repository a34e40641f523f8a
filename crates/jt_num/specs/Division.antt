-- Division of whole numbers. Of std, `int_div` is the quotient truncated towards zero, and
-- `int_rem` and `int_rem_euclid` are what the truncated quotient and the quotient by a positive
-- divisor rounded down leave.
use Rattle.std.specs.Prelude.{zero, suc, ◌^◌, ◌<◌, ℤ, pos, negsuc, neg_ℤ, ◌+ℤ◌, ◌-ℤ◌, ◌*ℤ◌, ◌<ℤ◌, ◌≡◌, int_lt, int_div, int_rem, unsigned_abs, Result, Ok, Err, if◌then◌else◌}
use Rattle.std.specs.Int.{int_rem_euclid}
use Rattle.jt_num.specs.declared.NumFault.{NumFault}
use Rattle.jt_num.specs.declared.NumFault.TheVariants.{Divide}

-- Julia's `div`: there is none by 0, nor where it is too large for an Int64
unfoldable pub quotient : ℤ → ℤ → Result ℤ NumFault
quotient a (pos zero) = Err Divide
quotient a b = if int_lt (int_div a b) (pos (2 ^ 63)) then Ok (int_div a b) else Err Divide

-- Julia's `rem`: there is none by 0
unfoldable pub remainder : ℤ → ℤ → Result ℤ NumFault
remainder a (pos zero) = Err Divide
remainder a b = Ok (int_rem a b)

-- what the quotient rounded down leaves of a: where both signs turn, so does it
abbrev pub floored_rem : ℤ → ℤ → ℤ
floored_rem a (pos n) = int_rem_euclid a (pos n)
floored_rem a (negsuc n) = neg_ℤ (int_rem_euclid (neg_ℤ a) (pos (suc n)))

-- Julia's `mod`: there is none by 0
unfoldable pub modulus : ℤ → ℤ → Result ℤ NumFault
modulus a (pos zero) = Err Divide
modulus a b = Ok (floored_rem a b)

-- r is on no other side of 0 than z
pub record TakesSign (z r : ℤ) : Type 0 where
  pub below : r <ℤ pos 0 → z <ℤ pos 0
  pub above : pos 0 <ℤ r → pos 0 <ℤ z

-- a multiple of b and r make a, and r is less than b in magnitude
pub record IsLeft (a b r : ℤ) : Type 0 where
  pub multiple : (k : ℤ) × (a ≡ k *ℤ b +ℤ r)
  pub smaller : unsigned_abs r < unsigned_abs b

-- r is what a division of a by b leaves, with the sign of a
abbrev pub IsRemainder : ℤ → ℤ → ℤ → Type 0
IsRemainder a b r = IsLeft a b r × TakesSign a r

-- r is what a division of a by b leaves, with the sign of b
abbrev pub IsModulus : ℤ → ℤ → ℤ → Type 0
IsModulus a b r = IsLeft a b r × TakesSign b r

-- q times b falls short of a by a remainder
abbrev pub IsQuotient : ℤ → ℤ → ℤ → Type 0
IsQuotient a b q = IsRemainder a b (a -ℤ q *ℤ b)
