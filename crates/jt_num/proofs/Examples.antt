-- Worked values of the definitions.
use Rattle.std.proofs.Common.{◌≡◌, ◌+◌, ◌^◌, refl}
use Rattle.std.specs.Prelude.{ℤ, pos, negsuc, neg_ℤ, Ok, Err}
use Rattle.jt_num.specs.declared.NumFault.TheVariants.{Divide, Domain}
use Rattle.jt_num.specs.Wrapping.{wrapped}
use Rattle.jt_num.specs.Division.{quotient, remainder, modulus}
use Rattle.jt_num.specs.Powers.{power, raised}
use Rattle.jt_num.specs.Shifts.{left_shift, right_shift, unsigned_right_shift, shifted_up, shifted_down, shifted_down_unsigned}

least : ℤ
least = neg_ℤ (pos (2 ^ 63))

-- one more than the greatest value is the least one
wrapped-past_greatest : wrapped (pos (2 ^ 63)) ≡ neg_ℤ (pos (2 ^ 63))
unfolding wrapped
wrapped-past_greatest = refl

wrapped-below_least : wrapped (neg_ℤ (pos (2 ^ 63 + 1))) ≡ pos 9223372036854775807
unfolding wrapped
wrapped-below_least = refl

wrapped-whole_word : wrapped (pos (2 ^ 64)) ≡ pos 0
unfolding wrapped
wrapped-whole_word = refl

wrapped-itself : wrapped (negsuc 6) ≡ negsuc 6
unfolding wrapped
wrapped-itself = refl

-- -7 by 2 and 7 by -2
quotient-towards_zero : quotient (negsuc 6) (pos 2) ≡ Ok (negsuc 2)
unfolding quotient
quotient-towards_zero = refl

quotient-too_large : quotient (neg_ℤ (pos (2 ^ 63))) (negsuc 0) ≡ Err Divide
unfolding quotient
quotient-too_large = refl

quotient-by_zero : quotient (pos 1) (pos 0) ≡ Err Divide
unfolding quotient
quotient-by_zero = refl

remainder-of_dividend : remainder (negsuc 6) (pos 2) ≡ Ok (negsuc 0)
unfolding remainder
remainder-of_dividend = refl

remainder-by_minus_one : remainder (neg_ℤ (pos (2 ^ 63))) (negsuc 0) ≡ Ok (pos 0)
unfolding remainder
remainder-by_minus_one = refl

modulus-of_divisor : modulus (negsuc 6) (pos 3) ≡ Ok (pos 2)
unfolding modulus
modulus-of_divisor = refl

modulus-of_negative_divisor : modulus (pos 7) (negsuc 2) ≡ Ok (negsuc 1)
unfolding modulus
modulus-of_negative_divisor = refl

modulus-by_minus_one : modulus (neg_ℤ (pos (2 ^ 63))) (negsuc 0) ≡ Ok (pos 0)
unfolding modulus
modulus-by_minus_one = refl

power-wraps : power (pos 2) (pos 63) ≡ Ok (neg_ℤ (pos (2 ^ 63)))
unfolding power raised wrapped
power-wraps = refl

power-of_nothing : power (pos 0) (pos 0) ≡ Ok (pos 1)
unfolding power raised wrapped
power-of_nothing = refl

power-odd_below : power (negsuc 0) (negsuc 2) ≡ Ok (negsuc 0)
unfolding power
power-odd_below = refl

power-even_below : power (negsuc 0) (negsuc 1) ≡ Ok (pos 1)
unfolding power
power-even_below = refl

power-one_below : power (pos 1) (negsuc 4) ≡ Ok (pos 1)
unfolding power
power-one_below = refl

power-two_below : power (pos 2) (negsuc 0) ≡ Err Domain
unfolding power
power-two_below = refl

-- 1 << 64, 8 << -2, -1 >> 70, -1 >>> 64 and -1 >>> 1
left_shift-whole_word : left_shift (pos 1) (pos 64) ≡ pos 0
unfolding left_shift shifted_up wrapped
left_shift-whole_word = refl

left_shift-back : left_shift (pos 8) (negsuc 1) ≡ pos 2
unfolding left_shift shifted_down
left_shift-back = refl

right_shift-sign : right_shift (negsuc 0) (pos 70) ≡ negsuc 0
unfolding right_shift shifted_down
right_shift-sign = refl

unsigned_right_shift-whole_word : unsigned_right_shift (negsuc 0) (pos 64) ≡ pos 0
unfolding unsigned_right_shift shifted_down_unsigned wrapped
unsigned_right_shift-whole_word = refl

unsigned_right_shift-one : unsigned_right_shift (negsuc 0) (pos 1) ≡ pos 9223372036854775807
unfolding unsigned_right_shift shifted_down_unsigned wrapped
unsigned_right_shift-one = refl
