-- Powers of whole numbers.
use Rattle.std.specs.Prelude.{ℕ, zero, suc, ◌%◌, ◌==◌, ℤ, pos, negsuc, ◌*ℤ◌, Result, Ok, Err, if◌then◌else◌}
use Rattle.jt_num.specs.declared.NumFault.{NumFault}
use Rattle.jt_num.specs.declared.NumFault.TheVariants.{Domain}
use Rattle.jt_num.specs.Wrapping.{wrapped}

-- z multiplied by itself: n factors
unfoldable pub raised : ℤ → ℕ → ℤ
raised z zero = pos 1
raised z (suc n) = z *ℤ raised z n

-- Julia's `^` with any exponent: 1 and -1 alone have powers with a negative one
unfoldable pub power : ℤ → ℤ → Result ℤ NumFault
power a (pos n) = Ok (wrapped (raised a n))
power (pos (suc zero)) (negsuc n) = Ok (pos 1)
power (negsuc zero) (negsuc n) = Ok (if suc n % 2 == 0 then pos 1 else negsuc 0)
power a (negsuc n) = Err Domain
