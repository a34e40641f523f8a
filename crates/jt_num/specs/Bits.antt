-- Whole numbers bit by bit, as words of 64 bits.
use Rattle.std.specs.Prelude.{ℤ, pos, neg_ℤ, ◌-ℤ◌, bit_and, bit_or, bit_xor}
use Rattle.jt_num.specs.Wrapping.{wrapped, residue}

-- Julia's `&`, `|` and `⊻`
unfoldable pub bits_and : ℤ → ℤ → ℤ
bits_and a b = wrapped (pos (bit_and (residue a) (residue b)))

unfoldable pub bits_or : ℤ → ℤ → ℤ
bits_or a b = wrapped (pos (bit_or (residue a) (residue b)))

unfoldable pub bits_xor : ℤ → ℤ → ℤ
bits_xor a b = wrapped (pos (bit_xor (residue a) (residue b)))

-- Julia's `~`: each bit the other way
abbrev pub complement : ℤ → ℤ
complement a = neg_ℤ a -ℤ pos 1
