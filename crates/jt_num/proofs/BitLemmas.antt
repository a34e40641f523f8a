-- The words of two numbers, combined bit by bit.
use Rattle.std.proofs.Common.{◌≡◌, ℕ, ◌∙◌, ap, w64, to_z, of_z}
use Rattle.std.specs.Prelude.{ℤ, pos, bit_and, bit_or, bit_xor, FitsSigned}
use Rattle.std.specs.Int.{cast_unsigned}
use Rattle.std.proofs.lemmas.Int.{to_z-of_z}
use Rattle.jt_num.specs.Wrapping.{residue, wrapped}
use Rattle.jt_num.specs.Bits.{bits_and, bits_or, bits_xor}
use Rattle.jt_num.proofs.WrappingLemmas.{word-residue}

-- the word that stands for a number is its residue
pub word_of : (a : ℤ) (m : ℕ) → FitsSigned w64 a → m ≡ cast_unsigned w64 (to_z w64 (of_z w64 a)) → m ≡ residue a
word_of a m fits is = is ∙ ap (cast_unsigned w64) (to_z-of_z w64 a fits) ∙ word-residue a fits

pub and_of_words : (a b : ℤ) (m n : ℕ) → m ≡ residue a → n ≡ residue b → wrapped (pos (bit_and m n)) ≡ bits_and a b
unfolding bits_and
and_of_words a b m n p q = cc

pub or_of_words : (a b : ℤ) (m n : ℕ) → m ≡ residue a → n ≡ residue b → wrapped (pos (bit_or m n)) ≡ bits_or a b
unfolding bits_or
or_of_words a b m n p q = cc

pub xor_of_words : (a b : ℤ) (m n : ℕ) → m ≡ residue a → n ≡ residue b → wrapped (pos (bit_xor m n)) ≡ bits_xor a b
unfolding bits_xor
xor_of_words a b m n p q = cc
