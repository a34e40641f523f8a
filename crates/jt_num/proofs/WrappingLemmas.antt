use Rattle.std.proofs.Common.{◌≡◌, ℕ, ◌/◌, ◌^◌, ◌<◌, ◌↔◌, sym, ◌∙◌, subst, arith, true, false}
use Rattle.std.specs.Prelude.{ℤ, pos, negsuc, ◌+ℤ◌, ◌-ℤ◌, ◌*ℤ◌, nat_lt, int_lt, int_le, FitsSigned}
use Rattle.std.specs.Int.{w64, int_wrap, cast_signed, cast_unsigned}
use Rattle.std.proofs.lemmas.Int.{ints, int_wrap_fits, SFits-int_wrap}
use Rattle.std.proofs.lemmas.Bool.{cond_both}
use Rattle.jt_num.specs.Wrapping.{residue, wrapped, WrapsTo}

pub residue_below : (z : ℤ) → residue z < 2 ^ 64
residue_below (pos n) = omega arith
residue_below (negsuc n) = omega arith

-- z is its residue and a multiple of 2^64
pub residue_split : (z : ℤ) → (k : ℤ) × (z ≡ pos (residue z) +ℤ k *ℤ pos (2 ^ 64))
residue_split (pos n) = (pos (n / 2 ^ 64), omega (arith, ints))
residue_split (negsuc n) = (negsuc (n / 2 ^ 64), omega (arith, ints))

-- what a machine word keeps of z is `wrapped z`
pub wrapped-int_wrap : (z : ℤ) → wrapped z ≡ int_wrap w64 z
unfolding wrapped int_wrap
wrapped-int_wrap (pos n) = grind (arith, ints)
wrapped-int_wrap (negsuc n) = grind (arith, ints)

-- a word is its own residue
pub wrapped-word : (n : ℕ) → n < 2 ^ 64 → wrapped (pos n) ≡ cast_signed w64 n
unfolding wrapped
wrapped-word n h = grind (arith, ints)

wrapped_fits : (z : ℤ) → FitsSigned w64 (wrapped z)
wrapped_fits z = rw (wrapped-int_wrap z) (SFits-int_wrap w64 z)

-- either the residue, or that less 2^64
wrapped_multiple : (z k : ℤ) → z ≡ pos (residue z) +ℤ k *ℤ pos (2 ^ 64) → (j : ℤ) × (z ≡ wrapped z +ℤ j *ℤ pos (2 ^ 64))
unfolding wrapped
wrapped_multiple z k e =
    cond_both (nat_lt (residue z) (2 ^ 63)) (pos (residue z)) (pos (residue z) -ℤ pos (2 ^ 64))
    (λ v. (j : ℤ) × (z ≡ v +ℤ j *ℤ pos (2 ^ 64)))
    (λ _. (k, e))
    (λ _. (k +ℤ pos 1, omega (arith, ints)))

pub WrapsTo-wrapped : (z : ℤ) → WrapsTo z (wrapped z)
WrapsTo-wrapped z =
    let fits : FitsSigned w64 (wrapped z) = wrapped_fits z in
    let split = residue_split z in
    record {
      least = omega (arith, ints);
      greatest = omega (arith, ints);
      multiple = wrapped_multiple z split.0 split.1;
    }

-- no other number is such
pub WrapsTo_only : (z r s : ℤ) → WrapsTo z r → WrapsTo z s → r ≡ s
WrapsTo_only z r s p q =
    let j : ℤ = p.multiple.0 in
    let k : ℤ = q.multiple.0 in
    let e : z ≡ r +ℤ j *ℤ pos (2 ^ 64) = p.multiple.1 in
    let f : z ≡ s +ℤ k *ℤ pos (2 ^ 64) = q.multiple.1 in
    omega (arith, ints)

pub only_wrapped : (z w : ℤ) → w ≡ wrapped z → (r : ℤ) → WrapsTo z r ↔ (r ≡ w)
only_wrapped z w e r = (λ p. WrapsTo_only z r (wrapped z) p (WrapsTo-wrapped z) ∙ sym e, λ f. subst (WrapsTo z) (sym (f ∙ e)) (WrapsTo-wrapped z))

-- the machine word of z is its residue
pub word-residue : (z : ℤ) → FitsSigned w64 z → cast_unsigned w64 z ≡ residue z
word-residue (pos n) h = omega (arith, ints)
word-residue (negsuc n) h = omega (arith, ints)

pub word_below : (z : ℤ) → FitsSigned w64 z → cast_unsigned w64 z < 2 ^ 64
word_below z h = rw (word-residue z h) (residue_below z)

-- a word is not wrapped again
pub wrapped-cast_signed : (n : ℕ) → n < 2 ^ 64 → wrapped (cast_signed w64 n) ≡ cast_signed w64 n
wrapped-cast_signed n h =
    let fits : FitsSigned w64 (cast_signed w64 n) = omega (arith, ints) in
    wrapped-int_wrap (cast_signed w64 n) ∙ int_wrap_fits w64 (cast_signed w64 n) fits

-- which side of 0 a number is on
pub pos_not_below : (k : ℕ) → int_lt (pos k) (pos 0) ≡ false
pos_not_below k = grind (arith, ints)

pub pos_never_below : {P : Type 0} (k : ℕ) → int_lt (pos k) (pos 0) ≡ true → P
pos_never_below k h = let e : int_lt (pos k) (pos 0) ≡ false = pos_not_below k in cc

pub pos_never_above : {P : Type 0} (k : ℕ) → int_le (pos 0) (pos k) ≡ false → P
pos_never_above k h = let e : int_le (pos 0) (pos k) ≡ true = grind (arith, ints) in cc
