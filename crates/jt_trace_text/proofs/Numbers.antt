-- Numbers, as words.
use Rattle.std.proofs.Common.{◌≡◌, ℕ, zero, suc, ◌+◌, ◌%◌, ◌^◌, ◌<◌, ◌≤◌, inl, inr, true, not, ◌&&◌, [], ◌∷◌, Option, Some, None, refl, sym, ap, subst, ◌∙◌, arith}
use Rattle.std.specs.Prelude.{ℤ, pos, negsuc, ◌==◌, nat_lt, nat_le, decimal, codes}
use Rattle.std.specs.Fmt.{signed_decimal}
use Rattle.std.specs.Str.{bytes_eq}
use Rattle.std.specs.Str.Parse.{digits_value}
use Rattle.std.proofs.lemmas.Bool.{cases_Bool, and_parts, and_from, eqb-true, eq-eqb, ltb-true, lt-ltb, leb-true, le-leb}
use Rattle.std.proofs.lemmas.Option.{cond_some}
use Rattle.std.proofs.lemmas.Fmt.{decimal_is_IsNumeral, decimal_by_steps}
use Rattle.jt_trace_text.specs.Lines.{Bytes}
use Rattle.jt_trace_text.specs.Readers.{lacks, literal, ReadsWord}
use Rattle.jt_trace_text.specs.Words.{IsDecimal, Signed, IsInt}
use Rattle.jt_trace_text.specs.WordReaders.{number_of, within, number_in, negative, signed, int_of}
use Rattle.jt_trace_text.proofs.Pieces.{then_some, literal_takes, bytes_eq-true, lacks-append, other, HasNoLetters}
use Rattle.jt_trace_text.proofs.Fronts.{map_some}

pub bytes_eq-refl : (a : Bytes) → bytes_eq a a ≡ true
bytes_eq-refl [] = refl
bytes_eq-refl (x ∷ a) = and_from (x == x) (bytes_eq a a) (eq-eqb x x refl) (bytes_eq-refl a)

-- digits only
pub digits_lack : (c n : ℕ) → ((d : ℕ) → d < 10 → 48 + d ≡ c → ⊥) → n < 2 ^ 64 → lacks c (decimal n) ≡ true
digits_lack c n free small = decimal_by_steps (λ n ds. lacks c ds ≡ true)
    (λ n lt. and_from (not ((48 + n) == c)) true (other c (48 + n) (λ e. free n lt e)) refl)
    (λ n ds le h. lacks-append c ds ((48 + n % 10) ∷ []) h (and_from (not ((48 + n % 10) == c)) true (other c (48 + n % 10) (λ e. free (n % 10) (omega arith) e)) refl))
    n small

pub decimal_lacks : (c n : ℕ) → c < 48 → n < 2 ^ 64 → lacks c (decimal n) ≡ true
decimal_lacks c n low small = digits_lack c n (λ d l e. omega arith) small

number_takes : (w : Bytes) (n : ℕ) → number_of w ≡ Some n → (n < 2 ^ 64) × (w ≡ decimal n)
number_takes w n e =
    let c = cond_some (nat_lt (digits_value 10 w) (2 ^ 64) && bytes_eq w (decimal (digits_value 10 w))) (digits_value 10 w) n e in
    let p = and_parts (nat_lt (digits_value 10 w) (2 ^ 64)) (bytes_eq w (decimal (digits_value 10 w))) c.0 in
    (subst (λ (k : ℕ). k < 2 ^ 64) c.1 (ltb-true (digits_value 10 w) (2 ^ 64) p.0), subst (λ (k : ℕ). w ≡ decimal k) c.1 (bytes_eq-true w (decimal (digits_value 10 w)) p.1))

pub number_again : (n : ℕ) → n < 2 ^ 64 → number_of (decimal n) ≡ Some n
number_again n small =
    let v : digits_value 10 (decimal n) ≡ n = (decimal_is_IsNumeral n small).1 in
    rw (v, lt-ltb n (2 ^ 64) small, bytes_eq-refl (decimal n)) refl

pub number_reads : (low high : ℕ) → ReadsWord (IsDecimal low high) (number_in low high)
unfolding number_in
number_reads low high = record {
  takes = λ w n e.
      let x = then_some (within low high) (number_of w) n e in
      let t = number_takes w x.0 x.1 in
      let c = cond_some (nat_le low x.0 && nat_le x.0 high) x.0 n x.2 in
      let p = and_parts (nat_le low x.0) (nat_le x.0 high) c.0 in
      subst (λ (k : ℕ). IsDecimal low high k w) c.1 (record { small = t.0; low = leb-true low x.0 p.0; high = leb-true x.0 high p.1; is = t.1 });
  again = λ n w f. rw (f.is, number_again n f.small, le-leb low n f.low, le-leb n high f.high) refl;
}

-- ---- signed numbers

minus_none : (w : Bytes) → lacks 45 w ≡ true → literal (codes "-") w ≡ None
minus_none [] l = refl
minus_none (b ∷ w) l =
    let p = and_parts (not (b == 45)) (lacks 45 w) l in
    elim (cases_Bool (45 == b)) [
      | inl hit ↦
          let same : b ≡ 45 = sym (eqb-true 45 b hit) in
          let test : (b == 45) ≡ true = eq-eqb b 45 same in
          absurd (let q : not true ≡ true = ap not (sym test) ∙ p.0 in cc)
      | inr miss ↦ rw miss refl
    ]

signed_again : (z : ℤ) → Signed z → int_of (signed_decimal z) ≡ Some z
unfolding int_of
signed_again (pos n) lt =
    let digits = (number_reads 0 9223372036854775807).again n (decimal n) (record { small = omega arith; low = omega arith; high = omega arith; is = refl }) in
    let none = minus_none (decimal n) (decimal_lacks 45 n (omega arith) (omega arith)) in
    rw (none, digits) refl
signed_again (negsuc n) lt = rw ((number_reads 1 9223372036854775808).again (suc n) (decimal (suc n)) (record { small = omega arith; low = omega arith; high = omega arith; is = refl })) refl

negative_is : (n : ℕ) → 1 ≤ n → n ≤ 9223372036854775808 → (m : ℕ) × (n ≡ suc m) × (m < 2 ^ 63) × (negsuc m ≡ negative n)
negative_is zero l h = absurd (omega arith)
negative_is (suc m) l h = (m, refl, omega arith, refl)

by_minus : (o : Option Bytes) (w : Bytes) (z : ℤ) → literal (codes "-") w ≡ o → signed o w ≡ Some z → IsInt z w
by_minus (Some digits) w z is e =
    let n = map_some negative (number_in 1 9223372036854775808 digits) z e in
    let t = (number_reads 1 9223372036854775808).takes digits n.0 n.1 in
    let m = negative_is n.0 t.low t.high in
    subst (λ (y : ℤ). IsInt y w) (m.3 ∙ n.2) (record { fits = m.2; is = literal_takes (codes "-") w digits is ∙ ap (λ (x : Bytes). 45 ∷ x) (t.is ∙ ap decimal m.1) })
by_minus None w z is e =
    let n = map_some (λ (k : ℕ). pos k) (number_in 0 9223372036854775807 w) z e in
    let t = (number_reads 0 9223372036854775807).takes w n.0 n.1 in
    let h = t.high in
    subst (λ (y : ℤ). IsInt y w) n.2 (record { fits = omega (arith, h); is = t.is })

int_takes : (w : Bytes) (z : ℤ) → int_of w ≡ Some z → IsInt z w
unfolding int_of
int_takes w z e = by_minus (literal (codes "-") w) w z refl e

pub int_reads : ReadsWord IsInt int_of
int_reads = record { takes = int_takes; again = λ z w f. rw f.is (signed_again z f.fits) }

signed_lacks : (c : ℕ) (z : ℤ) → c < 45 → Signed z → lacks c (signed_decimal z) ≡ true
signed_lacks c (pos n) l s = decimal_lacks c n (omega arith) (omega (arith, s))
signed_lacks c (negsuc n) l s = and_from (not (45 == c)) (lacks c (decimal (suc n))) (other c 45 (λ e. omega arith)) (decimal_lacks c (suc n) (omega arith) (omega (arith, s)))

pub int_free : (c : ℕ) (z : ℤ) (w : Bytes) → c < 45 → IsInt z w → lacks c w ≡ true
int_free c z w l f = ap (lacks c) f.is ∙ signed_lacks c z l f.fits

pub no_letters : (z : ℤ) → Signed z → HasNoLetters (signed_decimal z)
no_letters (pos n) s c l = digits_lack c n (λ d below e. omega arith) (omega (arith, s))
no_letters (negsuc n) s c l = and_from (not (45 == c)) (lacks c (decimal (suc n))) (other c 45 (λ e. omega arith)) (digits_lack c (suc n) (λ d below e. omega arith) (omega (arith, s)))
