-- A number of entries that no 64 bits hold reads as the greatest that they hold does.
use Rattle.std.proofs.Common.{◌≡◌, ℕ, zero, suc, ◌+◌, ◌^◌, ◌<◌, ◌≤◌, ◌⊎◌, inl, inr, Bool, true, false, not, ◌||◌, List, length, Option, Some, None, Ok, Err, refl, sym, ap, ◌∙◌, arith}
use Rattle.std.specs.Prelude.{option_map, option_and_then, if◌then◌else◌, ◌==◌, slice_index, decimal, codes}
use Rattle.std.specs.Str.{all_ascii_digits}
use Rattle.std.specs.Str.Parse.{digits_value}
use Rattle.std.proofs.lemmas.Bool.{cases_Bool, cases_lt, eqb-true, eq-eqb, ltb-true, lt-ltb, le-ltb, ne_eqb}
use Rattle.std.proofs.lemmas.Fmt.{decimal_is_IsNumeral, decimal_digit, first_decimal, digits_decimal}
use Rattle.std.proofs.lemmas.List.{length-append}
use Rattle.std.proofs.lemmas.Str.Parse.{numerals_by_value, tells_all_ascii_digits, digits_value_short}
use Rattle.jt_base.specs.declared.entry.Entry.{Entry}
use Rattle.jt_trace_text.specs.Lines.{Bytes}
use Rattle.jt_trace_text.specs.Readers.{at_line, cut, field, literal}
use Rattle.jt_trace_text.specs.WordReaders.{number_in}
use Rattle.jt_trace_text.specs.EntryReaders.{entry_at}
use Rattle.jt_trace_text.specs.Texts.{IsDigits}
use Rattle.jt_trace_text.specs.TextReaders.{digits_of, count_at, read_entries, entry_more, Header, trace_of, as_trace, read_count}
use Rattle.jt_trace_text.proofs.Fronts.{map_some}
use Rattle.jt_trace_text.proofs.LineLaws.{digits_read, count_reads}
use Rattle.jt_trace_text.proofs.Numbers.{number_reads}
use Rattle.jt_trace_text.proofs.Written.{is_decimal}
use Rattle.jt_trace_text.proofs.OneText.{leading_zero}
use Rattle.jt_trace.proofs.Loop.{shorter}
use Rattle.jt_trace.specs.Counts.{capped, capped_digits, capped_count}
use Rattle.jt_trace.specs.Reading.{Tells}
use Rattle.jt_trace.specs.declared.unread.TraceError.{TraceError}
use Rattle.jt_trace.specs.declared.unread.TraceError.TheVariants as error

-- ---- more entries than bytes

many : (most n m line : ℕ) (z : Bytes) → length z < n → length z < m → read_entries most n line z ≡ read_entries most m line z
many most zero m line z a b = absurd (omega arith)
many most (suc n) zero line z a b = absurd (omega arith)
many most (suc n) (suc m) line z a b = by (entry_at most z) refl (λ e after is. let s = shorter most z e after is in many most n m (suc line) after (omega (arith, s, a)) (omega (arith, s, b)))
  where
    by : (o : Option (Entry × Bytes)) → entry_at most z ≡ o → ((e : Entry) (after : Bytes) → entry_at most z ≡ Some (e, after) → read_entries most n (suc line) after ≡ read_entries most m (suc line) after)
        → at_line line (entry_at most z) (λ (x : Entry × Bytes). entry_more x.0 (read_entries most n (suc line) x.1)) ≡ at_line line (entry_at most z) (λ (x : Entry × Bytes). entry_more x.0 (read_entries most m (suc line) x.1))
    by None is more = rw is refl
    by (Some x) is more = rw is (ap (entry_more x.0) (more x.0 x.1 is))

cases_capped : (n : ℕ) → (capped n ≡ n) ⊎ ((2 ^ 64 ≤ n) × (capped n ≡ 18446744073709551615))
cases_capped n = elim (cases_lt n (2 ^ 64)) [
  | inl below ↦ let l : n < 2 ^ 64 = below in inl (ap (λ (b : Bool). if b then n else 18446744073709551615) (lt-ltb n (2 ^ 64) l))
  | inr above ↦ let l : 2 ^ 64 ≤ n = above in inr (l, ap (λ (b : Bool). if b then n else 18446744073709551615) (le-ltb n (2 ^ 64) l))
]

same_count : (most n line : ℕ) (z : Bytes) → length z < 18446744073709551615 → read_entries most (capped n) line z ≡ read_entries most n line z
same_count most n line z l = elim (cases_capped n) [
  | inl same ↦ ap (λ (k : ℕ). read_entries most k line z) same
  | inr more ↦ ap (λ (k : ℕ). read_entries most k line z) more.1 ∙ many most 18446744073709551615 n line z (omega (arith, l)) (let g = more.0 in omega (arith, l, g))
]

-- the line is read with its number, or with the greatest one
capped_same : (z : Bytes) → capped_count z ≡ option_map {U = ℕ × Bytes} (λ (x : ℕ × Bytes). (capped x.0, x.1)) (count_at z)
unfolding capped_count count_at
capped_same z = by (literal (codes "entries ") z)
  where
    numbers : (rest : Bytes) (o : Option ℕ) → option_map {U = ℕ × Bytes} (λ (v : ℕ). (v, rest)) (option_map capped o) ≡ option_map {U = ℕ × Bytes} (λ (x : ℕ × Bytes). (capped x.0, x.1)) (option_map {U = ℕ × Bytes} (λ (v : ℕ). (v, rest)) o)
    numbers rest None = refl
    numbers rest (Some n) = refl

    words : (o : Option (Bytes × Bytes)) → option_and_then (λ (p : Bytes × Bytes). option_map {U = ℕ × Bytes} (λ (v : ℕ). (v, p.1)) (capped_digits p.0)) o ≡ option_map {U = ℕ × Bytes} (λ (x : ℕ × Bytes). (capped x.0, x.1)) (option_and_then (λ (p : Bytes × Bytes). option_map {U = ℕ × Bytes} (λ (v : ℕ). (v, p.1)) (digits_of p.0)) o)
    words None = refl
    words (Some p) = numbers p.1 (digits_of p.0)

    by : (o : Option Bytes) → option_and_then (field 10 capped_digits) o ≡ option_map {U = ℕ × Bytes} (λ (x : ℕ × Bytes). (capped x.0, x.1)) (option_and_then (field 10 digits_of) o)
    by None = refl
    by (Some w) = words (cut 10 w)

count_parts : (z rest : Bytes) (count : ℕ) → capped_count z ≡ Some (count, rest) → (x : ℕ × Bytes) × (count_at z ≡ Some x) × (◌≡◌ {A = ℕ × Bytes} (capped x.0, x.1) (count, rest))
count_parts z rest count is = map_some (λ (x : ℕ × Bytes). (capped x.0, x.1)) (count_at z) (count, rest) (sym (capped_same z) ∙ is)

-- the line takes some bytes
pub count_shorter : (z rest : Bytes) (count : ℕ) → capped_count z ≡ Some (count, rest) → length rest < length z
count_shorter z rest count is =
    let x = count_parts z rest count is in
    let after : length x.0.1 ≡ length rest = ap (λ (p : ℕ × Bytes). length p.1) x.2 in
    let t = count_reads.takes z x.0.0 x.0.1 x.1 in
    let both : length z ≡ length t.0 + length x.0.1 = ap length t.2 ∙ length-append t.0 x.0.1 in
    let line : length t.0 ≡ length (codes "entries ") + length t.1.rest = ap length t.1.is ∙ length-append (codes "entries ") t.1.rest in
    let some : length (codes "entries ") ≡ 8 = refl in
    omega (arith, after, both, line, some)

-- where it is read, the entries follow
count_read : (h : Header) (script : Bytes) (line count : ℕ) (z rest : Bytes) → capped_count z ≡ Some (count, rest) → length z < 2 ^ 64
    → read_count h script line z ≡ as_trace h script (read_entries h.1.1.1 count (line + 1) rest)
unfolding read_count
count_read h script line count z rest is small =
    let x = count_parts z rest count is in
    let number : capped x.0.0 ≡ count = ap (λ (p : ℕ × Bytes). p.0) x.2 in
    let after : x.0.1 ≡ rest = ap (λ (p : ℕ × Bytes). p.1) x.2 in
    let next : suc line ≡ line + 1 = omega arith in
    let fewer = count_shorter z rest count is in
    ap (λ (o : Option (ℕ × Bytes)). at_line line o (λ (y : ℕ × Bytes). as_trace h script (read_entries h.1.1.1 y.0 (suc line) y.1))) x.1
    ∙ ap (as_trace h script)
    (ap (λ (w : Bytes). read_entries h.1.1.1 x.0.0 (suc line) w) after
    ∙ sym (same_count h.1.1.1 x.0.0 (suc line) rest (omega (arith, fewer, small)))
    ∙ ap (λ (k : ℕ). read_entries h.1.1.1 k (suc line) rest) number
    ∙ ap (λ (k : ℕ). read_entries h.1.1.1 count k rest) next)

pub count_found : (h : Header) (script : Bytes) (line count : ℕ) (z rest : Bytes) (es : List Entry) → capped_count z ≡ Some (count, rest) → length z < 2 ^ 64
    → read_entries h.1.1.1 count (line + 1) rest ≡ Ok es → read_count h script line z ≡ Ok (trace_of h script es)
count_found h script line count z rest es is small read = count_read h script line count z rest is small ∙ ap (as_trace h script) read

pub count_told : (h : Header) (script : Bytes) (line count : ℕ) (z rest : Bytes) (e : TraceError) → capped_count z ≡ Some (count, rest) → length z < 2 ^ 64
    → Tells e (read_entries h.1.1.1 count (line + 1) rest) → Tells e (read_count h script line z)
count_told h script line count z rest (error.BadLine n) is small read = count_read h script line count z rest is small ∙ ap (as_trace h script) read
count_told h script line count z rest error.OutOfMemory is small read = tt

-- and where it isn't, it is the first bad one
pub count_bad : (h : Header) (script : Bytes) (line : ℕ) (z : Bytes) → capped_count z ≡ None → read_count h script line z ≡ Err line
unfolding read_count
count_bad h script line z is = by (count_at z) (sym (capped_same z) ∙ is)
  where
    by : (o : Option (ℕ × Bytes)) → option_map {U = ℕ × Bytes} (λ (x : ℕ × Bytes). (capped x.0, x.1)) o ≡ None → at_line line o (λ (y : ℕ × Bytes). as_trace h script (read_entries h.1.1.1 y.0 (suc line) y.1)) ≡ Err line
    by None e = refl
    by (Some x) e = absurd cc

-- ---- the digits

-- a number of 64 bits is its digits
pub short_digits : (w : Bytes) (n : ℕ) → number_in 0 18446744073709551615 w ≡ Some n → Some n ≡ capped_digits w
short_digits w n e =
    let f = (number_reads 0 18446744073709551615).takes w n e in
    let k = decimal_is_IsNumeral n f.small in
    let all : all_ascii_digits (decimal n) ≡ true = digits_decimal (numerals_by_value (λ ds. all_ascii_digits ds ≡ true) tells_all_ascii_digits) n f.small in
    let read = digits_read.again n w (record {
      digits = ap all_ascii_digits f.is ∙ all;
      some = lt-ltb 0 (length w) (let l : length w ≡ length (decimal n) = ap length f.is in let s = k.0.0 in omega (arith, l, s));
      leading = leads w n f.is f.small;
      value = sym (ap (digits_value 10) f.is ∙ k.1);
    }) in
    ap (λ (m : ℕ). Some m) (sym (ap (λ (b : Bool). if b then n else 18446744073709551615) (lt-ltb n (2 ^ 64) f.small))) ∙ sym (ap (option_map capped) read)
  where
    either : (a b : Bool) → b ≡ true → (a || b) ≡ true
    either true b e = refl
    either false b e = e

    leads : (w : Bytes) (n : ℕ) → w ≡ decimal n → n < 2 ^ 64 → (not (slice_index w 0 == 48) || (length w == 1)) ≡ true
    leads w n is small = elim (cases_lt n 10) [
      | inl one ↦
          let d : n < 10 = one in
          either (not (slice_index w 0 == 48)) (length w == 1) (eq-eqb (length w) 1 (ap length (is ∙ decimal_digit n d)))
      | inr more ↦
          let m : 10 ≤ n = more in
          let first = first_decimal n (omega (arith, m)) small in
          let other : (slice_index w 0 == 48) ≡ false = ap (λ (x : List ℕ). slice_index x 0 == 48) is ∙ ne_eqb (slice_index (decimal n) 0) 48 (λ e. omega (arith, first, e)) in
          ap (λ (b : Bool). not b || (length w == 1)) other
    ]

-- without a leading zero
digits_leading : (w : Bytes) → (slice_index w 0 == 48) ≡ false → (not (slice_index w 0 == 48) || (length w == 1)) ≡ true
digits_leading w first = ap (λ (b : Bool). not b || (length w == 1)) first

-- digits whose number is of 64 bits are read as a number
number_of_digits : (n : ℕ) (w : Bytes) → n < 2 ^ 64 → IsDigits n w → number_in 0 18446744073709551615 w ≡ Some n
number_of_digits n w small f = (number_reads 0 18446744073709551615).again n w (record { small = small; low = omega arith; high = omega (arith, small); is = is_decimal n w small f })

greatest : (w : Bytes) (n : ℕ) → number_in 0 18446744073709551615 w ≡ None → IsDigits n w → (2 ^ 64 ≤ n) × (capped n ≡ 18446744073709551615)
greatest w n none f = elim (cases_lt n (2 ^ 64)) [
  | inl below ↦ let l : n < 2 ^ 64 = below in absurd (let q = sym none ∙ number_of_digits n w l f in cc)
  | inr above ↦ let l : 2 ^ 64 ≤ n = above in (l, ap (λ (b : Bool). if b then n else 18446744073709551615) (le-ltb n (2 ^ 64) l))
]

-- a longer one is capped
pub long_digits : (w : Bytes) → number_in 0 18446744073709551615 w ≡ None → 1 < length w → (slice_index w 0 == 48) ≡ false → all_ascii_digits w ≡ true → Some 18446744073709551615 ≡ capped_digits w
long_digits w none long first all =
    let f : IsDigits (digits_value 10 w) w = record { digits = all; some = lt-ltb 0 (length w) (omega (arith, long)); leading = digits_leading w first; value = refl } in
    ap (λ (m : ℕ). Some m) (sym (greatest w (digits_value 10 w) none f).1) ∙ sym (ap (option_map capped) (digits_read.again (digits_value 10 w) w f))

-- a digit alone is a small number
one_digit : (n : ℕ) (w : Bytes) → IsDigits n w → length w ≡ 1 → n < 10
one_digit n w f e =
    let k : digits_value 10 w < 10 ^ 1 = digits_value_short (numerals_by_value (λ ds. all_ascii_digits ds ≡ true) tells_all_ascii_digits) w 1 f.digits (omega (arith, e)) in
    let v = f.value in
    omega (arith, k, v)

-- what is read is long, and has no leading zero
digits_long : (n : ℕ) (w : Bytes) → 2 ^ 64 ≤ n → IsDigits n w → 1 < length w
digits_long n w big f = elim (cases_lt 1 (length w)) [
  | inl more ↦ more
  | inr less ↦
      let l : length w ≤ 1 = less in
      let s = ltb-true 0 (length w) f.some in
      let e : length w ≡ 1 = omega (arith, l, s) in
      let d = one_digit n w f e in
      absurd (omega (arith, d, big))
]

digits_first : (n : ℕ) (w : Bytes) → 1 < length w → IsDigits n w → (slice_index w 0 == 48) ≡ false
digits_first n w long f = elim (cases_Bool (slice_index w 0 == 48)) [
  | inl hit ↦ let e : length w ≡ 1 = leading_zero w f.leading (eqb-true (slice_index w 0) 48 hit) in absurd (omega (arith, long, e))
  | inr miss ↦ miss
]

pub no_digits : (w : Bytes) → number_in 0 18446744073709551615 w ≡ None → (1 < length w → (slice_index w 0 == 48) ≡ false → all_ascii_digits w ≡ true → ⊥) → None ≡ capped_digits w
no_digits w none never = by (digits_of w) refl
  where
    by : (o : Option ℕ) → digits_of w ≡ o → None ≡ option_map capped (digits_of w)
    by None e = sym (ap (option_map capped) e)
    by (Some n) e =
        let f = digits_read.takes w n e in
        let long = digits_long n w (greatest w n none f).0 f in
        absurd (never long (digits_first n w long f) f.digits)
