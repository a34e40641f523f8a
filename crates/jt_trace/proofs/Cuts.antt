-- What `split_once` and `parse` give, in the words of traces.
use Rattle.std.proofs.Common.{◌≡◌, ℕ, suc, ◌<◌, ◌≤◌, ◌^◌, true, not, List, [], ◌∷◌, length, get_or, Option, Some, None, Result, Ok, Bor, refl, sym, ap, ◌∙◌, arith}
use Rattle.std.specs.Prelude.{option_map, ◌==◌, decimal, ◌≢◌}
use Rattle.std.specs.Str.Parse.{ParsesUnsigned}
use Rattle.std.specs.Str.Pattern.{LacksTextAt}
use Rattle.std.proofs.lemmas.Bool.{and_from}
use Rattle.std.proofs.lemmas.Str.Pattern.{IsSplitOnceResult, split_parts}
use Rattle.std.proofs.lemmas.Fmt.{parse-decimal}
use Rattle.jt_trace_text.specs.Lines.{Bytes}
use Rattle.jt_trace_text.specs.Readers.{cut, lacks, literal}
use Rattle.jt_trace_text.specs.WordReaders.{number_in}
use Rattle.jt_trace_text.proofs.Pieces.{cut_again, cut_none, literal_takes, other}
use Rattle.jt_trace_text.proofs.Numbers.{number_reads}

lacks_all : (c : ℕ) (w : Bytes) → ((i : ℕ) → i < length w → get_or w i 0 ≢ c) → lacks c w ≡ true
lacks_all c [] h = refl
lacks_all c (b ∷ w) h = and_from (not (b == c)) (lacks c w) (other c b (λ e. h 0 (omega arith) e)) (lacks_all c w (λ i l. h (suc i) (omega arith)))

pub cut_is : (c : ℕ) (z : Bytes) (r : Option (Bor (List ℕ) × Bor (List ℕ))) → IsSplitOnceResult c z r → c < 128 → option_map (λ (p : Bor (List ℕ) × Bor (List ℕ)). (p.0.now, p.1.now)) r ≡ cut c z
cut_is c z None h l = sym (cut_none c z (lacks_all c z (split_parts c z None h l)))
cut_is c z (Some x) h l =
    let p = split_parts c z (Some x) h l in
    sym (ap (cut c) p.0 ∙ cut_again c x.0.now x.1.now (lacks_all c x.0.now p.1))

none_from : {A : Type 0} (o : Option A) → ((x : A) → o ≡ Some x → ⊥) → None ≡ o
none_from None h = refl
none_from (Some x) h = absurd (h x refl)

-- no such bytes stand at the front
pub literal_none : (w z : Bytes) → LacksTextAt w z 0 → literal w z ≡ None
literal_none w z lacks = sym (none_from (literal w z) (λ rest e. lacks rest (literal_takes w z rest e)))

-- ---- numbers

pub number_found : (low high n : ℕ) (w : Bytes) → n < 2 ^ 64 → low ≤ n → n ≤ high → w ≡ decimal n → Some n ≡ number_in low high w
number_found low high n w s l h e = sym ((number_reads low high).again n w (record { small = s; low = l; high = h; is = e }))

-- where a number would be read, `parse` gives it
parse_same : {E : Type 0} (low high : ℕ) (w : Bytes) (r : Result ℕ E) → ParsesUnsigned 64 10 w r → (n : ℕ) → number_in low high w ≡ Some n → (r ≡ Ok n) × (w ≡ decimal n) × (low ≤ n) × (n ≤ high)
parse_same low high w r p n e = let f = (number_reads low high).takes w n e in (parse-decimal 64 n w r f.small f.small f.is p, f.is, f.low, f.high)

pub number_none : {E : Type 0} (low high : ℕ) (w : Bytes) (r : Result ℕ E) → ParsesUnsigned 64 10 w r → ((n : ℕ) → r ≡ Ok n → w ≡ decimal n → low ≤ n → n ≤ high → ⊥) → None ≡ number_in low high w
number_none low high w r p h = none_from (number_in low high w) (λ n e. let f = parse_same low high w r p n e in h n f.0 f.1 f.2 f.3)
