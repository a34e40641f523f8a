-- No trace has two texts: each form is a function of its value.
use Rattle.std.proofs.Common.{◌≡◌, ℕ, ◌+◌, ◌-◌, ◌*◌, ◌<◌, ◌≤◌, inl, inr, Bool, true, not, ◌||◌, List, [], ◌∷◌, ◌++◌, length, take, drop, refl, sym, ap, subst, ◌∙◌, arith}
use Rattle.std.specs.Prelude.{◌==◌, slice_index}
use Rattle.std.specs.Char.{digit_value}
use Rattle.std.specs.Str.{all_ascii_digits}
use Rattle.std.specs.Str.Parse.{digits_value, digits_value_after}
use Rattle.std.proofs.lemmas.Bool.{cases_order, eqb-true, eq-eqb, ltb-true}
use Rattle.std.proofs.lemmas.List.{take-append-drop, length-drop, length-append}
use Rattle.std.proofs.lemmas.Str.{digit_value_digit}
use Rattle.std.proofs.lemmas.Str.Parse.{tells_all_ascii_digits}
use Rattle.jt_base.specs.declared.entry.Entry.{Entry}
use Rattle.jt_trace_text.specs.Lines.{Bytes}
use Rattle.jt_trace_text.specs.Forms.{IsField, IsTwoParts, IsBehind}
use Rattle.jt_trace_text.specs.Words.{IsDecimal}
use Rattle.jt_trace_text.specs.Entries.{AreEntries}
use Rattle.jt_trace_text.specs.Texts.{TraceValue, IsNumberField, IsFormat, IsThreads, SeedWords, words_of, SeedWord, IsSeedWords, IsSeed, IsTurns, IsEvents, IsLength, IsDigits, IsCount, IsTraceText}

-- a value has one text of the form
abbrev One : {A : Type 0} → (A → Bytes → Type 0) → Type 0
One {A} Form = (v : A) (l m : Bytes) → Form v l → Form v m → l ≡ m

both : {p q r s : Bytes} → p ≡ q → r ≡ s → p ++ r ≡ q ++ s
both p q = cc

one_number : (low high : ℕ) → One (IsDecimal low high)
one_number low high n l m f g = f.is ∙ sym g.is

one_field : {A : Type 0} (ending : ℕ) (Form : A → Bytes → Type 0) → One Form → One (IsField ending Form)
one_field ending Form one v l m f g = f.is ∙ ap (λ (w : Bytes). w ++ ending ∷ []) (one v f.word g.word f.form g.form) ∙ sym g.is

one_pair : {A B : Type 0} (First : A → Bytes → Type 0) (Second : A → B → Bytes → Type 0) → One First → ((a : A) → One (Second a)) → One (IsTwoParts First Second)
one_pair First Second first second v l m f g = f.is ∙ both (first v.0 f.front g.front f.first g.first) (second v.0 v.1 f.back g.back f.second g.second) ∙ sym g.is

one_behind : {A : Type 0} (fixed : Bytes) (Form : A → Bytes → Type 0) → One Form → One (IsBehind fixed Form)
one_behind fixed Form one v l m f g = f.is ∙ ap (λ (w : Bytes). fixed ++ w) (one v f.rest g.rest f.form g.form) ∙ sym g.is

one_ended : (ending low high : ℕ) → One (IsNumberField ending low high)
one_ended ending low high = one_field ending (IsDecimal low high) (one_number low high)

-- ---- digits of any length

digit : (c : ℕ) (w : Bytes) → all_ascii_digits (c ∷ w) ≡ true → (48 ≤ c) × (c ≤ 57) × (digit_value c + 48 ≡ c) × (all_ascii_digits w ≡ true)
digit c w e = let k = tells_all_ascii_digits.parts c w e in (k.0.0, k.0.1, digit_value_digit c k.0, k.1)

-- of one length: what stood before and the digits are the same
same_digits : (v w : Bytes) (m n : ℕ) → length v ≡ length w → all_ascii_digits v ≡ true → all_ascii_digits w ≡ true → digits_value_after 10 m v ≡ digits_value_after 10 n w → (m ≡ n) × (v ≡ w)
same_digits [] [] m n l a b e = (e, refl)
same_digits [] (d ∷ w) m n l a b e = absurd (omega arith)
same_digits (c ∷ v) [] m n l a b e = absurd (omega arith)
same_digits (c ∷ v) (d ∷ w) m n l a b e =
    let p = digit c v a in
    let q = digit d w b in
    let r = same_digits v w (m * 10 + digit_value c) (n * 10 + digit_value d) (omega arith) p.3 q.3 e in
    let sums = r.0 in
    let one = p.2 in
    let two = q.2 in
    let head : c ≡ d = omega (arith, sums, one, two, p.0, p.1, q.0, q.1) in
    let tail : v ≡ w = r.1 in
    (omega (arith, sums, one, two, p.0, p.1, q.0, q.1), cc)

grows : (w : Bytes) (n : ℕ) → n ≤ digits_value_after 10 n w
grows [] n = omega arith
grows (c ∷ w) n = let r = grows w (n * 10 + digit_value c) in omega (arith, r)

after : (f w : Bytes) (n : ℕ) → digits_value_after 10 n (f ++ w) ≡ digits_value_after 10 (digits_value_after 10 n f) w
after [] w n = refl
after (c ∷ f) w n = after f w (n * 10 + digit_value c)

back_digits : (f w : Bytes) → all_ascii_digits (f ++ w) ≡ true → all_ascii_digits w ≡ true
back_digits [] w e = e
back_digits (c ∷ f) w e = back_digits f w (digit c (f ++ w) e).3

-- the longer has a front of no value, so it has none
no_front : (f v w : Bytes) → length w ≡ length v → 0 < length v → all_ascii_digits v ≡ true → all_ascii_digits (f ++ w) ≡ true
    → (slice_index (f ++ w) 0 ≡ 48 → length (f ++ w) ≡ 1) → digits_value 10 v ≡ digits_value 10 (f ++ w) → v ≡ f ++ w
no_front [] v w l some a b lead e = (same_digits v w 0 0 (sym l) a b e).1
no_front (c ∷ f) v w l some a b lead e =
    let p = digit c (f ++ w) b in
    let r = same_digits v w 0 (digits_value_after 10 0 (c ∷ f)) (sym l) a (back_digits (c ∷ f) w b) (e ∙ after (c ∷ f) w 0) in
    let g = grows f (0 * 10 + digit_value c) in
    let zero_front : 0 ≡ digits_value_after 10 (0 * 10 + digit_value c) f = r.0 in
    let value = p.2 in
    let zero_digit : c ≡ 48 = omega (arith, g, zero_front, value, p.0) in
    let long = lead zero_digit in
    let parts = length-append f w in
    absurd (omega (arith, long, parts, l, some))

pub leading_zero : (w : Bytes) → (not (slice_index w 0 == 48) || (length w == 1)) ≡ true → slice_index w 0 ≡ 48 → length w ≡ 1
leading_zero w e zero_first =
    let hit = eq-eqb (slice_index w 0) 48 zero_first in
    let test : (not true || (length w == 1)) ≡ true = ap (λ (x : Bool). not x || (length w == 1)) (sym hit) ∙ e in
    eqb-true (length w) 1 test

shorter_first : (n : ℕ) (v w : Bytes) → IsDigits n v → IsDigits n w → length v ≤ length w → v ≡ w
shorter_first n v w f g le =
    let k = length w - length v in
    let parts : take k w ++ drop k w ≡ w = take-append-drop k w in
    let back : length (drop k w) ≡ length v = omega (arith, length-drop k w, le) in
    let some = ltb-true 0 (length v) f.some in
    no_front (take k w) v (drop k w) back some f.digits (ap all_ascii_digits parts ∙ g.digits)
    (λ first. ap length parts ∙ leading_zero w g.leading (ap (λ (x : Bytes). slice_index x 0) (sym parts) ∙ first))
    (sym f.value ∙ g.value ∙ ap (digits_value 10) (sym parts))
    ∙ parts

one_digits : One IsDigits
one_digits n v w f g = elim (cases_order (length v) (length w)) [
  | inl same ↦ let s : length v ≡ length w = same in shorter_first n v w f g (omega arith)
  | inr (inl less) ↦ let s : length v < length w = less in shorter_first n v w f g (omega arith)
  | inr (inr more) ↦ let s : length w < length v = more in sym (shorter_first n w v g f (omega arith))
]

-- ---- the lines

one_format : One IsFormat
one_format = one_behind _ (IsNumberField 10 1 1) (one_ended 10 1 1)

one_threads : One IsThreads
one_threads = one_behind _ (IsTwoParts (IsNumberField 44 1 64) (λ n. IsNumberField 10 0 16)) (one_pair (IsNumberField 44 1 64) (λ n. IsNumberField 10 0 16) (one_ended 44 1 64) (λ n. one_ended 10 0 16))

one_word : (ending : ℕ) → One (SeedWord ending)
one_word ending = one_ended ending 0 18446744073709551615

one_seed_words : One IsSeedWords
one_seed_words = one_behind _ (IsTwoParts (SeedWord 44) (λ a. IsTwoParts (SeedWord 44) (λ b. IsTwoParts (SeedWord 44) (λ c. IsTwoParts (SeedWord 44) (λ d. SeedWord 10)))))
    (one_pair (SeedWord 44) (λ a. IsTwoParts (SeedWord 44) (λ b. IsTwoParts (SeedWord 44) (λ c. IsTwoParts (SeedWord 44) (λ d. SeedWord 10)))) (one_word 44) (λ a.
    one_pair (SeedWord 44) (λ b. IsTwoParts (SeedWord 44) (λ c. IsTwoParts (SeedWord 44) (λ d. SeedWord 10))) (one_word 44) (λ b.
    one_pair (SeedWord 44) (λ c. IsTwoParts (SeedWord 44) (λ d. SeedWord 10)) (one_word 44) (λ c.
    one_pair (SeedWord 44) (λ d. SeedWord 10) (one_word 44) (λ d. one_word 10)))))

one_turns : One IsTurns
one_turns = one_behind _ (IsNumberField 10 1 1000000000) (one_ended 10 1 1000000000)

one_events : One IsEvents
one_events = one_behind _ (IsNumberField 10 1 262144) (one_ended 10 1 262144)

one_length : One IsLength
one_length = one_behind _ (IsNumberField 10 0 1048576) (one_ended 10 0 1048576)

one_count : One IsCount
one_count = one_behind _ (IsField 10 IsDigits) (one_field 10 IsDigits one_digits)

one_entries : (most : ℕ) (es : List Entry) (z w : Bytes) → AreEntries most es z → AreEntries most es w → z ≡ w
one_entries most [] z w f g = f ∙ sym g
one_entries most (e ∷ es) z w f g = f.4 ∙ both (f.2.is ∙ sym g.2.is) (one_entries most es f.1 g.1 f.3 g.3) ∙ sym g.4

-- ---- the whole

same_words : (v w : SeedWords) → words_of v ≡ words_of w → v ≡ w
same_words v w e = words v.0 v.1.0 v.1.1.0 v.1.1.1.0 v.1.1.1.1 w.0 w.1.0 w.1.1.0 w.1.1.1.0 w.1.1.1.1 e
  where
    words : (a b c d e f g h i j : ℕ) → ◌≡◌ {A = List ℕ} (a ∷ b ∷ c ∷ d ∷ e ∷ []) (f ∷ g ∷ h ∷ i ∷ j ∷ []) → ◌≡◌ {A = SeedWords} (a, (b, (c, (d, e)))) (f, (g, (h, (i, j))))
    words a b c d e f g h i j q = cc

one_seed : One IsSeed
one_seed words l m f g =
    let parts = same_words f.parts g.parts (sym f.same ∙ g.same) in
    one_seed_words f.parts l m f.line (subst (λ (x : SeedWords). IsSeedWords x m) (sym parts) g.line)

pub one_text : (t : TraceValue) (z w : Bytes) → IsTraceText t z → IsTraceText t w → z ≡ w
one_text t z w f g =
    f.is
    ∙ both (one_format 1 f.format_line g.format_line f.format g.format)
    (both (one_threads (t.sizes.default, t.sizes.interactive) f.threads_line g.threads_line f.threads g.threads)
    (both (one_seed t.seeds.words f.seed_line g.seed_line f.seed g.seed)
    (both (one_turns t.limits.turns f.turns_line g.turns_line f.turns g.turns)
    (both (one_events t.limits.events f.events_line g.events_line f.events g.events)
    (both (one_length (length t.script) f.length_line g.length_line f.script_length g.script_length)
    (both (f.script.is ∙ sym g.script.is)
    (both (one_count (length t.entries) f.count_line g.count_line f.count g.count)
    (one_entries t.limits.events t.entries f.entry_lines g.entry_lines f.entries g.entries))))))))
    ∙ sym g.is
