-- Each line's reader reads its form.
use Rattle.std.proofs.Common.{List, ◌≡◌, ℕ, ◌^◌, ◌<◌, ◌≤◌, true, not, ◌&&◌, ◌||◌, [], ◌∷◌, ◌++◌, length, Some, refl, sym, ap, ◌∙◌, arith}
use Rattle.std.specs.Prelude.{◌==◌, codes, decimal, nat_lt, slice_index}
use Rattle.std.specs.Char.{is_ascii_digit}
use Rattle.std.specs.Str.{all_ascii_digits}
use Rattle.std.specs.Str.Parse.{digits_value}
use Rattle.std.proofs.lemmas.Bool.{and_parts, and_from}
use Rattle.std.proofs.lemmas.Option.{cond_some}
use Rattle.jt_trace_text.specs.Lines.{Bytes}
use Rattle.jt_trace_text.specs.Forms.{IsField, IsTwoParts, IsBehind}
use Rattle.jt_trace_text.specs.Readers.{ReadsForm, ReadsWord, AreLines, pair_at, lacks, field}
use Rattle.jt_trace_text.specs.Words.{IsDecimal}
use Rattle.jt_trace_text.specs.WordReaders.{number_in}
use Rattle.jt_trace_text.specs.Texts.{SeedWords, words_of, IsNumberField, SeedWord, IsFormat, IsThreads, IsSeedWords, IsSeed, IsTurns, IsEvents, IsLength, IsDigits, IsCount}
use Rattle.jt_trace_text.specs.TextReaders.{ended_at, seed_word_at, format_at, threads_at, seed_words_at, seed_at, turns_at, events_at, length_at, digits_of, count_at}
use Rattle.jt_trace_text.proofs.Fronts.{map_some}
use Rattle.jt_trace_text.proofs.Pieces.{pair_is, pair_reads, behind_reads, field_reads, lacks-append, other}
use Rattle.jt_trace_text.proofs.IsLines.{IsLine, is_line, line_behind}
use Rattle.jt_trace_text.proofs.Numbers.{number_reads, decimal_lacks}

-- ---- lines

number_free : (c low high n : ℕ) (w : Bytes) → c < 48 → IsDecimal low high n w → lacks c w ≡ true
number_free c low high n w l f = ap (lacks c) f.is ∙ decimal_lacks c n l f.small

number_line : (low high n : ℕ) (l : Bytes) → IsNumberField 10 low high n l → IsLine l
number_line low high n l f = record { word = f.word; free = number_free 10 low high n f.word (omega arith) f.form; is = f.is }

-- a number and another byte than a newline
number_part : (c low high n : ℕ) (l : Bytes) → c < 48 → (10 < c) → IsNumberField c low high n l → lacks 10 l ≡ true
number_part c low high n l lt gt f = ap (lacks 10) f.is ∙ lacks-append 10 f.word (c ∷ []) (number_free 10 low high n f.word (omega arith) f.form) (and_from (not (c == 10)) true (other 10 c (λ e. omega arith)) refl)

-- ---- numbers

pub field_number : (c low high : ℕ) → c < 48 → ReadsForm (IsNumberField c low high) (ended_at c low high)
field_number c low high l = field_reads c (IsDecimal low high) (number_in low high) (number_reads low high) (λ n w f. number_free c low high n w l f)

-- ---- the lines

pub format_reads : ReadsForm IsFormat format_at
unfolding format_at
format_reads = behind_reads (codes "julia-tasks trace ") (IsNumberField 10 1 1) (ended_at 10 1 1) (field_number 10 1 1 (omega arith))

pub format_lines : AreLines IsFormat
format_lines n l f = is_line l (line_behind (codes "julia-tasks trace ") l f.rest refl (number_line 1 1 n f.rest f.form) f.is)

pub threads_reads : ReadsForm IsThreads threads_at
unfolding threads_at
threads_reads = behind_reads (codes "threads ") (IsTwoParts (IsNumberField 44 1 64) (λ n. IsNumberField 10 0 16)) (pair_at (ended_at 44 1 64) (λ n. ended_at 10 0 16))
    (pair_reads (IsNumberField 44 1 64) (λ n. IsNumberField 10 0 16) (ended_at 44 1 64) (λ n. ended_at 10 0 16) (field_number 44 1 64 (omega arith)) (λ n. field_number 10 0 16 (omega arith)))

pub threads_lines : AreLines IsThreads
threads_lines n l f = is_line l (line_behind (codes "threads ") l f.rest refl (line_behind f.form.front f.rest f.form.back (number_part 44 1 64 n.0 f.form.front (omega arith) (omega arith) f.form.first) (number_line 0 16 n.1 f.form.back f.form.second) f.form.is) f.is)

word : (c : ℕ) → c < 48 → ReadsForm (SeedWord c) (seed_word_at c)
word c l = field_number c 0 18446744073709551615 l

seed_words_read : ReadsForm IsSeedWords seed_words_at
unfolding seed_words_at
seed_words_read = behind_reads (codes "seed ") (IsTwoParts (SeedWord 44) (λ a. IsTwoParts (SeedWord 44) (λ b. IsTwoParts (SeedWord 44) (λ c. IsTwoParts (SeedWord 44) (λ d. SeedWord 10))))) (pair_at (seed_word_at 44) (λ a. pair_at (seed_word_at 44) (λ b. pair_at (seed_word_at 44) (λ c. pair_at (seed_word_at 44) (λ d. seed_word_at 10)))))
    (pair_reads (SeedWord 44) (λ a. IsTwoParts (SeedWord 44) (λ b. IsTwoParts (SeedWord 44) (λ c. IsTwoParts (SeedWord 44) (λ d. SeedWord 10)))) (seed_word_at 44) (λ a. pair_at (seed_word_at 44) (λ b. pair_at (seed_word_at 44) (λ c. pair_at (seed_word_at 44) (λ d. seed_word_at 10)))) (word 44 (omega arith)) (λ a.
    pair_reads (SeedWord 44) (λ b. IsTwoParts (SeedWord 44) (λ c. IsTwoParts (SeedWord 44) (λ d. SeedWord 10))) (seed_word_at 44) (λ b. pair_at (seed_word_at 44) (λ c. pair_at (seed_word_at 44) (λ d. seed_word_at 10))) (word 44 (omega arith)) (λ b.
    pair_reads (SeedWord 44) (λ c. IsTwoParts (SeedWord 44) (λ d. SeedWord 10)) (seed_word_at 44) (λ c. pair_at (seed_word_at 44) (λ d. seed_word_at 10)) (word 44 (omega arith)) (λ c.
    pair_reads (SeedWord 44) (λ d. SeedWord 10) (seed_word_at 44) (λ d. seed_word_at 10) (word 44 (omega arith)) (λ d. word 10 (omega arith))))))

part : (n : ℕ) (l : Bytes) → SeedWord 44 n l → lacks 10 l ≡ true
part n l f = number_part 44 0 18446744073709551615 n l (omega arith) (omega arith) f

seed_word_lines : AreLines IsSeedWords
seed_word_lines n l f =
    let a = f.form in let b = a.second in let c = b.second in let d = c.second in
    is_line l (line_behind (codes "seed ") l f.rest refl
    (line_behind a.front f.rest a.back (part n.0 a.front a.first)
    (line_behind b.front a.back b.back (part n.1.0 b.front b.first)
    (line_behind c.front b.back c.back (part n.1.1.0 c.front c.first)
    (line_behind d.front c.back d.back (part n.1.1.1.0 d.front d.first) (number_line 0 18446744073709551615 n.1.1.1.1 d.back d.second) d.is) c.is) b.is) a.is) f.is)

pub seed_reads : ReadsForm IsSeed seed_at
unfolding seed_at
seed_reads = record {
  takes = λ z v rest e.
      let x = map_some (λ (x : SeedWords × Bytes). (words_of x.0, x.1)) (seed_words_at z) (v, rest) e in
      let t = seed_words_read.takes z x.0.0 x.0.1 x.1 in
      let both = pair_is (words_of x.0.0) v x.0.1 rest x.2 in
      (t.0, record { parts = x.0.0; same = sym both.0; line = t.1 }, t.2 ∙ ap (λ (w : Bytes). t.0 ++ w) both.1);
  again = λ v l rest f. rw (seed_words_read.again f.parts l rest f.line) (ap (λ (w : List ℕ). Some (w, rest)) (sym f.same));
}

pub seed_lines : AreLines IsSeed
seed_lines v l f = seed_word_lines f.parts l f.line

pub turns_reads : ReadsForm IsTurns turns_at
unfolding turns_at
turns_reads = behind_reads (codes "max-turns ") (IsNumberField 10 1 1000000000) (ended_at 10 1 1000000000) (field_number 10 1 1000000000 (omega arith))

pub turns_lines : AreLines IsTurns
turns_lines n l f = is_line l (line_behind (codes "max-turns ") l f.rest refl (number_line 1 1000000000 n f.rest f.form) f.is)

pub events_reads : ReadsForm IsEvents events_at
unfolding events_at
events_reads = behind_reads (codes "max-events ") (IsNumberField 10 1 262144) (ended_at 10 1 262144) (field_number 10 1 262144 (omega arith))

pub events_lines : AreLines IsEvents
events_lines n l f = is_line l (line_behind (codes "max-events ") l f.rest refl (number_line 1 262144 n f.rest f.form) f.is)

pub length_reads : ReadsForm IsLength length_at
unfolding length_at
length_reads = behind_reads (codes "script ") (IsNumberField 10 0 1048576) (ended_at 10 0 1048576) (field_number 10 0 1048576 (omega arith))

pub length_lines : AreLines IsLength
length_lines n l f = is_line l (line_behind (codes "script ") l f.rest refl (number_line 0 1048576 n f.rest f.form) f.is)

-- ---- the count

digits_free : (w : Bytes) → all_ascii_digits w ≡ true → lacks 10 w ≡ true
digits_free [] e = refl
digits_free (b ∷ w) e =
    let p = and_parts (is_ascii_digit b) (all_ascii_digits w) e in
    and_from (not (b == 10)) (lacks 10 w) (other 10 b (λ is. digit_not b is p.0)) (digits_free w p.1)
  where
    digit_not : (b : ℕ) → b ≡ 10 → is_ascii_digit b ≡ true → ⊥
    digit_not b is d = let q : is_ascii_digit 10 ≡ true = ap is_ascii_digit (sym is) ∙ d in cc

pub digits_read : ReadsWord IsDigits digits_of
unfolding digits_of
digits_read = record {
  takes = λ w n e.
      let c = cond_some (all_ascii_digits w && (nat_lt 0 (length w) && (not (slice_index w 0 == 48) || (length w == 1)))) (digits_value 10 w) n e in
      let p = and_parts (all_ascii_digits w) ((nat_lt 0 (length w) && (not (slice_index w 0 == 48) || (length w == 1)))) c.0 in
      let q = and_parts (nat_lt 0 (length w)) (not (slice_index w 0 == 48) || (length w == 1)) p.1 in
      record { digits = p.0; some = q.0; leading = q.1; value = sym c.1 };
  again = λ n w f. rw (f.digits, f.some, f.leading) (ap (λ (k : ℕ). Some k) (sym f.value));
}

pub count_reads : ReadsForm IsCount count_at
unfolding count_at
count_reads = behind_reads (codes "entries ") (IsField 10 IsDigits) (field 10 digits_of) (field_reads 10 IsDigits digits_of digits_read (λ n w f. digits_free w f.digits))

pub count_lines : AreLines IsCount
count_lines n l f = is_line l (line_behind (codes "entries ") l f.rest refl (record { word = f.form.word; free = digits_free f.form.word f.form.form.digits; is = f.form.is }) f.is)

-- ---- one of each

number_sample : (low high n : ℕ) → n < 2 ^ 64 → low ≤ n → n ≤ high → IsNumberField 10 low high n (decimal n ++ (10 ∷ []))
number_sample low high n s l h = record { word = decimal n; form = record { small = s; low = l; high = h; is = refl }; is = refl }

behind_sample : (w : Bytes) (low high n : ℕ) → n < 2 ^ 64 → low ≤ n → n ≤ high → IsBehind w (IsNumberField 10 low high) n (w ++ (decimal n ++ (10 ∷ [])))
behind_sample w low high n s l h = record { rest = decimal n ++ (10 ∷ []); form = number_sample low high n s l h; is = refl }

pub sample_format : (l : Bytes) × IsFormat 1 l
sample_format = (codes "julia-tasks trace " ++ (decimal 1 ++ (10 ∷ [])), behind_sample (codes "julia-tasks trace ") 1 1 1 (omega arith) (omega arith) (omega arith))

pub sample_turns : (l : Bytes) × IsTurns 1 l
sample_turns = (codes "max-turns " ++ (decimal 1 ++ (10 ∷ [])), behind_sample (codes "max-turns ") 1 1000000000 1 (omega arith) (omega arith) (omega arith))

pub sample_events : (l : Bytes) × IsEvents 1 l
sample_events = (codes "max-events " ++ (decimal 1 ++ (10 ∷ [])), behind_sample (codes "max-events ") 1 262144 1 (omega arith) (omega arith) (omega arith))

pub sample_length : (l : Bytes) × IsLength 0 l
sample_length = (codes "script " ++ (decimal 0 ++ (10 ∷ [])), behind_sample (codes "script ") 0 1048576 0 (omega arith) (omega arith) (omega arith))

comma : (n low high : ℕ) → n < 2 ^ 64 → low ≤ n → n ≤ high → IsNumberField 44 low high n (decimal n ++ (44 ∷ []))
comma n low high s l h = record { word = decimal n; form = record { small = s; low = l; high = h; is = refl }; is = refl }

pub sample_threads : (n : ℕ × ℕ) × (l : Bytes) × IsThreads n l
sample_threads = (
  (1, 0),
  codes "threads " ++ ((decimal 1 ++ (44 ∷ [])) ++ (decimal 0 ++ (10 ∷ []))),
  record {
    rest = (decimal 1 ++ (44 ∷ [])) ++ (decimal 0 ++ (10 ∷ []));
    form = record { front = decimal 1 ++ (44 ∷ []); back = decimal 0 ++ (10 ∷ []); first = comma 1 1 64 (omega arith) (omega arith) (omega arith); second = number_sample 0 16 0 (omega arith) (omega arith) (omega arith); is = refl };
    is = refl;
  },
)

zero_comma : SeedWord 44 0 (decimal 0 ++ (44 ∷ []))
zero_comma = comma 0 0 18446744073709551615 (omega arith) (omega arith) (omega arith)

sample_seed_words : (n : SeedWords) × (l : Bytes) × IsSeedWords n l
sample_seed_words =
    let w = decimal 0 ++ (44 ∷ []) in
    let last = decimal 0 ++ (10 ∷ []) in (
      (0, (0, (0, (0, 0)))),
      codes "seed " ++ (w ++ (w ++ (w ++ (w ++ last)))),
      record {
        rest = w ++ (w ++ (w ++ (w ++ last)));
        form = record {
          front = w;
          back = w ++ (w ++ (w ++ last));
          first = zero_comma;
          is = refl;
          second = record {
            front = w;
            back = w ++ (w ++ last);
            first = zero_comma;
            is = refl;
            second = record {
              front = w;
              back = w ++ last;
              first = zero_comma;
              is = refl;
              second = record { front = w; back = last; first = zero_comma; second = number_sample 0 18446744073709551615 0 (omega arith) (omega arith) (omega arith); is = refl };
            };
          };
        };
        is = refl;
      },
    )

pub sample_seed : (words : List ℕ) × (l : Bytes) × IsSeed words l
sample_seed = let s = sample_seed_words in (words_of s.0, s.1, record { parts = s.0; same = refl; line = s.2 })

pub sample_count : (l : Bytes) × IsCount 0 l
sample_count = (codes "entries " ++ (codes "0" ++ (10 ∷ [])), record { rest = codes "0" ++ (10 ∷ []); form = record { word = codes "0"; form = record { digits = refl; some = refl; leading = refl; value = refl }; is = refl }; is = refl })
