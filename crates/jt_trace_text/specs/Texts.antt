-- The relation between texts and traces: one line after the other.
use Rattle.std.specs.Prelude.{◌≡◌, ℕ, true, ◌||◌, not, ◌==◌, nat_lt, List, [], ◌∷◌, ◌++◌, length, slice_index, codes, IsUtf8}
use Rattle.std.specs.Str.{all_ascii_digits}
use Rattle.std.specs.Str.Parse.{digits_value}
use Rattle.jt_base.specs.declared.entry.Entry.{Entry}
use Rattle.jt_base.specs.declared.run.Limits.{Limits}
use Rattle.jt_base.specs.declared.run.Seeds.{Seeds}
use Rattle.jt_base.specs.declared.run.Sizes.{Sizes}
use Rattle.jt_base.specs.Limits.{most_script}
use Rattle.jt_trace_text.specs.Lines.{Bytes}
use Rattle.jt_trace_text.specs.Forms.{IsField, IsTwoParts, IsBehind}
use Rattle.jt_trace_text.specs.Words.{most_u64, IsDecimal}
use Rattle.jt_trace_text.specs.Entries.{AreEntries}

-- a trace, seen without where it lies in memory
pub record TraceValue : Type 0 where
  pub sizes : Sizes
  pub seeds : Seeds
  pub limits : Limits
  pub script : Bytes
  pub entries : List Entry

-- ---- the lines before the script

-- a number and the byte that ends it
abbrev pub IsNumberField : ℕ → ℕ → ℕ → ℕ → Bytes → Type 0
IsNumberField ending low high = IsField ending (IsDecimal low high)

-- the number of the format, of which there is one
abbrev pub IsFormat : ℕ → Bytes → Type 0
IsFormat = IsBehind (codes "julia-tasks trace ") (IsNumberField 10 1 1)

-- the default workers, a comma, the interactive ones
abbrev pub IsThreads : ℕ × ℕ → Bytes → Type 0
IsThreads = IsBehind (codes "threads ") (IsTwoParts (IsNumberField 44 1 64) (λ n. IsNumberField 10 0 16))

-- five words of 64 bits
abbrev pub SeedWords : Type 0
SeedWords = ℕ × (ℕ × (ℕ × (ℕ × ℕ)))

abbrev pub words_of : SeedWords → List ℕ
words_of w = w.0 ∷ w.1.0 ∷ w.1.1.0 ∷ w.1.1.1.0 ∷ w.1.1.1.1 ∷ []

abbrev pub SeedWord : ℕ → ℕ → Bytes → Type 0
SeedWord ending = IsNumberField ending 0 most_u64

abbrev pub IsSeedWords : SeedWords → Bytes → Type 0
IsSeedWords = IsBehind (codes "seed ") (IsTwoParts (SeedWord 44) (λ a. IsTwoParts (SeedWord 44) (λ b. IsTwoParts (SeedWord 44) (λ c. IsTwoParts (SeedWord 44) (λ d. SeedWord 10)))))

-- the same of a list
pub record IsSeed (words : List ℕ) (l : Bytes) : Type 0 where
  pub parts : SeedWords
  pub same : words ≡ words_of parts
  pub line : IsSeedWords parts l

abbrev pub IsTurns : ℕ → Bytes → Type 0
IsTurns = IsBehind (codes "max-turns ") (IsNumberField 10 1 1000000000)

abbrev pub IsEvents : ℕ → Bytes → Type 0
IsEvents = IsBehind (codes "max-events ") (IsNumberField 10 1 262144)

-- how many bytes the script has
abbrev pub IsLength : ℕ → Bytes → Type 0
IsLength = IsBehind (codes "script ") (IsNumberField 10 0 most_script)

-- ---- the script and the number of entries

-- a text of so many bytes, and a newline
pub record IsScript (len : ℕ) (script l : Bytes) : Type 0 where
  pub length : length script ≡ len
  pub text : IsUtf8 script
  pub is : l ≡ script ++ (10 ∷ [])

-- decimal digits without leading zeros, of any length
pub record IsDigits (n : ℕ) (w : Bytes) : Type 0 where
  pub digits : all_ascii_digits w ≡ true
  pub some : nat_lt 0 (length w) ≡ true
  pub leading : (not (slice_index w 0 == 48) || (length w == 1)) ≡ true
  pub value : n ≡ digits_value 10 w

abbrev pub IsCount : ℕ → Bytes → Type 0
IsCount = IsBehind (codes "entries ") (IsField 10 IsDigits)

-- ---- whole texts

-- a text of a trace
pub record IsTraceText (t : TraceValue) (z : Bytes) : Type 0 where
  pub format_line : Bytes
  pub format : IsFormat 1 format_line
  pub threads_line : Bytes
  pub threads : IsThreads (t.sizes.default, t.sizes.interactive) threads_line
  pub seed_line : Bytes
  pub seed : IsSeed t.seeds.words seed_line
  pub turns_line : Bytes
  pub turns : IsTurns t.limits.turns turns_line
  pub events_line : Bytes
  pub events : IsEvents t.limits.events events_line
  pub length_line : Bytes
  pub script_length : IsLength (length t.script) length_line
  pub script_lines : Bytes
  pub script : IsScript (length t.script) t.script script_lines
  pub count_line : Bytes
  pub count : IsCount (length t.entries) count_line
  pub entry_lines : Bytes
  pub entries : AreEntries t.limits.events t.entries entry_lines
  pub is : z ≡ format_line ++ (threads_line ++ (seed_line ++ (turns_line ++ (events_line ++ (length_line ++ (script_lines ++ (count_line ++ entry_lines)))))))

-- a trace that has a text
abbrev pub HasText : TraceValue → Type 0
HasText t = (z : Bytes) × IsTraceText t z

-- a text of some trace
abbrev pub IsText : Bytes → Type 0
IsText z = (t : TraceValue) × IsTraceText t z
