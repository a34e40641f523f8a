-- Reading the text of a trace, line after line.
use Rattle.std.specs.Prelude.{◌≡◌, ℕ, zero, suc, ◌+◌, ◌&&◌, ◌||◌, not, if◌then◌else◌, ◌==◌, nat_lt, List, [], ◌∷◌, length, take, drop, slice_index, Option, Some, None, option_map, Result, Ok, Err, codes}
use Rattle.std.specs.Str.{is_utf8, all_ascii_digits}
use Rattle.std.specs.Str.Parse.{digits_value}
use Rattle.jt_base.specs.Limits.{most_script}
use Rattle.jt_base.specs.declared.entry.Entry.{Entry}
use Rattle.jt_trace_text.specs.Lines.{Bytes, newlines}
use Rattle.jt_trace_text.specs.Readers.{Then, at_line, pair_at, behind, field}
use Rattle.jt_trace_text.specs.Words.{most_u64}
use Rattle.jt_trace_text.specs.WordReaders.{number_in}
use Rattle.jt_trace_text.specs.Entries.{IsEntry}
use Rattle.jt_trace_text.specs.EntryReaders.{entry_at}
use Rattle.jt_trace_text.specs.Texts.{TraceValue, SeedWords, words_of, IsFormat, IsThreads, IsSeed, IsTurns, IsEvents, IsLength, IsScript, IsCount}

-- ---- the lines before the script

abbrev pub ended_at : ℕ → ℕ → ℕ → Bytes → Option (ℕ × Bytes)
ended_at ending low high = field ending (number_in low high)

unfoldable pub format_at : Bytes → Option (ℕ × Bytes)
format_at = behind (codes "julia-tasks trace ") (ended_at 10 1 1)

unfoldable pub threads_at : Bytes → Option ((ℕ × ℕ) × Bytes)
threads_at = behind (codes "threads ") (pair_at (ended_at 44 1 64) (λ n. ended_at 10 0 16))

abbrev pub seed_word_at : ℕ → Bytes → Option (ℕ × Bytes)
seed_word_at ending = ended_at ending 0 most_u64

unfoldable pub seed_words_at : Bytes → Option (SeedWords × Bytes)
seed_words_at = behind (codes "seed ") (pair_at (seed_word_at 44) (λ a. pair_at (seed_word_at 44) (λ b. pair_at (seed_word_at 44) (λ c. pair_at (seed_word_at 44) (λ d. seed_word_at 10)))))

unfoldable pub seed_at : Bytes → Option (List ℕ × Bytes)
seed_at z = option_map (λ (x : SeedWords × Bytes). (words_of x.0, x.1)) (seed_words_at z)

unfoldable pub turns_at : Bytes → Option (ℕ × Bytes)
turns_at = behind (codes "max-turns ") (ended_at 10 1 1000000000)

unfoldable pub events_at : Bytes → Option (ℕ × Bytes)
events_at = behind (codes "max-events ") (ended_at 10 1 262144)

unfoldable pub length_at : Bytes → Option (ℕ × Bytes)
length_at = behind (codes "script ") (ended_at 10 0 most_script)

-- ---- the script and the number of entries

-- the first bytes, where they are a text and a newline stands behind them
unfoldable pub script_at : ℕ → Bytes → Option (Bytes × Bytes)
script_at len z = if nat_lt len (length z) && ((slice_index z len == 10) && is_utf8 (take len z)) then Some (take len z, drop (len + 1) z) else None

unfoldable pub digits_of : Bytes → Option ℕ
digits_of w = if all_ascii_digits w && (nat_lt 0 (length w) && (not (slice_index w 0 == 48) || (length w == 1))) then Some (digits_value 10 w) else None

unfoldable pub count_at : Bytes → Option (ℕ × Bytes)
count_at = behind (codes "entries ") (field 10 digits_of)

-- ---- what follows each line

-- so many entries, and nothing behind them
abbrev pub EntriesText : ℕ → ℕ → Bytes → Type 0
EntriesText most zero w = w ≡ []
EntriesText most (suc n) w = Then (IsEntry most) (λ e. EntriesText most n) w

abbrev pub CountText : ℕ → Bytes → Type 0
CountText most = Then IsCount (λ count. EntriesText most count)

abbrev pub ScriptText : ℕ → ℕ → Bytes → Type 0
ScriptText most len = Then (IsScript len) (λ script. CountText most)

abbrev pub LengthText : ℕ → Bytes → Type 0
LengthText most = Then IsLength (λ len. ScriptText most len)

abbrev pub EventsText : Bytes → Type 0
EventsText = Then IsEvents (λ most. LengthText most)

abbrev pub TurnsText : Bytes → Type 0
TurnsText = Then IsTurns (λ turns. EventsText)

abbrev pub SeedText : Bytes → Type 0
SeedText = Then IsSeed (λ words. TurnsText)

abbrev pub ThreadsText : Bytes → Type 0
ThreadsText = Then IsThreads (λ sizes. SeedText)

-- the text of some trace, seen line after line
abbrev pub TraceText : Bytes → Type 0
TraceText = Then IsFormat (λ format. ThreadsText)

-- ---- reading, line after line

abbrev pub entry_more : {A : Type 0} → A → Result (List A) ℕ → Result (List A) ℕ
entry_more e (Ok es) = Ok (e ∷ es)
entry_more e (Err n) = Err n

abbrev pub read_entries : ℕ → ℕ → ℕ → Bytes → Result (List Entry) ℕ
read_entries most zero line [] = Ok []
read_entries most zero line (b ∷ z) = Err line
read_entries most (suc n) line z = at_line line (entry_at most z) (λ (x : Entry × Bytes). entry_more x.0 (read_entries most n (suc line) x.1))

-- what the lines before the script say
abbrev pub Header : Type 0
Header = (ℕ × ℕ) × (List ℕ × (ℕ × ℕ))

abbrev pub trace_of : Header → Bytes → List Entry → TraceValue
trace_of h script es = record {
  sizes = record { default = h.0.0; interactive = h.0.1 };
  seeds = record { words = h.1.0 };
  limits = record { turns = h.1.1.0; events = h.1.1.1 };
  script = script;
  entries = es;
}

abbrev pub as_trace : Header → Bytes → Result (List Entry) ℕ → Result TraceValue ℕ
as_trace h script (Ok es) = Ok (trace_of h script es)
as_trace h script (Err n) = Err n

unfoldable pub read_count : Header → Bytes → ℕ → Bytes → Result TraceValue ℕ
read_count h script line z = at_line line (count_at z) (λ (x : ℕ × Bytes). as_trace h script (read_entries h.1.1.1 x.0 (suc line) x.1))

unfoldable pub read_script : Header → ℕ → Bytes → Result TraceValue ℕ
read_script h len z = at_line (7 + newlines (take len z)) (script_at len z) (λ (x : Bytes × Bytes). read_count h x.0 (8 + newlines x.0) x.1)

unfoldable pub read_length : Header → Bytes → Result TraceValue ℕ
read_length h z = at_line 6 (length_at z) (λ (x : ℕ × Bytes). read_script h x.0 x.1)

unfoldable pub read_events : (ℕ × ℕ) → List ℕ → ℕ → Bytes → Result TraceValue ℕ
read_events sizes words turns z = at_line 5 (events_at z) (λ (x : ℕ × Bytes). read_length (sizes, (words, (turns, x.0))) x.1)

unfoldable pub read_turns : (ℕ × ℕ) → List ℕ → Bytes → Result TraceValue ℕ
read_turns sizes words z = at_line 4 (turns_at z) (λ (x : ℕ × Bytes). read_events sizes words x.0 x.1)

unfoldable pub read_seed : (ℕ × ℕ) → Bytes → Result TraceValue ℕ
read_seed sizes z = at_line 3 (seed_at z) (λ (x : List ℕ × Bytes). read_turns sizes x.0 x.1)

unfoldable pub read_threads : Bytes → Result TraceValue ℕ
read_threads z = at_line 2 (threads_at z) (λ (x : (ℕ × ℕ) × Bytes). read_seed x.0 x.1)

unfoldable pub read_text : Bytes → Result TraceValue ℕ
read_text z = at_line 1 (format_at z) (λ (x : ℕ × Bytes). read_threads x.1)
