-- A text that isn't read stops being one of a trace at the line that is told.
use Rattle.std.proofs.Common.{◌≡◌, ℕ, zero, suc, ◌+◌, ◌≤◌, List, [], ◌∷◌, ◌++◌, length, take, get_or, Option, Some, None, Result, Ok, Err, refl, sym, ap, subst, ◌∙◌, append_assoc, arith}
use Rattle.std.specs.Prelude.{IsUtf8}
use Rattle.std.proofs.lemmas.List.{drop_at, length-append}
use Rattle.std.proofs.lemmas.Str.{IsUtf8-drop, IsCharBoundary-after_ascii}
use Rattle.jt_base.specs.declared.entry.Entry.{Entry}
use Rattle.jt_trace_text.specs.Lines.{Bytes, first_lines, newlines, StopsAfter, IsFirstBad}
use Rattle.jt_trace_text.specs.Readers.{at_line}
use Rattle.jt_trace_text.specs.Entries.{IsEntry}
use Rattle.jt_trace_text.specs.EntryReaders.{entry_at}
use Rattle.jt_trace_text.specs.Texts.{IsFormat, IsThreads, IsSeed, IsTurns, IsEvents, IsLength, IsScript, IsCount}
use Rattle.jt_trace_text.specs.TextReaders.{format_at, threads_at, seed_at, turns_at, events_at, length_at, script_at, count_at, EntriesText, CountText, ScriptText, LengthText, EventsText, TurnsText, SeedText, ThreadsText, TraceText, entry_more, read_entries, Header, as_trace, read_count, read_script, read_length, read_events, read_turns, read_seed, read_threads, read_text}
use Rattle.jt_trace_text.proofs.Fronts.{whole, StopsAfter-behind}
use Rattle.jt_trace_text.proofs.Steps.{stops, wraps, unwraps}
use Rattle.jt_trace_text.proofs.Scripts.{stops_in_script, script_lines, line_ends, script_reads, whole_text, sample_script}
use Rattle.jt_trace_text.proofs.EntryLaws.{entry_reads, entry_lines, sample_entry}
use Rattle.jt_trace_text.proofs.LineLaws.{format_reads, format_lines, threads_reads, threads_lines, seed_reads, seed_lines, turns_reads, turns_lines, events_reads, events_lines, length_reads, length_lines, count_reads, count_lines, sample_count, sample_length, sample_events, sample_turns, sample_seed, sample_threads, sample_format}

-- ---- texts that are cut behind a newline

rest_text : (l rest : Bytes) → IsUtf8 (l ++ rest) → first_lines 1 l ≡ Some l → IsUtf8 rest
rest_text l rest u lines =
    let f = line_ends 0 l lines in
    let n : length l ≡ length f.0 + 1 = ap length f.1 ∙ length-append f.0 (10 ∷ []) in
    let at : get_or (l ++ rest) (length f.0) 0 ≡ 10 = ap (λ (x : Bytes). get_or x (length f.0) 0) (ap (λ (x : Bytes). x ++ rest) f.1 ∙ append_assoc f.0 (10 ∷ []) rest) ∙ at_end f.0 (10 ∷ rest) in
    let b = IsCharBoundary-after_ascii (l ++ rest) (length f.0) u (simp length-append (omega (arith, n))) (omega (arith, at)) in
    subst IsUtf8 (drop_at l rest (length f.0 + 1) n) (IsUtf8-drop (l ++ rest) (length f.0 + 1) u b)
  where
    at_end : (a b : Bytes) → get_or (a ++ b) (length a) 0 ≡ get_or b 0 0
    at_end [] b = refl
    at_end (x ∷ a) b = at_end a b

-- ---- one of each kind

entries_sample : (most n : ℕ) → 1 ≤ most → (w : Bytes) × EntriesText most n w
entries_sample most zero l = ([], refl)
entries_sample most (suc n) l =
    let e = sample_entry most l in
    let rest = entries_sample most n l in
    (e.1 ++ rest.0, (e.0, e.1, rest.0, e.2, rest.1, refl))

count_sample : (most : ℕ) → (w : Bytes) × CountText most w
count_sample most = (sample_count.0 ++ [], (0, sample_count.0, [], sample_count.1, refl, refl))

script_sample : (most len : ℕ) → (w : Bytes) × ScriptText most len w
script_sample most len = let c = count_sample most in let s = sample_script len in (s.1 ++ c.0, (s.0, s.1, c.0, s.2, c.1, refl))

length_sample : (most : ℕ) → (w : Bytes) × LengthText most w
length_sample most = let s = script_sample most 0 in (sample_length.0 ++ s.0, (0, sample_length.0, s.0, sample_length.1, s.1, refl))

events_sample : (w : Bytes) × EventsText w
events_sample = let s = length_sample 1 in (sample_events.0 ++ s.0, (1, sample_events.0, s.0, sample_events.1, s.1, refl))

turns_sample : (w : Bytes) × TurnsText w
turns_sample = let s = events_sample in (sample_turns.0 ++ s.0, (1, sample_turns.0, s.0, sample_turns.1, s.1, refl))

seed_sample : (w : Bytes) × SeedText w
seed_sample = let s = turns_sample in (sample_seed.1 ++ s.0, (sample_seed.0, sample_seed.1, s.0, sample_seed.2, s.1, refl))

threads_sample : (w : Bytes) × ThreadsText w
threads_sample = let s = seed_sample in (sample_threads.1 ++ s.0, (sample_threads.0, sample_threads.1, s.0, sample_threads.2, s.1, refl))

trace_sample : (w : Bytes) × TraceText w
trace_sample = let s = threads_sample in (sample_format.0 ++ s.0, (1, sample_format.0, s.0, sample_format.1, s.1, refl))

-- ---- where reading stops

more_err : {A : Type 0} (e : A) (r : Result (List A) ℕ) (m : ℕ) → entry_more e r ≡ Err m → r ≡ Err m
more_err e (Ok es) m q = absurd cc
more_err e (Err n) m q = let same : n ≡ m = cc in ap (λ (k : ℕ). Err k) same

trace_err : (h : Header) (script : Bytes) (r : Result (List Entry) ℕ) (m : ℕ) → as_trace h script r ≡ Err m → r ≡ Err m
trace_err h script (Ok es) m q = absurd cc
trace_err h script (Err n) m q = let same : n ≡ m = cc in ap (λ (k : ℕ). Err k) same

entries_stop : (most n line : ℕ) (z : Bytes) (m : ℕ) → 1 ≤ most → read_entries most n line z ≡ Err m → (k : ℕ) × (m ≡ line + k) × StopsAfter (EntriesText most n) k z
entries_stop most zero line [] m l e = absurd cc
entries_stop most zero line (b ∷ z) m l e =
    let same : line ≡ m = cc in (
      0,
      omega arith,
      record {
        begins = ([], refl, record { lines = []; first = refl; second = refl });
        no_more = λ b. let none : first_lines 1 [] ≡ Some b.2.lines = ap (first_lines 1) (sym b.1) ∙ b.2.second in cc;
        no_text = λ t. cc;
      },
    )
entries_stop most (suc n) line z m l e =
    let s = entries_sample most (suc n) l in
    stops (IsEntry most) (entry_at most) (entry_reads most) (λ (x : Entry). EntriesText most n) (entry_lines most) line m z (λ (x : Entry × Bytes). entry_more x.0 (read_entries most n (suc line) x.1)) s.0 s.1
    (λ v k rest f is err. entries_stop most n (suc line) rest m l (more_err v (read_entries most n (suc line) rest) m err)) e

count_stop : (h : Header) (script : Bytes) (line : ℕ) (z : Bytes) (m : ℕ) → 1 ≤ h.1.1.1 → read_count h script line z ≡ Err m → (k : ℕ) × (m ≡ line + k) × StopsAfter (CountText h.1.1.1) k z
unfolding read_count
count_stop h script line z m l e =
    let most = h.1.1.1 in
    let s = count_sample most in
    stops IsCount count_at count_reads (λ (n : ℕ). EntriesText most n) count_lines line m z (λ (x : ℕ × Bytes). as_trace h script (read_entries most x.0 (suc line) x.1)) s.0 s.1
    (λ v k rest f is err. entries_stop most v (suc line) rest m l (trace_err h script (read_entries most v (suc line) rest) m err)) e

script_stop : (h : Header) (len : ℕ) (z : Bytes) (m : ℕ) → IsUtf8 z → 1 ≤ h.1.1.1 → read_script h len z ≡ Err m → (k : ℕ) × (m ≡ 7 + k) × StopsAfter (ScriptText h.1.1.1 len) k z
unfolding read_script
script_stop h len z m u l e = by (script_at len z) refl e
  where
    by : (o : Option (Bytes × Bytes)) → script_at len z ≡ o → at_line (7 + newlines (take len z)) o (λ (x : Bytes × Bytes). read_count h x.0 (8 + newlines x.0) x.1) ≡ Err m → (k : ℕ) × (m ≡ 7 + k) × StopsAfter (ScriptText h.1.1.1 len) k z
    by None is err =
        let at : 7 + newlines (take len z) ≡ m = cc in
        let c = count_sample h.1.1.1 in
        (newlines (take len z), sym at, stops_in_script (CountText h.1.1.1) len (script_reads len) c.0 c.1 z (λ f r first parts. front_text f r first parts) is)
      where
        front_text : (f r : Bytes) → first_lines (newlines (take len z)) z ≡ Some f → z ≡ f ++ r → IsUtf8 f
        front_text f r first parts = whole_text (newlines (take len z)) f r (subst IsUtf8 parts u) (whole (newlines (take len z)) z f first)
    by (Some x) is err =
        let t = (script_reads len).takes z x.0 x.1 is in
        let s = count_stop h x.0 (8 + newlines x.0) x.1 m l err in
        let lines : first_lines (suc (newlines x.0)) t.0 ≡ Some t.0 = subst (λ (y : Bytes). first_lines (suc (newlines x.0)) y ≡ Some y) (sym t.1.is) (script_lines x.0) in (
          suc (newlines x.0) + s.0,
          omega (arith, s.1),
          rw t.2 (StopsAfter-behind (ScriptText h.1.1.1 len) (CountText h.1.1.1) (suc (newlines x.0)) s.0 (suc (newlines x.0) + s.0) t.0 x.1 lines refl
              (wraps (IsScript len) (script_at len) (script_reads len) (λ (y : Bytes). CountText h.1.1.1) x.0 t.0 t.1)
              (unwraps (IsScript len) (script_at len) (script_reads len) (λ (y : Bytes). CountText h.1.1.1) x.0 t.0 t.1) s.2),
        )

length_stop : (h : Header) (z : Bytes) (m : ℕ) → IsUtf8 z → 1 ≤ h.1.1.1 → read_length h z ≡ Err m → (k : ℕ) × (m ≡ 6 + k) × StopsAfter (LengthText h.1.1.1) k z
unfolding read_length
length_stop h z m u l e =
    let s = length_sample h.1.1.1 in
    stops IsLength length_at length_reads (λ (n : ℕ). ScriptText h.1.1.1 n) length_lines 6 m z (λ (x : ℕ × Bytes). read_script h x.0 x.1) s.0 s.1
    (λ v k rest f is err. script_stop h v rest m (rest_text k rest (subst IsUtf8 is u) (length_lines v k f)) l err) e

events_stop : (sizes : ℕ × ℕ) (words : List ℕ) (turns : ℕ) (z : Bytes) (m : ℕ) → IsUtf8 z → read_events sizes words turns z ≡ Err m → (k : ℕ) × (m ≡ 5 + k) × StopsAfter EventsText k z
unfolding read_events
events_stop sizes words turns z m u e =
    let s = events_sample in
    stops IsEvents events_at events_reads (λ (n : ℕ). LengthText n) events_lines 5 m z (λ (x : ℕ × Bytes). read_length (sizes, (words, (turns, x.0))) x.1) s.0 s.1
    (λ v k rest f is err. length_stop (sizes, (words, (turns, v))) rest m (rest_text k rest (subst IsUtf8 is u) (events_lines v k f)) f.form.form.low err) e

turns_stop : (sizes : ℕ × ℕ) (words : List ℕ) (z : Bytes) (m : ℕ) → IsUtf8 z → read_turns sizes words z ≡ Err m → (k : ℕ) × (m ≡ 4 + k) × StopsAfter TurnsText k z
unfolding read_turns
turns_stop sizes words z m u e =
    let s = turns_sample in
    stops IsTurns turns_at turns_reads (λ (n : ℕ). EventsText) turns_lines 4 m z (λ (x : ℕ × Bytes). read_events sizes words x.0 x.1) s.0 s.1
    (λ v k rest f is err. events_stop sizes words v rest m (rest_text k rest (subst IsUtf8 is u) (turns_lines v k f)) err) e

seed_stop : (sizes : ℕ × ℕ) (z : Bytes) (m : ℕ) → IsUtf8 z → read_seed sizes z ≡ Err m → (k : ℕ) × (m ≡ 3 + k) × StopsAfter SeedText k z
unfolding read_seed
seed_stop sizes z m u e =
    let s = seed_sample in
    stops IsSeed seed_at seed_reads (λ (w : List ℕ). TurnsText) seed_lines 3 m z (λ (x : List ℕ × Bytes). read_turns sizes x.0 x.1) s.0 s.1
    (λ v k rest f is err. turns_stop sizes v rest m (rest_text k rest (subst IsUtf8 is u) (seed_lines v k f)) err) e

threads_stop : (z : Bytes) (m : ℕ) → IsUtf8 z → read_threads z ≡ Err m → (k : ℕ) × (m ≡ 2 + k) × StopsAfter ThreadsText k z
unfolding read_threads
threads_stop z m u e =
    let s = threads_sample in
    stops IsThreads threads_at threads_reads (λ (n : ℕ × ℕ). SeedText) threads_lines 2 m z (λ (x : (ℕ × ℕ) × Bytes). read_seed x.0 x.1) s.0 s.1
    (λ v k rest f is err. seed_stop v rest m (rest_text k rest (subst IsUtf8 is u) (threads_lines v k f)) err) e

-- the line that reading tells is the first that isn't one of a trace's text
pub first_bad : (z : Bytes) (m : ℕ) → IsUtf8 z → read_text z ≡ Err m → IsFirstBad TraceText m z
unfolding read_text
first_bad z m u e =
    let s = trace_sample in
    let r = stops IsFormat format_at format_reads (λ (n : ℕ). ThreadsText) format_lines 1 m z (λ (x : ℕ × Bytes). read_threads x.1) s.0 s.1
    (λ v k rest f is err. threads_stop rest m (rest_text k rest (subst IsUtf8 is u) (format_lines v k f)) err) e in
    (r.0, omega (arith, r.1), r.2)
