-- What is read is a text of the trace, and each text of a trace is read so.
use Rattle.std.proofs.Common.{◌≡◌, ℕ, zero, suc, ◌+◌, List, [], ◌∷◌, ◌++◌, length, take, Option, Some, None, Result, Ok, Err, refl, sym, ap, subst, ◌∙◌, arith}
use Rattle.jt_base.specs.declared.entry.Entry.{Entry}
use Rattle.jt_trace_text.specs.Lines.{Bytes, newlines, StopsAfter, IsFirstBad}
use Rattle.jt_trace_text.specs.Readers.{Then, ReadsForm, at_line}
use Rattle.jt_trace_text.specs.Entries.{AreEntries}
use Rattle.jt_trace_text.specs.EntryReaders.{entry_at}
use Rattle.jt_trace_text.specs.Texts.{TraceValue, IsFormat, IsThreads, IsSeed, IsTurns, IsEvents, IsLength, IsScript, IsCount, IsTraceText, IsText}
use Rattle.jt_trace_text.specs.TextReaders.{format_at, threads_at, seed_at, turns_at, events_at, length_at, script_at, count_at, EntriesText, TraceText, entry_more, read_entries, Header, trace_of, as_trace, read_count, read_script, read_length, read_events, read_turns, read_seed, read_threads, read_text}
use Rattle.std.specs.Prelude.{IsUtf8}
use Rattle.jt_trace_text.proofs.Whole.{first_bad}
use Rattle.jt_trace_text.proofs.Scripts.{script_reads}
use Rattle.jt_trace_text.proofs.EntryLaws.{entry_reads}
use Rattle.jt_trace_text.proofs.LineLaws.{format_reads, threads_reads, seed_reads, turns_reads, events_reads, length_reads, count_reads}

line_ok : {A B : Type 0} (n : ℕ) (o : Option A) (go : A → Result B ℕ) (y : B) → at_line n o go ≡ Ok y → (x : A) × (o ≡ Some x) × (go x ≡ Ok y)
line_ok n None go y e = absurd cc
line_ok n (Some x) go y e = (x, refl, e)

more_ok : (e : Entry) (r : Result (List Entry) ℕ) (es : List Entry) → entry_more e r ≡ Ok es → (fs : List Entry) × (r ≡ Ok fs) × (e ∷ fs ≡ es)
more_ok e (Ok fs) es q = (fs, refl, cc)
more_ok e (Err n) es q = absurd cc

entries_found : (most n line : ℕ) (z : Bytes) (es : List Entry) → read_entries most n line z ≡ Ok es → (length es ≡ n) × AreEntries most es z
entries_found most zero line [] es e = let is : [] ≡ es = cc in subst (λ (x : List Entry). (length x ≡ 0) × AreEntries most x []) is (refl, refl)
entries_found most zero line (b ∷ z) es e = absurd cc
entries_found most (suc n) line z es e =
    let x = line_ok line (entry_at most z) (λ (x : Entry × Bytes). entry_more x.0 (read_entries most n (suc line) x.1)) es e in
    let m = more_ok x.0.0 (read_entries most n (suc line) x.0.1) es x.2 in
    let t = (entry_reads most).takes z x.0.0 x.0.1 x.1 in
    let r = entries_found most n (suc line) x.0.1 m.0 m.1 in
    subst (λ (v : List Entry). (length v ≡ suc n) × AreEntries most v z) m.2 (ap suc r.0, (t.0, x.0.1, t.1, r.1, t.2))

entries_again : (most : ℕ) (es : List Entry) (line : ℕ) (z : Bytes) → AreEntries most es z → read_entries most (length es) line z ≡ Ok es
entries_again most [] line z f = ap (read_entries most 0 line) f
entries_again most (e ∷ es) line z f =
    let t = (entry_reads most).again e f.0 f.1 f.2 in
    let rest = entries_again most es (suc line) f.1 f.3 in
    ap (λ (o : Option (Entry × Bytes)). at_line line o (λ (x : Entry × Bytes). entry_more x.0 (read_entries most (length es) (suc line) x.1))) (ap (entry_at most) f.4 ∙ t)
    ∙ ap (entry_more e) rest

trace_ok : (h : Header) (script : Bytes) (r : Result (List Entry) ℕ) (t : TraceValue) → as_trace h script r ≡ Ok t → (es : List Entry) × (r ≡ Ok es) × (trace_of h script es ≡ t)
trace_ok h script (Ok es) t e = (es, refl, ok_is e)
  where
    ok_is : {x y : TraceValue} → ◌≡◌ {A = Result TraceValue ℕ} (Ok x) (Ok y) → x ≡ y
    ok_is e = cc
trace_ok h script (Err n) t e = absurd cc

-- ---- what is left after each line, of this trace

-- made of parts that are not looked into
made : Header → Bytes → List Entry → TraceValue
made h script es = trace_of h script es

abbrev EntriesOf : Header → Bytes → TraceValue → ℕ → Bytes → Type 0
EntriesOf h script t n w = (es : List Entry) × (length es ≡ n) × AreEntries h.1.1.1 es w × (made h script es ≡ t)

abbrev CountOf : Header → Bytes → TraceValue → Bytes → Type 0
CountOf h script t = Then IsCount (EntriesOf h script t)

abbrev ScriptOf : Header → TraceValue → ℕ → Bytes → Type 0
ScriptOf h t len = Then (IsScript len) (λ s. CountOf h s t)

abbrev LengthOf : Header → TraceValue → Bytes → Type 0
LengthOf h t = Then IsLength (ScriptOf h t)

abbrev EventsOf : ℕ × ℕ → List ℕ → TraceValue → ℕ → Bytes → Type 0
EventsOf sizes words t turns = Then IsEvents (λ most. LengthOf (sizes, (words, (turns, most))) t)

abbrev TurnsOf : ℕ × ℕ → TraceValue → List ℕ → Bytes → Type 0
TurnsOf sizes t words = Then IsTurns (EventsOf sizes words t)

abbrev SeedOf : TraceValue → ℕ × ℕ → Bytes → Type 0
SeedOf t sizes = Then IsSeed (TurnsOf sizes t)

abbrev ThreadsOf : TraceValue → Bytes → Type 0
ThreadsOf t = Then IsThreads (SeedOf t)

abbrev AllOf : TraceValue → Bytes → Type 0
AllOf t = Then IsFormat (λ n. ThreadsOf t)

found_line : {A : Type 0} (Form : A → Bytes → Type 0) (read : Bytes → Option (A × Bytes)) (L : A → Bytes → Type 0) (n : ℕ) (z : Bytes) (go : A × Bytes → Result TraceValue ℕ) (t : TraceValue)
    → ReadsForm Form read → at_line n (read z) go ≡ Ok t → ((x : A × Bytes) → go x ≡ Ok t → L x.0 x.1) → Then Form L z
found_line Form read L n z go t reads e later =
    let x = line_ok n (read z) go t e in
    let f = reads.takes z x.0.0 x.0.1 x.1 in
    (x.0.0, f.0, x.0.1, f.1, later x.0 x.2, f.2)

found_entries : (h : Header) (script : Bytes) (t : TraceValue) (n line : ℕ) (z : Bytes) → as_trace h script (read_entries h.1.1.1 n line z) ≡ Ok t → EntriesOf h script t n z
unfolding made
found_entries h script t n line z e =
    let j = trace_ok h script (read_entries h.1.1.1 n line z) t e in
    let k = entries_found h.1.1.1 n line z j.0 j.1 in
    (j.0, k.0, k.1, j.2)

found_count : (h : Header) (script : Bytes) (t : TraceValue) (line : ℕ) (z : Bytes) → read_count h script line z ≡ Ok t → CountOf h script t z
unfolding read_count
found_count h script t line z e =
    found_line IsCount count_at (EntriesOf h script t) line z (λ (x : ℕ × Bytes). as_trace h script (read_entries h.1.1.1 x.0 (suc line) x.1)) t count_reads e (λ x q. found_entries h script t x.0 (suc line) x.1 q)

found_script : (h : Header) (len : ℕ) (t : TraceValue) (z : Bytes) → read_script h len z ≡ Ok t → ScriptOf h t len z
unfolding read_script
found_script h len t z e =
    found_line (IsScript len) (script_at len) (λ s. CountOf h s t) (7 + newlines (take len z)) z (λ (x : Bytes × Bytes). read_count h x.0 (8 + newlines x.0) x.1) t (script_reads len) e (λ x q. found_count h x.0 t (8 + newlines x.0) x.1 q)

found_length : (h : Header) (t : TraceValue) (z : Bytes) → read_length h z ≡ Ok t → LengthOf h t z
unfolding read_length
found_length h t z e =
    found_line IsLength length_at (ScriptOf h t) 6 z (λ (x : ℕ × Bytes). read_script h x.0 x.1) t length_reads e (λ x q. found_script h x.0 t x.1 q)

found_events : (sizes : ℕ × ℕ) (words : List ℕ) (turns : ℕ) (t : TraceValue) (z : Bytes) → read_events sizes words turns z ≡ Ok t → EventsOf sizes words t turns z
unfolding read_events
found_events sizes words turns t z e =
    found_line IsEvents events_at (λ most. LengthOf (sizes, (words, (turns, most))) t) 5 z (λ (x : ℕ × Bytes). read_length (sizes, (words, (turns, x.0))) x.1) t events_reads e (λ x q. found_length (sizes, (words, (turns, x.0))) t x.1 q)

found_turns : (sizes : ℕ × ℕ) (words : List ℕ) (t : TraceValue) (z : Bytes) → read_turns sizes words z ≡ Ok t → TurnsOf sizes t words z
unfolding read_turns
found_turns sizes words t z e =
    found_line IsTurns turns_at (EventsOf sizes words t) 4 z (λ (x : ℕ × Bytes). read_events sizes words x.0 x.1) t turns_reads e (λ x q. found_events sizes words x.0 t x.1 q)

found_seed : (sizes : ℕ × ℕ) (t : TraceValue) (z : Bytes) → read_seed sizes z ≡ Ok t → SeedOf t sizes z
unfolding read_seed
found_seed sizes t z e =
    found_line IsSeed seed_at (TurnsOf sizes t) 3 z (λ (x : List ℕ × Bytes). read_turns sizes x.0 x.1) t seed_reads e (λ x q. found_turns sizes x.0 t x.1 q)

found_threads : (t : TraceValue) (z : Bytes) → read_threads z ≡ Ok t → ThreadsOf t z
unfolding read_threads
found_threads t z e =
    found_line IsThreads threads_at (SeedOf t) 2 z (λ (x : (ℕ × ℕ) × Bytes). read_seed x.0 x.1) t threads_reads e (λ x q. found_seed x.0 t x.1 q)

found_all : (t : TraceValue) (z : Bytes) → read_text z ≡ Ok t → AllOf t z
unfolding read_text
found_all t z e =
    found_line IsFormat format_at (λ n. ThreadsOf t) 1 z (λ (x : ℕ × Bytes). read_threads x.1) t format_reads e (λ x q. found_threads t x.1 q)

gathered : (t : TraceValue) (z : Bytes) → AllOf t z → IsTraceText t z
unfolding made
gathered t z a =
    let b = a.4 in let c = b.4 in let d = c.4 in let f = d.4 in let g = f.4 in let h = g.4 in let i = h.4 in let k = i.4 in
    let one : a.0 ≡ 1 = omega (arith, a.3.form.form.low, a.3.form.form.high) in
    subst (λ (x : TraceValue). IsTraceText x z) k.3 (record {
      format_line = a.1;
      format = subst (λ (n : ℕ). IsFormat n a.1) one a.3;
      threads_line = b.1;
      threads = b.3;
      seed_line = c.1;
      seed = c.3;
      turns_line = d.1;
      turns = d.3;
      events_line = f.1;
      events = f.3;
      length_line = g.1;
      script_length = subst (λ (n : ℕ). IsLength n g.1) (sym h.3.length) g.3;
      script_lines = h.1;
      script = subst (λ (n : ℕ). IsScript n h.0 h.1) (sym h.3.length) h.3;
      count_line = i.1;
      count = subst (λ (n : ℕ). IsCount n i.1) (sym k.1) i.3;
      entry_lines = i.2;
      entries = k.2;
      is = a.5 ∙ ap (λ (x : Bytes). a.1 ++ x) (b.5 ∙ ap (λ (x : Bytes). b.1 ++ x) (c.5 ∙ ap (λ (x : Bytes). c.1 ++ x) (d.5 ∙ ap (λ (x : Bytes). d.1 ++ x) (f.5 ∙ ap (λ (x : Bytes). f.1 ++ x) (g.5 ∙ ap (λ (x : Bytes). g.1 ++ x) (h.5 ∙ ap (λ (x : Bytes). h.1 ++ x) i.5))))));
    })

pub found : (z : Bytes) (t : TraceValue) → read_text z ≡ Ok t → IsTraceText t z
found z t e = gathered t z (found_all t z e)

line_at : {A B : Type 0} (n : ℕ) (o : Option A) (go : A → Result B ℕ) (x : A) → o ≡ Some x → at_line n o go ≡ go x
line_at {A} n o go x e = ap (λ (p : Option A). at_line n p go) e

pub again : (t : TraceValue) (z : Bytes) → IsTraceText t z → read_text z ≡ Ok t
unfolding read_text read_threads read_seed read_turns read_events read_length read_script read_count
again t z f =
    let r8 = f.entry_lines in
    let r7 = f.count_line ++ r8 in
    let r6 = f.script_lines ++ r7 in
    let r5 = f.length_line ++ r6 in
    let r4 = f.events_line ++ r5 in
    let r3 = f.turns_line ++ r4 in
    let r2 = f.seed_line ++ r3 in
    let r1 = f.threads_line ++ r2 in
    let sizes : ℕ × ℕ = (t.sizes.default, t.sizes.interactive) in
    let u = t.limits.turns in
    let h : Header = (sizes, (t.seeds.words, (u, t.limits.events))) in
    line_at 1 (format_at z) (λ (x : ℕ × Bytes). read_threads x.1) (1, r1) (ap format_at f.is ∙ format_reads.again 1 f.format_line r1 f.format)
    ∙ line_at 2 (threads_at r1) (λ (x : (ℕ × ℕ) × Bytes). read_seed x.0 x.1) (sizes, r2) (threads_reads.again sizes f.threads_line r2 f.threads)
    ∙ line_at 3 (seed_at r2) (λ (x : List ℕ × Bytes). read_turns sizes x.0 x.1) (t.seeds.words, r3) (seed_reads.again t.seeds.words f.seed_line r3 f.seed)
    ∙ line_at 4 (turns_at r3) (λ (x : ℕ × Bytes). read_events sizes t.seeds.words x.0 x.1) (u, r4) (turns_reads.again u f.turns_line r4 f.turns)
    ∙ line_at 5 (events_at r4) (λ (x : ℕ × Bytes). read_length (sizes, (t.seeds.words, (u, x.0))) x.1) (t.limits.events, r5) (events_reads.again t.limits.events f.events_line r5 f.events)
    ∙ line_at 6 (length_at r5) (λ (x : ℕ × Bytes). read_script h x.0 x.1) (length t.script, r6) (length_reads.again (length t.script) f.length_line r6 f.script_length)
    ∙ line_at (7 + newlines (take (length t.script) r6)) (script_at (length t.script) r6) (λ (x : Bytes × Bytes). read_count h x.0 (8 + newlines x.0) x.1) (t.script, r7) ((script_reads (length t.script)).again t.script f.script_lines r7 f.script)
    ∙ line_at (8 + newlines t.script) (count_at r7) (λ (x : ℕ × Bytes). as_trace h t.script (read_entries t.limits.events x.0 (suc (8 + newlines t.script)) x.1)) (length t.entries, r8) (count_reads.again (length t.entries) f.count_line r8 f.count)
    ∙ ap (as_trace h t.script) (entries_again t.limits.events t.entries (suc (8 + newlines t.script)) r8 f.entries)

-- the text of a trace in the words of its lines, one after another
pub text_parts : (z : Bytes) → IsText z → TraceText z
text_parts z x =
    let t = x.0 in let f = x.1 in (
      1,
      f.format_line,
      f.threads_line ++ (f.seed_line ++ (f.turns_line ++ (f.events_line ++ (f.length_line ++ (f.script_lines ++ (f.count_line ++ f.entry_lines)))))),
      f.format,
      (
        (t.sizes.default, t.sizes.interactive),
        f.threads_line,
        f.seed_line ++ (f.turns_line ++ (f.events_line ++ (f.length_line ++ (f.script_lines ++ (f.count_line ++ f.entry_lines))))),
        f.threads,
        (
          t.seeds.words,
          f.seed_line,
          f.turns_line ++ (f.events_line ++ (f.length_line ++ (f.script_lines ++ (f.count_line ++ f.entry_lines)))),
          f.seed,
          (
            t.limits.turns,
            f.turns_line,
            f.events_line ++ (f.length_line ++ (f.script_lines ++ (f.count_line ++ f.entry_lines))),
            f.turns,
            (
              t.limits.events,
              f.events_line,
              f.length_line ++ (f.script_lines ++ (f.count_line ++ f.entry_lines)),
              f.events,
              (
                length t.script,
                f.length_line,
                f.script_lines ++ (f.count_line ++ f.entry_lines),
                f.script_length,
                (
                  t.script,
                  f.script_lines,
                  f.count_line ++ f.entry_lines,
                  f.script,
                  (length t.entries, f.count_line, f.entry_lines, f.count, entries_text t.limits.events t.entries f.entry_lines f.entries, refl),
                  refl,
                ),
                refl,
              ),
              refl,
            ),
            refl,
          ),
          refl,
        ),
        refl,
      ),
      f.is,
    )
  where
    entries_text : (most : ℕ) (es : List Entry) (w : Bytes) → AreEntries most es w → EntriesText most (length es) w
    entries_text most [] w a = a
    entries_text most (e ∷ es) w a = (e, a.0, a.1, a.2, entries_text most es a.1 a.3, a.4)

entries_whole : (most n : ℕ) (w : Bytes) → EntriesText most n w → (es : List Entry) × (length es ≡ n) × AreEntries most es w
entries_whole most zero w e = ([], refl, e)
entries_whole most (suc n) w e = let r = entries_whole most n e.2 e.4 in (e.0 ∷ r.0, ap suc r.1, (e.1, e.2, e.3, r.2, e.5))

pub text_whole : (z : Bytes) → TraceText z → IsText z
text_whole z a =
    let b = a.4 in let c = b.4 in let d = c.4 in let f = d.4 in let g = f.4 in let h = g.4 in let i = h.4 in
    let k = entries_whole f.0 i.0 i.2 i.4 in
    let one : a.0 ≡ 1 = omega (arith, a.3.form.form.low, a.3.form.form.high) in (
      record { sizes = record { default = b.0.0; interactive = b.0.1 }; seeds = record { words = c.0 }; limits = record { turns = d.0; events = f.0 }; script = h.0; entries = k.0 },
      record {
        format_line = a.1;
        format = subst (λ (n : ℕ). IsFormat n a.1) one a.3;
        threads_line = b.1;
        threads = b.3;
        seed_line = c.1;
        seed = c.3;
        turns_line = d.1;
        turns = d.3;
        events_line = f.1;
        events = f.3;
        length_line = g.1;
        script_length = subst (λ (n : ℕ). IsLength n g.1) (sym h.3.length) g.3;
        script_lines = h.1;
        script = subst (λ (n : ℕ). IsScript n h.0 h.1) (sym h.3.length) h.3;
        count_line = i.1;
        count = subst (λ (n : ℕ). IsCount n i.1) (sym k.1) i.3;
        entry_lines = i.2;
        entries = k.2;
        is = a.5 ∙ ap (λ (x : Bytes). a.1 ++ x) (b.5 ∙ ap (λ (x : Bytes). b.1 ++ x) (c.5 ∙ ap (λ (x : Bytes). c.1 ++ x) (d.5 ∙ ap (λ (x : Bytes). d.1 ++ x) (f.5 ∙ ap (λ (x : Bytes). f.1 ++ x) (g.5 ∙ ap (λ (x : Bytes). g.1 ++ x) (h.5 ∙ ap (λ (x : Bytes). h.1 ++ x) i.5))))));
      },
    )

-- ---- the laws of the relation

-- no text is one of two traces
pub one_trace : (t u : TraceValue) (z : Bytes) → IsTraceText t z → IsTraceText u z → t ≡ u
one_trace t u z f g = ok_of t u (sym (again t z f) ∙ again u z g)
  where
    ok_of : (x y : TraceValue) → ◌≡◌ {A = Result TraceValue ℕ} (Ok x) (Ok y) → x ≡ y
    ok_of x y e = cc

same_kind : (T U : Bytes → Type 0) (n : ℕ) (z : Bytes) → ((w : Bytes) → T w → U w) → ((w : Bytes) → U w → T w) → StopsAfter T n z → StopsAfter U n z
same_kind T U n z to back s = record {
  begins = (s.begins.0, to s.begins.0 s.begins.1, s.begins.2);
  no_more = λ b. s.no_more (b.0, back b.0 b.1, b.2);
  no_text = λ u. s.no_text (back z u);
}

-- what isn't read stops being a trace's text at the line that is told
pub told_line : (z : Bytes) (m : ℕ) → IsUtf8 z → read_text z ≡ Err m → IsFirstBad IsText m z
told_line z m u e = let b = first_bad z m u e in (b.0, b.1, same_kind TraceText IsText b.0 z text_whole text_parts b.2)
