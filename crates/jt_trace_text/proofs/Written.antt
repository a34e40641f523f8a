-- A trace that has a text has the one that is written.
use Rattle.std.proofs.Common.{◌≡◌, ℕ, ◌<◌, ◌^◌, true, List, [], ◌∷◌, ◌++◌, length, sym, ap, subst, ◌∙◌, append_assoc}
use Rattle.std.specs.Prelude.{decimal, codes}
use Rattle.std.specs.Str.{all_ascii_digits}
use Rattle.std.proofs.lemmas.Bool.{ltb-true}
use Rattle.std.proofs.lemmas.Fmt.{decimal-digits_value}
use Rattle.std.proofs.lemmas.Str.Parse.{numerals_by_value, tells_all_ascii_digits}
use Rattle.jt_base.specs.declared.entry.Entry.{Entry}
use Rattle.jt_trace_text.specs.Lines.{Bytes}
use Rattle.jt_trace_text.specs.Forms.{IsBehind}
use Rattle.jt_trace_text.specs.Entries.{AreEntries}
use Rattle.jt_trace_text.specs.Texts.{TraceValue, IsNumberField, IsThreads, SeedWords, words_of, IsSeedWords, IsSeed, IsDigits, IsCount, IsTraceText, HasText}
use Rattle.jt_trace_text.specs.Written.{ended, numbered, threads_text, seed_text, entries_text, trace_text}
use Rattle.jt_trace_text.proofs.OneText.{leading_zero}

both : {p q r s : Bytes} → p ≡ q → r ≡ s → p ++ r ≡ q ++ s
both p q = cc

is_ended : (ending low high n : ℕ) (l : Bytes) → IsNumberField ending low high n l → l ≡ ended ending n
is_ended ending low high n l f = f.is ∙ ap (λ (w : Bytes). w ++ ending ∷ []) f.form.is

is_numbered : (word : Bytes) (low high n : ℕ) (l : Bytes) → IsBehind word (IsNumberField 10 low high) n l → l ≡ numbered word n
is_numbered word low high n l f = f.is ∙ ap (λ (w : Bytes). word ++ w) (is_ended 10 low high n f.rest f.form)

is_threads : (n m : ℕ) (l : Bytes) → IsThreads (n, m) l → l ≡ codes "threads " ++ (ended 44 n ++ ended 10 m)
is_threads n m l f = f.is ∙ ap (λ (w : Bytes). codes "threads " ++ w) (f.form.is ∙ both (is_ended 44 1 64 n f.form.front f.form.first) (is_ended 10 0 16 m f.form.back f.form.second))

is_seed_words : (words : SeedWords) (l : Bytes) → IsSeedWords words l → l ≡ seed_text (words_of words)
is_seed_words words l f =
    let a = f.form in let b = a.second in let c = b.second in let d = c.second in
    let most : ℕ = 18446744073709551615 in
    f.is ∙ ap (λ (w : Bytes). codes "seed " ++ w)
    (a.is ∙ both (is_ended 44 0 most words.0 a.front a.first)
    (b.is ∙ both (is_ended 44 0 most words.1.0 b.front b.first)
    (c.is ∙ both (is_ended 44 0 most words.1.1.0 c.front c.first)
    (d.is ∙ both (is_ended 44 0 most words.1.1.1.0 d.front d.first) (is_ended 10 0 most words.1.1.1.1 d.back d.second)))))

is_seed : (words : List ℕ) (l : Bytes) → IsSeed words l → l ≡ seed_text words
is_seed words l f = is_seed_words f.parts l f.line ∙ ap seed_text (sym f.same)

pub is_decimal : (n : ℕ) (w : Bytes) → n < 2 ^ 64 → IsDigits n w → w ≡ decimal n
is_decimal n w small f =
    sym (decimal-digits_value (numerals_by_value (λ ds. all_ascii_digits ds ≡ true) tells_all_ascii_digits) w f.digits (ltb-true 0 (length w) f.some) (leading_zero w f.leading) (subst (λ (k : ℕ). k < 2 ^ 64) f.value small))
    ∙ ap decimal (sym f.value)

is_count : (n : ℕ) (l : Bytes) → n < 2 ^ 64 → IsCount n l → l ≡ numbered (codes "entries ") n
is_count n l small f = f.is ∙ ap (λ (w : Bytes). codes "entries " ++ w) (f.form.is ∙ ap (λ (w : Bytes). w ++ 10 ∷ []) (is_decimal n f.form.word small f.form.form))

are_entries : (most : ℕ) (es : List Entry) (w : Bytes) → AreEntries most es w → w ≡ entries_text es
are_entries most [] w f = f
are_entries most (e ∷ es) w f = f.4 ∙ both f.2.is (are_entries most es f.1 f.3)

regroup : (a b c d e f g h i : Bytes) → a ++ (b ++ (c ++ (d ++ (e ++ (f ++ (g ++ (h ++ i))))))) ≡ (a ++ (b ++ (c ++ (d ++ e)))) ++ ((f ++ g) ++ (h ++ i))
regroup a b c d e f g h i = simp append_assoc

is_text : (t : TraceValue) (z : Bytes) → length t.entries < 2 ^ 64 → IsTraceText t z → z ≡ trace_text t
is_text t z small f =
    f.is
    ∙ both (is_numbered (codes "julia-tasks trace ") 1 1 1 f.format_line f.format)
    (both (is_threads t.sizes.default t.sizes.interactive f.threads_line f.threads)
    (both (is_seed t.seeds.words f.seed_line f.seed)
    (both (is_numbered (codes "max-turns ") 1 1000000000 t.limits.turns f.turns_line f.turns)
    (both (is_numbered (codes "max-events ") 1 262144 t.limits.events f.events_line f.events)
    (both (is_numbered (codes "script ") 0 1048576 (length t.script) f.length_line f.script_length)
    (both f.script.is
    (both (is_count (length t.entries) f.count_line small f.count)
    (are_entries t.limits.events t.entries f.entry_lines f.entries))))))))
    ∙ regroup (numbered (codes "julia-tasks trace ") 1) (threads_text t.sizes) (seed_text t.seeds.words) (numbered (codes "max-turns ") t.limits.turns) (numbered (codes "max-events ") t.limits.events)
    (numbered (codes "script ") (length t.script)) (t.script ++ 10 ∷ []) (numbered (codes "entries ") (length t.entries)) (entries_text t.entries)

pub written : (t : TraceValue) → length t.entries < 2 ^ 64 → HasText t → IsTraceText t (trace_text t)
written t small f = subst (λ (z : Bytes). IsTraceText t z) (is_text t f.0 small f.1) f.1
