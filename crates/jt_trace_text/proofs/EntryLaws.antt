-- The line of an entry is read just where it is written so.
use Rattle.std.proofs.Common.{◌≡◌, ℕ, ◌≤◌, Bool, true, false, List, [], ◌∷◌, ◌++◌, Option, Some, None, refl, sym, ap, subst, ◌∙◌, append_assoc, arith}
use Rattle.std.specs.Prelude.{option_map, option_and_then, codes, decimal, ℤ}
use Rattle.std.specs.Fmt.{signed_decimal}
use Rattle.jt_base.specs.declared.entry.Entry.{Entry}
use Rattle.jt_base.specs.declared.name.Name.{Name}
use Rattle.jt_base.specs.declared.operation.Op.{Op}
use Rattle.jt_base.specs.declared.operation.Op.TheVariants as op
use Rattle.jt_base.specs.declared.operation.Reply.{Reply}
use Rattle.jt_base.specs.declared.operation.Reply.TheVariants as reply
use Rattle.jt_base.specs.declared.value.Kind.TheVariants as kind
use Rattle.jt_base.specs.declared.value.Value.{Value}
use Rattle.jt_base.specs.declared.value.Value.TheVariants as value
use Rattle.jt_trace_text.specs.declared.keywords.ObjectWord.{ObjectWord}
use Rattle.jt_trace_text.specs.declared.keywords.NumberWord.{NumberWord}
use Rattle.jt_trace_text.specs.Lines.{Bytes}
use Rattle.jt_trace_text.specs.Forms.{IsField, IsTwoParts, IsBehind}
use Rattle.jt_trace_text.specs.Readers.{cut, lacks, field, lookup, pair_at, ReadsWord, ReadsForm, AreLines}
use Rattle.jt_trace_text.specs.Words.{most_u64, IsDecimal, IsInt, flag_text, path_text, IsPath, name_text, IsNameWord, hex_text, IsHex, how_text, IsHow, value_text, IsValue, fault_text, IsFault}
use Rattle.jt_trace_text.specs.WordReaders.{number_in, int_of, flags, flag_of, path_of, name_of, text_of, how_of, value_of, fault_of}
use Rattle.jt_trace_text.specs.Operations.{spaced, most_capacity, operation_text, FitsOperation, IsOperation}
use Rattle.jt_trace_text.specs.Entries.{reply_text, is_fetch, FitsReply, IsReply, entry_line, IsEntry}
use Rattle.jt_trace_text.specs.EntryReaders.{object_words, object_word_of, event_word_of, last_word_of, object_operation, number_words, number_word_of, number_operation, one_argument, two_arguments, three_arguments, object_at, number_at, end_at, fail_at, spawn_at, fetch_at, wait_at, print_at, channel_at, event_at, notify_at, semaphore_at, landed_at, exchange_at, other_at, task_at, number_or_task, object_or_other, operation_by, operation_at, plain_replies, plain_reply_of, flag_or_int, plain_or_other, reply_of, reply_at, OperationParts, entry_of, parts_at, entry_at}
use Rattle.jt_trace_text.proofs.Fronts.{map_some}
use Rattle.jt_trace_text.proofs.Pieces.{then_some, pair_is, some_is, pair_reads, behind_reads, field_reads, cut_takes, by_word, Each, lookup_takes, lookup_none, lacks-append}
use Rattle.jt_trace_text.proofs.Numbers.{number_reads, int_reads, int_free, no_letters, decimal_lacks}
use Rattle.jt_trace_text.proofs.WordLaws.{IsFlag, flag_reads, flag_free, path_reads, path_free, name_reads, name_free, hex_reads, hex_free, how_reads, how_free, value_reads, value_free, fault_reads, fault_free}
use Rattle.jt_trace_text.proofs.IsLines.{is_line, line_behind}

-- ---- arguments

abbrev Arg : {A : Type 0} → (A → Bytes → Type 0) → A → Bytes → Type 0
Arg Form = IsField 32 Form

values : ReadsForm (Arg IsValue) (field 32 value_of)
values = field_reads 32 IsValue value_of value_reads (λ v w f. value_free 32 v w (omega arith) f)

faults : ReadsForm (Arg IsFault) (field 32 fault_of)
faults = field_reads 32 IsFault fault_of fault_reads (λ v w f. fault_free 32 v w (omega arith) (omega arith) f)

hexes : ReadsForm (Arg IsHex) (field 32 text_of)
hexes = field_reads 32 IsHex text_of hex_reads (λ t w f. hex_free 32 t w (omega arith) (omega arith) f)

names : ReadsForm (Arg IsNameWord) (field 32 name_of)
names = field_reads 32 IsNameWord name_of name_reads (λ n w f. name_free 32 n w (omega arith) f)

ints : ReadsForm (Arg IsInt) (field 32 int_of)
ints = field_reads 32 IsInt int_of int_reads (λ z w f. int_free 32 z w (omega arith) f)

flag_args : ReadsForm (Arg IsFlag) (field 32 flag_of)
flag_args = field_reads 32 IsFlag flag_of flag_reads (λ b w f. flag_free 32 b w (omega arith) f)

paths : ReadsForm (Arg IsPath) (field 32 path_of)
paths = field_reads 32 IsPath path_of path_reads (λ p w f. path_free 32 p w (omega arith) f)

hows : ReadsForm (Arg IsHow) (field 32 how_of)
hows = field_reads 32 IsHow how_of how_reads (λ h w f. how_free 32 h w (omega arith) f)

numbers : (low high : ℕ) → ReadsForm (Arg (IsDecimal low high)) (field 32 (number_in low high))
numbers low high = field_reads 32 (IsDecimal low high) (number_in low high) (number_reads low high) (λ n w f. ap (lacks 32) f.is ∙ decimal_lacks 32 n (omega arith) f.small)

-- what the word of an operation and its arguments give
abbrev Taken : Bytes → Op → Bytes → Bytes → Type 0
Taken w o z rest = (l : Bytes) × IsOperation o l × (w ++ (32 ∷ z) ≡ l ++ rest)

taken_by : (w key : Bytes) (o : Op) (z rest : Bytes) → w ≡ key → Taken key o z rest → Taken w o z rest
taken_by w key o z rest same t = subst (λ (x : Bytes). Taken x o z rest) (sym same) t

one_takes : {A : Type 0} (key : Bytes) (Form : A → Bytes → Type 0) (read : Bytes → Option A) (make : A → Op) (text : A → Bytes) → ReadsForm (Arg Form) (field 32 read)
    → ((v : A) (w : Bytes) → Form v w → (w ≡ text v) × IsOperation (make v) (key ++ (32 ∷ (text v ++ (32 ∷ [])))))
    → (z rest : Bytes) (o : Op) → one_argument make read z ≡ Some (o, rest) → Taken key o z rest
one_takes {A} key Form read make text reads forms z rest o e =
    let x = map_some (λ (x : A × Bytes). (make x.0, x.1)) (field 32 read z) (o, rest) e in
    let t = reads.takes z x.0.0 x.0.1 x.1 in
    let f = forms x.0.0 t.1.word t.1.form in
    let both = pair_is (make x.0.0) o x.0.1 rest x.2 in
    let l = key ++ (32 ∷ (text x.0.0 ++ (32 ∷ []))) in
    let arg : t.0 ≡ text x.0.0 ++ (32 ∷ []) = t.1.is ∙ ap (λ (y : Bytes). y ++ (32 ∷ [])) f.0 in (
      l,
      subst (λ (p : Op). IsOperation p l) both.0 f.1,
      ap (λ (y : Bytes). key ++ (32 ∷ y)) (t.2 ∙ ap (λ (y : Bytes). y ++ x.0.1) arg ∙ ap (λ (y : Bytes). (text x.0.0 ++ (32 ∷ [])) ++ y) both.1) ∙ sym (append_assoc key (32 ∷ (text x.0.0 ++ (32 ∷ []))) rest),
    )

-- with the first arguments in the word
two_takes : {A B : Type 0} (key : Bytes) (First : A → Bytes → Type 0) (Second : B → Bytes → Type 0) (first : Bytes → Option A) (second : Bytes → Option B) (make : A → B → Op) (one : A → Bytes) (two : B → Bytes)
    → ReadsForm (Arg First) (field 32 first) → ReadsForm (Arg Second) (field 32 second)
    → ((v : A) (u : B) (w x : Bytes) → First v w → Second u x → (w ≡ one v) × ((x ≡ two u) × IsOperation (make v u) (key ++ (32 ∷ ((one v ++ (32 ∷ [])) ++ (two u ++ (32 ∷ [])))))))
    → (z rest : Bytes) (o : Op) → two_arguments make first second z ≡ Some (o, rest) → Taken key o z rest
two_takes {A} {B} key First Second first second make one two reads1 reads2 forms z rest o e =
    let x = then_some (λ (x : A × Bytes). one_argument (make x.0) second x.1) (field 32 first z) (o, rest) e in
    let y = map_some (λ (y : B × Bytes). (make x.0.0 y.0, y.1)) (field 32 second x.0.1) (o, rest) x.2 in
    let t = reads1.takes z x.0.0 x.0.1 x.1 in
    let u = reads2.takes x.0.1 y.0.0 y.0.1 y.1 in
    let f = forms x.0.0 y.0.0 t.1.word u.1.word t.1.form u.1.form in
    let both = pair_is (make x.0.0 y.0.0) o y.0.1 rest y.2 in
    let a = one x.0.0 ++ (32 ∷ []) in
    let b = two y.0.0 ++ (32 ∷ []) in
    let l = key ++ (32 ∷ (a ++ b)) in
    let first-is : t.0 ≡ a = t.1.is ∙ ap (λ (w : Bytes). w ++ (32 ∷ [])) f.0 in
    let second-is : u.0 ≡ b = u.1.is ∙ ap (λ (w : Bytes). w ++ (32 ∷ [])) f.1.0 in (
      l,
      subst (λ (p : Op). IsOperation p l) both.0 f.1.1,
      ap (λ (w : Bytes). key ++ (32 ∷ w)) (t.2 ∙ ap (λ (w : Bytes). w ++ x.0.1) first-is ∙ ap (λ (w : Bytes). a ++ w) (u.2 ∙ ap (λ (w : Bytes). w ++ y.0.1) second-is ∙ ap (λ (w : Bytes). b ++ w) both.1) ∙ sym (append_assoc a b rest)) ∙ sym (append_assoc key (32 ∷ (a ++ b)) rest),
    )

-- of the conditional exchange
exchange_takes : (z rest : Bytes) (o : Op) → exchange_at z ≡ Some (o, rest) → Taken (codes "acas") o z rest
unfolding exchange_at
exchange_takes z rest o e =
    let x = then_some (λ (x : Name × Bytes). two_arguments (λ y u. op.ACas x.0 y u) int_of int_of x.1) (field 32 name_of z) (o, rest) e in
    let t = names.takes z x.0.0 x.0.1 x.1 in
    let key = codes "acas" ++ (32 ∷ name_text x.0.0) in
    let f = t.1.form in
    let g = two_takes key IsInt IsInt int_of int_of (λ y u. op.ACas x.0.0 y u) signed_decimal signed_decimal ints ints
    (λ v u w w2 p q. (
      p.is,
      (
        q.is,
        record {
          fits = (record { path = f.path; number = f.number; is = refl }, record { fits = p.fits; is = refl }, record { fits = q.fits; is = refl });
          is = ap (λ (y : Bytes). codes "acas " ++ y) (sym (append_assoc (name_text x.0.0) (32 ∷ []) ((signed_decimal v ++ (32 ∷ [])) ++ (signed_decimal u ++ (32 ∷ [])))));
        },
      ),
    )) x.0.1 rest o x.2 in
    (g.0, g.1, ap (λ (y : Bytes). codes "acas" ++ (32 ∷ y)) (t.2 ∙ ap (λ (y : Bytes). y ++ x.0.1) (t.1.is ∙ ap (λ (y : Bytes). y ++ (32 ∷ [])) f.is) ∙ append_assoc (name_text x.0.0) (32 ∷ []) x.0.1) ∙ g.2)

-- ---- by the word of the operation

abbrev ObjectTakes : Bytes → ObjectWord → Type 0
ObjectTakes w k = (n : Name) → IsNameWord n (name_text n) → IsOperation (object_operation k n) (w ++ (32 ∷ (name_text n ++ (32 ∷ []))))

object_each : Each ObjectTakes object_words
object_each = ((λ n f. record { fits = f; is = refl }), ((λ n f. record { fits = f; is = refl }), ((λ n f. record { fits = f; is = refl }), ((λ n f. record { fits = f; is = refl }), ((λ n f. record { fits = f; is = refl }), ((λ n f. record { fits = f; is = refl }), ((λ n f. record { fits = f; is = refl }), ((λ n f. record { fits = f; is = refl }), ((λ n f. record { fits = f; is = refl }), ((λ n f. record { fits = f; is = refl }), ((λ n f. record { fits = f; is = refl }), ((λ n f. record { fits = f; is = refl }), ((λ n f. record { fits = f; is = refl }), ((λ n f. record { fits = f; is = refl }), ((λ n f. record { fits = f; is = refl }), ((λ n f. record { fits = f; is = refl }), ((λ n f. record { fits = f; is = refl }), tt)))))))))))))))))

object_takes : (w z rest : Bytes) (k : ObjectWord) (o : Op) → object_word_of w ≡ Some k → object_at k z ≡ Some (o, rest) → Taken w o z rest
unfolding object_word_of event_word_of last_word_of object_at
object_takes w z rest k o is e =
    one_takes w IsNameWord name_of (object_operation k) name_text names
    (λ n x f. (f.is, lookup_takes ObjectTakes object_words w k object_each is n (record { path = f.path; number = f.number; is = refl }))) z rest o e

abbrev NumberTakes : Bytes → NumberWord → Type 0
NumberTakes w k = (n : Name) (z : ℤ) → IsNameWord n (name_text n) → IsInt z (signed_decimal z) → IsOperation (number_operation k n z) (w ++ (32 ∷ ((name_text n ++ (32 ∷ [])) ++ (signed_decimal z ++ (32 ∷ [])))))

number_each : Each NumberTakes number_words
number_each = ((λ n z f g. record { fits = (f, g); is = refl }), ((λ n z f g. record { fits = (f, g); is = refl }), ((λ n z f g. record { fits = (f, g); is = refl }), ((λ n z f g. record { fits = (f, g); is = refl }), ((λ n z f g. record { fits = (f, g); is = refl }), ((λ n z f g. record { fits = (f, g); is = refl }), ((λ n z f g. record { fits = (f, g); is = refl }), tt)))))))

number_takes : (w z rest : Bytes) (k : NumberWord) (o : Op) → number_word_of w ≡ Some k → number_at k z ≡ Some (o, rest) → Taken w o z rest
unfolding number_word_of number_at
number_takes w z rest k o is e =
    two_takes w IsNameWord IsInt name_of int_of (number_operation k) name_text signed_decimal names ints
    (λ n v x y f g. (f.is, (g.is, lookup_takes NumberTakes number_words w k number_each is n v (record { path = f.path; number = f.number; is = refl }) (record { fits = g.fits; is = refl })))) z rest o e

other_takes : (w z rest : Bytes) (o : Op) → other_at w z ≡ Some (o, rest) → Taken w o z rest
unfolding other_at channel_at event_at semaphore_at landed_at notify_at
other_takes w z rest o e =
    by_word (Taken w o z rest) w (codes "newchannel") _ _ (o, rest) e
    (λ same q. taken_by w _ o z rest same (two_takes (codes "newchannel") IsNameWord (IsDecimal 0 most_capacity) name_of (number_in 0 most_capacity) (λ n c. op.NewChannel n c) name_text decimal names (numbers 0 most_capacity)
    (λ n c x y f g. (f.is, (g.is, record { fits = (record { path = f.path; number = f.number; is = refl }, record { small = g.small; low = g.low; high = g.high; is = refl }); is = refl }))) z rest o q)) (λ e.
    by_word (Taken w o z rest) w (codes "newevent") _ _ (o, rest) e
    (λ same q. taken_by w _ o z rest same (two_takes (codes "newevent") IsNameWord IsFlag name_of flag_of (λ n b. op.NewEvent n b) name_text flag_text names flag_args
    (λ n b x y f g. (f.is, (g, record { fits = record { path = f.path; number = f.number; is = refl }; is = refl }))) z rest o q)) (λ e.
    by_word (Taken w o z rest) w (codes "newsemaphore") _ _ (o, rest) e
    (λ same q. taken_by w _ o z rest same (two_takes (codes "newsemaphore") IsNameWord (IsDecimal 0 most_u64) name_of (number_in 0 most_u64) (λ n k. op.NewSemaphore n k) name_text decimal names (numbers 0 most_u64)
    (λ n k x y f g. (f.is, (g.is, record { fits = (record { path = f.path; number = f.number; is = refl }, record { small = g.small; low = g.low; high = g.high; is = refl }); is = refl }))) z rest o q)) (λ e.
    by_word (Taken w o z rest) w (codes "landed") _ _ (o, rest) e
    (λ same q. taken_by w _ o z rest same (two_takes (codes "landed") IsNameWord (IsDecimal 0 most_u64) name_of (number_in 0 most_u64) (λ n k. op.Landed n k) name_text decimal names (numbers 0 most_u64)
    (λ n k x y f g. (f.is, (g.is, record { fits = (record { path = f.path; number = f.number; is = refl }, record { small = g.small; low = g.low; high = g.high; is = refl }); is = refl }))) z rest o q)) (λ e.
    by_word (Taken w o z rest) w (codes "cnotify") _ _ (o, rest) e
    (λ same q. taken_by w _ o z rest same (two_takes (codes "cnotify") IsNameWord IsFlag name_of flag_of (λ n b. op.CNotify n b) name_text flag_text names flag_args
    (λ n b x y f g. (f.is, (g, record { fits = record { path = f.path; number = f.number; is = refl }; is = refl }))) z rest o q)) (λ e.
    by_word (Taken w o z rest) w (codes "acas") _ _ (o, rest) e
    (λ same q. taken_by w _ o z rest same (exchange_takes z rest o q)) (λ e. absurd cc))))))

bare : (w : Bytes) (k o : Op) (z rest : Bytes) → IsOperation k (w ++ (32 ∷ [])) → ◌≡◌ {A = Option (Op × Bytes)} (Some (k, z)) (Some (o, rest)) → Taken w o z rest
bare w k o z rest f e =
    let both = pair_is k o z rest (some_is e) in
    (w ++ (32 ∷ []), subst (λ (p : Op). IsOperation p (w ++ (32 ∷ []))) both.0 f, sym (append_assoc w (32 ∷ []) z) ∙ ap (λ (x : Bytes). (w ++ (32 ∷ [])) ++ x) both.1)

task_takes : (w z rest : Bytes) (o : Op) → task_at w z ≡ Some (o, rest) → Taken w o z rest
unfolding task_at end_at fail_at spawn_at fetch_at wait_at print_at
task_takes w z rest o e =
    by_word (Taken w o z rest) w (codes "begin") _ _ (o, rest) e
    (λ same q. taken_by w _ o z rest same (bare (codes "begin") op.Begin o z rest (record { fits = tt; is = refl }) q)) (λ e.
    by_word (Taken w o z rest) w (codes "yield") _ _ (o, rest) e
    (λ same q. taken_by w _ o z rest same (bare (codes "yield") op.Yield o z rest (record { fits = tt; is = refl }) q)) (λ e.
    by_word (Taken w o z rest) w (codes "end") _ _ (o, rest) e
    (λ same q. taken_by w _ o z rest same (one_takes (codes "end") IsValue value_of (λ v. op.End v) value_text values (λ v w f. (f.is, record { fits = record { fits = f.fits; is = refl }; is = refl })) z rest o q)) (λ e.
    by_word (Taken w o z rest) w (codes "fail") _ _ (o, rest) e
    (λ same q. taken_by w _ o z rest same (one_takes (codes "fail") IsFault fault_of (λ f. op.Fail f) fault_text faults (λ v w f. (f.is, record { fits = record { fits = f.fits; is = refl }; is = refl })) z rest o q)) (λ e.
    by_word (Taken w o z rest) w (codes "spawn") _ _ (o, rest) e
    (λ same q. taken_by w _ o z rest same (two_takes (codes "spawn") IsPath IsHow path_of how_of (λ p h. op.Spawn p h) path_text how_text paths hows
    (λ p h w x f g. (f.is, (g.is, record { fits = (record { short = f.short; each = f.each; is = refl }, record { fits = g.fits; is = refl }); is = refl }))) z rest o q)) (λ e.
    by_word (Taken w o z rest) w (codes "fetch") _ _ (o, rest) e
    (λ same q. taken_by w _ o z rest same (one_takes (codes "fetch") IsPath path_of (λ p. op.Fetch p) path_text paths (λ v w f. (f.is, record { fits = record { short = f.short; each = f.each; is = refl }; is = refl })) z rest o q)) (λ e.
    by_word (Taken w o z rest) w (codes "wait") _ _ (o, rest) e
    (λ same q. taken_by w _ o z rest same (one_takes (codes "wait") IsPath path_of (λ p. op.Wait p) path_text paths (λ v w f. (f.is, record { fits = record { short = f.short; each = f.each; is = refl }; is = refl })) z rest o q)) (λ e.
    by_word (Taken w o z rest) w (codes "print") _ _ (o, rest) e
    (λ same q. taken_by w _ o z rest same (one_takes (codes "print") IsHex text_of (λ t. op.Print t) hex_text hexes (λ v w f. (f.is, record { fits = record { text = f.text; is = refl }; is = refl })) z rest o q)) (λ e.
    other_takes w z rest o e))))))))

by_number : (m : Option NumberWord) (w z rest : Bytes) (o : Op) → number_word_of w ≡ m → number_or_task m w z ≡ Some (o, rest) → Taken w o z rest
by_number (Some k) w z rest o is e = number_takes w z rest k o is e
by_number None w z rest o is e = task_takes w z rest o e

by_object : (m : Option ObjectWord) (w z rest : Bytes) (o : Op) → object_word_of w ≡ m → object_or_other m w z ≡ Some (o, rest) → Taken w o z rest
by_object (Some k) w z rest o is e = object_takes w z rest k o is e
by_object None w z rest o is e = by_number (number_word_of w) w z rest o refl e

operation_takes : (w z rest : Bytes) (o : Op) → operation_by w z ≡ Some (o, rest) → Taken w o z rest
unfolding operation_by
operation_takes w z rest o e = by_object (object_word_of w) w z rest o refl e

one_again : {A : Type 0} (make : A → Op) (Form : A → Bytes → Type 0) (read : Bytes → Option A) → ReadsForm (Arg Form) (field 32 read) → (v : A) (w rest : Bytes) → Form v w → one_argument make read ((w ++ (32 ∷ [])) ++ rest) ≡ Some (make v, rest)
one_again {A} make Form read reads v w rest f = ap (option_map (λ (x : A × Bytes). (make x.0, x.1))) (reads.again v (w ++ (32 ∷ [])) rest (record { word = w; form = f; is = refl }))

two_again : {A B : Type 0} (make : A → B → Op) (First : A → Bytes → Type 0) (Second : B → Bytes → Type 0) (first : Bytes → Option A) (second : Bytes → Option B) → ReadsForm (Arg First) (field 32 first) → ReadsForm (Arg Second) (field 32 second)
    → (v : A) (u : B) (w x rest : Bytes) → First v w → Second u x → two_arguments make first second (((w ++ (32 ∷ [])) ++ (x ++ (32 ∷ []))) ++ rest) ≡ Some (make v u, rest)
two_again {A} {B} make First Second first second one two v u w x rest f g =
    let a = one.again v (w ++ (32 ∷ [])) ((x ++ (32 ∷ [])) ++ rest) (record { word = w; form = f; is = refl }) in
    let b = two.again u (x ++ (32 ∷ [])) rest (record { word = x; form = g; is = refl }) in
    ap (λ (z : Bytes). two_arguments make first second z) (append_assoc (w ++ (32 ∷ [])) (x ++ (32 ∷ [])) rest)
    ∙ ap (option_and_then (λ (p : A × Bytes). one_argument (make p.0) second p.1)) a
    ∙ ap (option_map (λ (y : B × Bytes). (make v y.0, y.1))) b

three_again : (n : Name) (y z : ℤ) (rest : Bytes) → IsNameWord n (name_text n) → IsInt y (signed_decimal y) → IsInt z (signed_decimal z)
    → three_arguments (λ n y z. op.ACas n y z) name_of int_of int_of ((spaced (name_text n) ++ (spaced (signed_decimal y) ++ spaced (signed_decimal z))) ++ rest) ≡ Some (op.ACas n y z, rest)
three_again n y z rest f g h =
    let more = (spaced (signed_decimal y) ++ spaced (signed_decimal z)) ++ rest in
    let a = names.again n (spaced (name_text n)) more (record { word = name_text n; form = f; is = refl }) in
    ap (λ (x : Bytes). three_arguments (λ n y z. op.ACas n y z) name_of int_of int_of x) (append_assoc (spaced (name_text n)) (spaced (signed_decimal y) ++ spaced (signed_decimal z)) rest)
    ∙ ap (option_and_then (λ (p : Name × Bytes). two_arguments (λ y z. op.ACas p.0 y z) int_of int_of p.1)) a
    ∙ two_again (λ y z. op.ACas n y z) IsInt IsInt int_of int_of ints ints y z (signed_decimal y) (signed_decimal z) rest g h

operation_again : (o : Op) (rest : Bytes) → FitsOperation o → operation_at (operation_text o ++ rest) ≡ Some (o, rest)
unfolding operation_at operation_by object_word_of event_word_of last_word_of object_at number_word_of number_at task_at end_at fail_at spawn_at fetch_at wait_at print_at other_at channel_at event_at semaphore_at landed_at notify_at exchange_at
operation_again op.Begin rest f = refl
operation_again (op.End v) rest f = one_again (λ v. op.End v) IsValue value_of values v (value_text v) rest f
operation_again (op.Fail x) rest f = one_again (λ x. op.Fail x) IsFault fault_of faults x (fault_text x) rest f
operation_again (op.Spawn p h) rest f = two_again (λ p h. op.Spawn p h) IsPath IsHow path_of how_of paths hows p h (path_text p) (how_text h) rest f.0 f.1
operation_again (op.Fetch p) rest f = one_again (λ p. op.Fetch p) IsPath path_of paths p (path_text p) rest f
operation_again (op.Wait p) rest f = one_again (λ p. op.Wait p) IsPath path_of paths p (path_text p) rest f
operation_again op.Yield rest f = refl
operation_again (op.Print t) rest f = one_again (λ t. op.Print t) IsHex text_of hexes t (hex_text t) rest f
operation_again (op.NewChannel n c) rest f = two_again (λ n c. op.NewChannel n c) IsNameWord (IsDecimal 0 most_capacity) name_of (number_in 0 most_capacity) names (numbers 0 most_capacity) n c (name_text n) (decimal c) rest f.0 f.1
operation_again (op.NewAtomic n z) rest f = two_again (λ n z. op.NewAtomic n z) IsNameWord IsInt name_of int_of names ints n z (name_text n) (signed_decimal z) rest f.0 f.1
operation_again (op.NewEvent n b) rest f = two_again (λ n b. op.NewEvent n b) IsNameWord IsFlag name_of flag_of names flag_args n b (name_text n) (flag_text b) rest f refl
operation_again (op.NewCondition n) rest f = one_again (λ n. op.NewCondition n) IsNameWord name_of names n (name_text n) rest f
operation_again (op.NewLock n) rest f = one_again (λ n. op.NewLock n) IsNameWord name_of names n (name_text n) rest f
operation_again (op.NewSemaphore n k) rest f = two_again (λ n k. op.NewSemaphore n k) IsNameWord (IsDecimal 0 most_u64) name_of (number_in 0 most_u64) names (numbers 0 most_u64) n k (name_text n) (decimal k) rest f.0 f.1
operation_again (op.Put n z) rest f = two_again (λ n z. op.Put n z) IsNameWord IsInt name_of int_of names ints n z (name_text n) (signed_decimal z) rest f.0 f.1
operation_again (op.Offer n z) rest f = two_again (λ n z. op.Offer n z) IsNameWord IsInt name_of int_of names ints n z (name_text n) (signed_decimal z) rest f.0 f.1
operation_again (op.Landed n k) rest f = two_again (λ n k. op.Landed n k) IsNameWord (IsDecimal 0 most_u64) name_of (number_in 0 most_u64) names (numbers 0 most_u64) n k (name_text n) (decimal k) rest f.0 f.1
operation_again (op.Take n) rest f = one_again (λ n. op.Take n) IsNameWord name_of names n (name_text n) rest f
operation_again (op.Next n) rest f = one_again (λ n. op.Next n) IsNameWord name_of names n (name_text n) rest f
operation_again (op.Close n) rest f = one_again (λ n. op.Close n) IsNameWord name_of names n (name_text n) rest f
operation_again (op.IsOpen n) rest f = one_again (λ n. op.IsOpen n) IsNameWord name_of names n (name_text n) rest f
operation_again (op.IsReady n) rest f = one_again (λ n. op.IsReady n) IsNameWord name_of names n (name_text n) rest f
operation_again (op.Notify n) rest f = one_again (λ n. op.Notify n) IsNameWord name_of names n (name_text n) rest f
operation_again (op.Reset n) rest f = one_again (λ n. op.Reset n) IsNameWord name_of names n (name_text n) rest f
operation_again (op.EWait n) rest f = one_again (λ n. op.EWait n) IsNameWord name_of names n (name_text n) rest f
operation_again (op.Lock n) rest f = one_again (λ n. op.Lock n) IsNameWord name_of names n (name_text n) rest f
operation_again (op.Unlock n) rest f = one_again (λ n. op.Unlock n) IsNameWord name_of names n (name_text n) rest f
operation_again (op.CWait n) rest f = one_again (λ n. op.CWait n) IsNameWord name_of names n (name_text n) rest f
operation_again (op.CBack n) rest f = one_again (λ n. op.CBack n) IsNameWord name_of names n (name_text n) rest f
operation_again (op.CNotify n b) rest f = two_again (λ n b. op.CNotify n b) IsNameWord IsFlag name_of flag_of names flag_args n b (name_text n) (flag_text b) rest f refl
operation_again (op.Acquire n) rest f = one_again (λ n. op.Acquire n) IsNameWord name_of names n (name_text n) rest f
operation_again (op.Release n) rest f = one_again (λ n. op.Release n) IsNameWord name_of names n (name_text n) rest f
operation_again (op.AGet n) rest f = one_again (λ n. op.AGet n) IsNameWord name_of names n (name_text n) rest f
operation_again (op.ASet n z) rest f = two_again (λ n z. op.ASet n z) IsNameWord IsInt name_of int_of names ints n z (name_text n) (signed_decimal z) rest f.0 f.1
operation_again (op.AAdd n z) rest f = two_again (λ n z. op.AAdd n z) IsNameWord IsInt name_of int_of names ints n z (name_text n) (signed_decimal z) rest f.0 f.1
operation_again (op.ASub n z) rest f = two_again (λ n z. op.ASub n z) IsNameWord IsInt name_of int_of names ints n z (name_text n) (signed_decimal z) rest f.0 f.1
operation_again (op.AXchg n z) rest f = two_again (λ n z. op.AXchg n z) IsNameWord IsInt name_of int_of names ints n z (name_text n) (signed_decimal z) rest f.0 f.1
operation_again (op.ACas n y z) rest f = three_again n y z rest f.0 f.1 f.2

pub operation_reads : ReadsForm IsOperation operation_at
unfolding operation_at
operation_reads = record {
  takes = λ z o rest e.
      let p = then_some (λ (p : Bytes × Bytes). operation_by p.0 p.1) (cut 32 z) (o, rest) e in
      let t = operation_takes p.0.0 p.0.1 rest o p.2 in
      (t.0, t.1, cut_takes 32 z p.0.0 p.0.1 p.1 ∙ t.2);
  again = λ o l rest f. rw f.is (operation_again o rest f.fits);
}

-- ---- without a newline

one_free : (key w : Bytes) → lacks 10 key ≡ true → lacks 10 w ≡ true → lacks 10 (key ++ spaced w) ≡ true
one_free key w k e = lacks-append 10 key (spaced w) k (lacks-append 10 w (32 ∷ []) e refl)

two_free : (key w x : Bytes) → lacks 10 key ≡ true → lacks 10 w ≡ true → lacks 10 x ≡ true → lacks 10 (key ++ (spaced w ++ spaced x)) ≡ true
two_free key w x k e f = lacks-append 10 key (spaced w ++ spaced x) k (lacks-append 10 (spaced w) (spaced x) (lacks-append 10 w (32 ∷ []) e refl) (lacks-append 10 x (32 ∷ []) f refl))

name_line : (n : Name) → IsNameWord n (name_text n) → lacks 10 (name_text n) ≡ true
name_line n f = name_free 10 n (name_text n) (omega arith) f

int_line : (z : ℤ) → IsInt z (signed_decimal z) → lacks 10 (signed_decimal z) ≡ true
int_line z f = int_free 10 z (signed_decimal z) (omega arith) f

path_line : (p : List ℕ) → IsPath p (path_text p) → lacks 10 (path_text p) ≡ true
path_line p f = path_free 10 p (path_text p) (omega arith) f

flag_line : (b : Bool) → lacks 10 (flag_text b) ≡ true
flag_line b = flag_free 10 b (flag_text b) (omega arith) refl

number_line : (low high n : ℕ) → IsDecimal low high n (decimal n) → lacks 10 (decimal n) ≡ true
number_line low high n f = decimal_lacks 10 n (omega arith) f.small

operation_free : (o : Op) → FitsOperation o → lacks 10 (operation_text o) ≡ true
operation_free op.Begin f = refl
operation_free (op.End v) f = one_free (codes "end ") (value_text v) refl (value_free 10 v (value_text v) (omega arith) f)
operation_free (op.Fail x) f = one_free (codes "fail ") (fault_text x) refl (fault_free 10 x (fault_text x) (omega arith) (omega arith) f)
operation_free (op.Spawn p h) f = two_free (codes "spawn ") (path_text p) (how_text h) refl (path_line p f.0) (how_free 10 h (how_text h) (omega arith) f.1)
operation_free (op.Fetch p) f = one_free (codes "fetch ") (path_text p) refl (path_line p f)
operation_free (op.Wait p) f = one_free (codes "wait ") (path_text p) refl (path_line p f)
operation_free op.Yield f = refl
operation_free (op.Print t) f = one_free (codes "print ") (hex_text t) refl (hex_free 10 t (hex_text t) (omega arith) (omega arith) f)
operation_free (op.NewChannel n c) f = two_free (codes "newchannel ") (name_text n) (decimal c) refl (name_line n f.0) (number_line 0 most_capacity c f.1)
operation_free (op.NewAtomic n z) f = two_free (codes "newatomic ") (name_text n) (signed_decimal z) refl (name_line n f.0) (int_line z f.1)
operation_free (op.NewEvent n b) f = two_free (codes "newevent ") (name_text n) (flag_text b) refl (name_line n f) (flag_line b)
operation_free (op.NewCondition n) f = one_free (codes "newcondition ") (name_text n) refl (name_line n f)
operation_free (op.NewLock n) f = one_free (codes "newlock ") (name_text n) refl (name_line n f)
operation_free (op.NewSemaphore n k) f = two_free (codes "newsemaphore ") (name_text n) (decimal k) refl (name_line n f.0) (number_line 0 most_u64 k f.1)
operation_free (op.Put n z) f = two_free (codes "put ") (name_text n) (signed_decimal z) refl (name_line n f.0) (int_line z f.1)
operation_free (op.Offer n z) f = two_free (codes "offer ") (name_text n) (signed_decimal z) refl (name_line n f.0) (int_line z f.1)
operation_free (op.Landed n k) f = two_free (codes "landed ") (name_text n) (decimal k) refl (name_line n f.0) (number_line 0 most_u64 k f.1)
operation_free (op.Take n) f = one_free (codes "take ") (name_text n) refl (name_line n f)
operation_free (op.Next n) f = one_free (codes "next ") (name_text n) refl (name_line n f)
operation_free (op.Close n) f = one_free (codes "close ") (name_text n) refl (name_line n f)
operation_free (op.IsOpen n) f = one_free (codes "isopen ") (name_text n) refl (name_line n f)
operation_free (op.IsReady n) f = one_free (codes "isready ") (name_text n) refl (name_line n f)
operation_free (op.Notify n) f = one_free (codes "notify ") (name_text n) refl (name_line n f)
operation_free (op.Reset n) f = one_free (codes "reset ") (name_text n) refl (name_line n f)
operation_free (op.EWait n) f = one_free (codes "ewait ") (name_text n) refl (name_line n f)
operation_free (op.Lock n) f = one_free (codes "lock ") (name_text n) refl (name_line n f)
operation_free (op.Unlock n) f = one_free (codes "unlock ") (name_text n) refl (name_line n f)
operation_free (op.CWait n) f = one_free (codes "cwait ") (name_text n) refl (name_line n f)
operation_free (op.CBack n) f = one_free (codes "cback ") (name_text n) refl (name_line n f)
operation_free (op.CNotify n b) f = two_free (codes "cnotify ") (name_text n) (flag_text b) refl (name_line n f) (flag_line b)
operation_free (op.Acquire n) f = one_free (codes "acquire ") (name_text n) refl (name_line n f)
operation_free (op.Release n) f = one_free (codes "release ") (name_text n) refl (name_line n f)
operation_free (op.AGet n) f = one_free (codes "aget ") (name_text n) refl (name_line n f)
operation_free (op.ASet n z) f = two_free (codes "aset ") (name_text n) (signed_decimal z) refl (name_line n f.0) (int_line z f.1)
operation_free (op.AAdd n z) f = two_free (codes "aadd ") (name_text n) (signed_decimal z) refl (name_line n f.0) (int_line z f.1)
operation_free (op.ASub n z) f = two_free (codes "asub ") (name_text n) (signed_decimal z) refl (name_line n f.0) (int_line z f.1)
operation_free (op.AXchg n z) f = two_free (codes "axchg ") (name_text n) (signed_decimal z) refl (name_line n f.0) (int_line z f.1)
operation_free (op.ACas n y z) f = lacks-append 10 (codes "acas ") (spaced (name_text n) ++ (spaced (signed_decimal y) ++ spaced (signed_decimal z))) refl (lacks-append 10 (spaced (name_text n)) (spaced (signed_decimal y) ++ spaced (signed_decimal z)) (one_free [] (name_text n) refl (name_line n f.0)) (two_free [] (signed_decimal y) (signed_decimal z) refl (int_line y f.1) (int_line z f.2)))

-- ---- replies

plain_reply : (fetch : Bool) (r : Reply) (w : Bytes) → FitsReply fetch r → w ≡ reply_text r → IsReply fetch r w
plain_reply fetch r w fits is = record { fits = fits; is = is }

abbrev AnyReply : Bytes → Reply → Type 0
AnyReply w r = (fetch : Bool) → IsReply fetch r w

plain_each : Each AnyReply plain_replies
plain_each = (
  (λ fetch. plain_reply fetch reply.Ok _ tt refl),
  (
    (λ fetch. plain_reply fetch reply.Failed _ tt refl),
    (
      (λ fetch. plain_reply fetch reply.Closed _ tt refl),
      (
        (λ fetch. plain_reply fetch reply.NoItem _ tt refl),
        ((λ fetch. plain_reply fetch reply.NotLocked _ tt refl), ((λ fetch. plain_reply fetch reply.NotOwner _ tt refl), ((λ fetch. plain_reply fetch reply.NotHeld _ tt refl), tt))),
      ),
    ),
  ),
)

flag_or_int_takes : (m : Option Bool) (r : Reply) (w : Bytes) → flag_of w ≡ m → flag_or_int m w ≡ Some r → IsReply false r w
flag_or_int_takes (Some b) r w is e = subst (λ (x : Reply). IsReply false x w) (some_is e) (record { fits = refl; is = flag_reads.takes w b is })
flag_or_int_takes None r w is e =
    let z = map_some (λ (z : ℤ). reply.Int z) (int_of w) r e in
    let f = int_reads.takes w z.0 z.1 in
    subst (λ (x : Reply). IsReply false x w) z.2 (record { fits = (refl, f.fits); is = f.is })

reply_takes : (m : Option Reply) (fetch : Bool) (r : Reply) (w : Bytes) → plain_reply_of w ≡ m → plain_or_other m fetch w ≡ Some r → IsReply fetch r w
unfolding plain_reply_of
reply_takes (Some q) fetch r w is e = subst (λ (x : Reply). IsReply fetch x w) (some_is e) (lookup_takes AnyReply plain_replies w q plain_each is fetch)
reply_takes None true r w is e =
    let v = map_some (λ (v : Value). reply.Val v) (value_of w) r e in
    let f = value_reads.takes w v.0 v.1 in
    subst (λ (x : Reply). IsReply true x w) v.2 (record { fits = (refl, record { fits = f.fits; is = refl }); is = f.is })
reply_takes None false r w is e = flag_or_int_takes (flag_of w) r w refl e

number_is_no_reply : (z : ℤ) → IsInt z (signed_decimal z) → lookup plain_replies (signed_decimal z) ≡ None
number_is_no_reply z f = lookup_none plain_replies (signed_decimal z) (no_letters z f.fits) (omega arith, (omega arith, (omega arith, (omega arith, (omega arith, (omega arith, (omega arith, tt)))))))

value_is_no_reply : (v : Value) → IsValue v (value_text v) → lookup plain_replies (value_text v) ≡ None
value_is_no_reply (value.Int z) f = number_is_no_reply z (record { fits = f.fits; is = refl })
value_is_no_reply (value.Flag true) f = refl
value_is_no_reply (value.Flag false) f = refl
value_is_no_reply value.Nothing f = refl
value_is_no_reply (value.Task p) f = refl
value_is_no_reply (value.Object kind.Channel n) f = refl
value_is_no_reply (value.Object kind.Unbuffered n) f = refl
value_is_no_reply (value.Object kind.Atomic n) f = refl
value_is_no_reply (value.Object kind.Event n) f = refl
value_is_no_reply (value.Object kind.Condition n) f = refl
value_is_no_reply (value.Object kind.Lock n) f = refl
value_is_no_reply (value.Object kind.Semaphore n) f = refl

reply_again : (fetch : Bool) (r : Reply) → FitsReply fetch r → plain_or_other (lookup plain_replies (reply_text r)) fetch (reply_text r) ≡ Some r
unfolding flag_of
reply_again fetch reply.Ok f = refl
reply_again fetch reply.Failed f = refl
reply_again fetch reply.Closed f = refl
reply_again fetch reply.NoItem f = refl
reply_again fetch reply.NotLocked f = refl
reply_again fetch reply.NotOwner f = refl
reply_again fetch reply.NotHeld f = refl
reply_again fetch (reply.Val v) f = rw (value_is_no_reply v f.1, f.0, value_reads.again v (value_text v) f.1) refl
reply_again fetch (reply.Int z) f =
    let i : IsInt z (signed_decimal z) = record { fits = f.1; is = refl } in
    let no_flag = lookup_none flags (signed_decimal z) (no_letters z f.1) (omega arith, (omega arith, tt)) in
    rw (number_is_no_reply z i, f.0, no_flag, int_reads.again z (signed_decimal z) i) refl
reply_again fetch (reply.Flag true) f = rw f refl
reply_again fetch (reply.Flag false) f = rw f refl

pub reply_reads : (fetch : Bool) → ReadsWord (IsReply fetch) (reply_of fetch)
unfolding reply_of plain_reply_of
reply_reads fetch = record {
  takes = λ w r e. reply_takes (plain_reply_of w) fetch r w refl e;
  again = λ r w f. rw f.is (reply_again fetch r f.fits);
}

reply_line : (fetch : Bool) (r : Reply) → FitsReply fetch r → lacks 10 (reply_text r) ≡ true
reply_line fetch reply.Ok f = refl
reply_line fetch reply.Failed f = refl
reply_line fetch reply.Closed f = refl
reply_line fetch reply.NoItem f = refl
reply_line fetch reply.NotLocked f = refl
reply_line fetch reply.NotOwner f = refl
reply_line fetch reply.NotHeld f = refl
reply_line fetch (reply.Val v) f = value_free 10 v (value_text v) (omega arith) f.1
reply_line fetch (reply.Int z) f = int_line z (record { fits = f.1; is = refl })
reply_line fetch (reply.Flag b) f = flag_line b

-- ---- the entry

abbrev AreParts : ℕ → OperationParts → Bytes → Type 0
AreParts most = IsTwoParts (Arg (IsDecimal 1 most)) (λ stamp. IsTwoParts (Arg (IsDecimal 0 4294967295)) (λ worker. IsTwoParts (Arg IsPath) (λ task. IsTwoParts IsOperation (λ o. IsBehind (codes "= ") (IsField 10 (IsReply (is_fetch o)))))))

reply_at_reads : (fetch : Bool) → ReadsForm (IsBehind (codes "= ") (IsField 10 (IsReply fetch))) (reply_at fetch)
unfolding reply_at
reply_at_reads fetch = behind_reads (codes "= ") (IsField 10 (IsReply fetch)) (field 10 (reply_of fetch)) (field_reads 10 (IsReply fetch) (reply_of fetch) (reply_reads fetch) (λ r w f. ap (lacks 10) f.is ∙ reply_line fetch r f.fits))

parts_read : (most : ℕ) → ReadsForm (AreParts most) (parts_at most)
parts_read most =
    pair_reads (Arg (IsDecimal 1 most)) (λ stamp. IsTwoParts (Arg (IsDecimal 0 4294967295)) (λ worker. IsTwoParts (Arg IsPath) (λ task. IsTwoParts IsOperation (λ o. IsBehind (codes "= ") (IsField 10 (IsReply (is_fetch o)))))))
    (field 32 (number_in 1 most)) (λ stamp. pair_at (field 32 (number_in 0 4294967295)) (λ worker. pair_at (field 32 path_of) (λ task. pair_at operation_at (λ o. reply_at (is_fetch o))))) (numbers 1 most) (λ stamp.
    pair_reads (Arg (IsDecimal 0 4294967295)) (λ worker. IsTwoParts (Arg IsPath) (λ task. IsTwoParts IsOperation (λ o. IsBehind (codes "= ") (IsField 10 (IsReply (is_fetch o))))))
    (field 32 (number_in 0 4294967295)) (λ worker. pair_at (field 32 path_of) (λ task. pair_at operation_at (λ o. reply_at (is_fetch o)))) (numbers 0 4294967295) (λ worker.
    pair_reads (Arg IsPath) (λ task. IsTwoParts IsOperation (λ o. IsBehind (codes "= ") (IsField 10 (IsReply (is_fetch o)))))
    (field 32 path_of) (λ task. pair_at operation_at (λ o. reply_at (is_fetch o))) paths (λ task.
    pair_reads IsOperation (λ o. IsBehind (codes "= ") (IsField 10 (IsReply (is_fetch o)))) operation_at (λ o. reply_at (is_fetch o)) operation_reads (λ o.
    reply_at_reads (is_fetch o)))))

from_parts : (most : ℕ) (x : OperationParts) (l : Bytes) → AreParts most x l → IsEntry most (entry_of x) l
from_parts most x l a =
    let b = a.second in let c = b.second in let d = c.second in let e = d.second in
    record {
      stamp = record { small = a.first.form.small; low = a.first.form.low; high = a.first.form.high; is = refl };
      worker = record { small = b.first.form.small; low = b.first.form.low; high = b.first.form.high; is = refl };
      task = record { short = c.first.form.short; each = c.first.form.each; is = refl };
      op = d.first.fits;
      reply = e.form.form.fits;
      is = a.is ∙ both (a.first.is ∙ word a.first.form.is) (b.is ∙ both (b.first.is ∙ word b.first.form.is) (c.is ∙ both (c.first.is ∙ word c.first.form.is) (d.is ∙ both d.first.is (e.is ∙ ap (λ (w : Bytes). codes "= " ++ w) (e.form.is ∙ ap (λ (w : Bytes). w ++ (10 ∷ [])) e.form.form.is)))));
    }
  where
    both : {p q r s : Bytes} → p ≡ q → r ≡ s → p ++ r ≡ q ++ s
    both p q = cc

    word : {p q : Bytes} → p ≡ q → p ++ (32 ∷ []) ≡ q ++ (32 ∷ [])
    word p = cc

to_parts : (most : ℕ) (e : Entry) (l : Bytes) → IsEntry most e l → AreParts most (e.stamp, (e.worker, (e.task, (e.op, e.reply)))) l
to_parts most e l f = record {
  front = decimal e.stamp ++ (32 ∷ []);
  back = (decimal e.worker ++ (32 ∷ [])) ++ ((path_text e.task ++ (32 ∷ [])) ++ (operation_text e.op ++ (codes "= " ++ (reply_text e.reply ++ (10 ∷ [])))));
  first = record { word = decimal e.stamp; form = f.stamp; is = refl };
  second = record {
    front = decimal e.worker ++ (32 ∷ []);
    back = (path_text e.task ++ (32 ∷ [])) ++ (operation_text e.op ++ (codes "= " ++ (reply_text e.reply ++ (10 ∷ []))));
    first = record { word = decimal e.worker; form = f.worker; is = refl };
    second = record {
      front = path_text e.task ++ (32 ∷ []);
      back = operation_text e.op ++ (codes "= " ++ (reply_text e.reply ++ (10 ∷ [])));
      first = record { word = path_text e.task; form = f.task; is = refl };
      second = record {
        front = operation_text e.op;
        back = codes "= " ++ (reply_text e.reply ++ (10 ∷ []));
        first = record { fits = f.op; is = refl };
        second = record { rest = reply_text e.reply ++ (10 ∷ []); form = record { word = reply_text e.reply; form = record { fits = f.reply; is = refl }; is = refl }; is = refl };
        is = refl;
      };
      is = refl;
    };
    is = refl;
  };
  is = f.is;
}

pub entry_reads : (most : ℕ) → ReadsForm (IsEntry most) (entry_at most)
unfolding entry_at
entry_reads most = record {
  takes = λ z e rest q.
      let x = map_some (λ (x : OperationParts × Bytes). (entry_of x.0, x.1)) (parts_at most z) (e, rest) q in
      let t = (parts_read most).takes z x.0.0 x.0.1 x.1 in
      let both = pair_is (entry_of x.0.0) e x.0.1 rest x.2 in
      (t.0, subst (λ (v : Entry). IsEntry most v t.0) both.0 (from_parts most x.0.0 t.0 t.1), t.2 ∙ ap (λ (w : Bytes). t.0 ++ w) both.1);
  again = λ e l rest f. rw ((parts_read most).again (e.stamp, (e.worker, (e.task, (e.op, e.reply)))) l rest (to_parts most e l f)) refl;
}

-- ---- as a line

spaced_line : (w : Bytes) → lacks 10 w ≡ true → lacks 10 (spaced w) ≡ true
spaced_line w e = lacks-append 10 w (32 ∷ []) e refl

pub entry_lines : (most : ℕ) → AreLines (IsEntry most)
entry_lines most e l f =
    let back = codes "= " ++ (reply_text e.reply ++ (10 ∷ [])) in
    let three = operation_text e.op ++ back in
    let two = spaced (path_text e.task) ++ three in
    let one = spaced (decimal e.worker) ++ two in
    is_line l (line_behind (spaced (decimal e.stamp)) l one (spaced_line (decimal e.stamp) (number_line 1 most e.stamp f.stamp))
    (line_behind (spaced (decimal e.worker)) one two (spaced_line (decimal e.worker) (number_line 0 4294967295 e.worker f.worker))
    (line_behind (spaced (path_text e.task)) two three (spaced_line (path_text e.task) (path_line e.task f.task))
    (line_behind (operation_text e.op) three back (operation_free e.op f.op)
    (record { word = codes "= " ++ reply_text e.reply; free = lacks-append 10 (codes "= ") (reply_text e.reply) refl (reply_line (is_fetch e.op) e.reply f.reply); is = refl }) refl) refl) refl) f.is)

pub sample_entry : (most : ℕ) → 1 ≤ most → (e : Entry) × (l : Bytes) × IsEntry most e l
sample_entry most l =
    let e : Entry = record { stamp = 1; worker = 0; task = []; op = op.Begin; reply = reply.Ok } in (
      e,
      entry_line e,
      record {
        stamp = record { small = omega arith; low = omega arith; high = l; is = refl };
        worker = record { small = omega arith; low = omega arith; high = omega arith; is = refl };
        task = record { short = omega arith; each = tt; is = refl };
        op = tt;
        reply = tt;
        is = refl;
      },
    )
