-- Words are read just where they are written so.
use Rattle.std.proofs.Common.{◌≡◌, ℕ, zero, suc, ◌/◌, ◌%◌, ◌<◌, ◌≤◌, Bool, true, false, not, ◌&&◌, List, [], ◌∷◌, ◌++◌, length, Option, Some, None, Result, Ok, Err, refl, sym, ap, subst, ◌∙◌, append_assoc, arith}
use Rattle.std.specs.Prelude.{ℤ, option_map, option_and_then, ◌==◌, codes, decimal, IsUtf8, slice_index}
use Rattle.std.specs.Fmt.{signed_decimal}
use Rattle.std.specs.List.{AllByRecursion}
use Rattle.std.specs.Str.{bytes_eq, is_utf8}
use Rattle.std.proofs.lemmas.Bool.{and_parts, and_from}
use Rattle.std.proofs.lemmas.List.{append-nil}
use Rattle.std.proofs.lemmas.Option.{cond_some}
use Rattle.std.proofs.lemmas.Str.{IsUtf8-from_is_utf8, is_utf8-from_IsUtf8}
use Rattle.hex.specs.Hex.{encode_lower, encode_with, lower_digits, decode_of}
use Rattle.hex.specs.declared.error.FromHexError.{FromHexError}
use Rattle.hex.proofs.HexLemmas.{decode_of-encode_lower}
use Rattle.jt_base.specs.declared.name.Name.{Name}
use Rattle.jt_base.specs.declared.operation.Fault.{Fault}
use Rattle.jt_base.specs.declared.operation.Fault.TheVariants as fault
use Rattle.jt_base.specs.declared.operation.How.{How}
use Rattle.jt_base.specs.declared.operation.How.TheVariants as how
use Rattle.jt_base.specs.declared.value.Kind.{Kind}
use Rattle.jt_base.specs.declared.value.Kind.TheVariants as kind
use Rattle.jt_base.specs.declared.value.Value.{Value}
use Rattle.jt_base.specs.declared.value.Value.TheVariants as value
use Rattle.jt_base.specs.Names.{most_indexes}
use Rattle.jt_trace_text.specs.Lines.{Bytes}
use Rattle.jt_trace_text.specs.Readers.{cut, lacks, field, literal, lookup, ReadsWord}
use Rattle.jt_trace_text.specs.Words.{flag_text, indexes_text, path_text, IsIndex, IsPath, name_text, IsNameWord, hex_text, IsHex, how_text, FitsHow, IsHow, kind_text, value_text, IsValue, fault_text, FitsFault, IsFault}
use Rattle.jt_trace_text.specs.WordReaders.{number_in, int_of, flags, flag_of, index_or_more, indexes_of, path_behind, path_of, name_of, as_text, text_behind, text_of, how_of, kinds, kind_of, handle_of, handle_or_int, flag_or_value, value_of, plain_faults, plain_fault_of, later_fault_of, long_fault_of, at_colon, plain_or_long, fault_of}
use Rattle.jt_trace_text.proofs.Bytes.{text_bytes}
use Rattle.jt_trace_text.proofs.Fronts.{map_some}
use Rattle.jt_trace_text.proofs.Pieces.{then_some, field_reads, cut_takes, cut_again, cut_none, literal_takes, bytes_eq-true, some_is, by_word, lookup_takes, not_word, lookup_none, lacks-append, other, high_lacks}
use Rattle.jt_trace_text.proofs.Numbers.{bytes_eq-refl, decimal_lacks, number_reads, int_reads, int_free, no_letters}

-- ---- truth values

abbrev pub IsFlag : Bool → Bytes → Type 0
IsFlag b w = w ≡ flag_text b

pub flag_reads : ReadsWord IsFlag flag_of
unfolding flag_of
flag_reads = record { takes = λ w b e. lookup_takes (λ x v. IsFlag v x) flags w b (refl, (refl, tt)) e; again = again }
  where
    again : (b : Bool) (w : Bytes) → IsFlag b w → lookup flags w ≡ Some b
    again true w f = rw f refl
    again false w f = rw f refl

pub flag_free : (c : ℕ) (b : Bool) (w : Bytes) → c < 35 → IsFlag b w → lacks c w ≡ true
flag_free c true w l f = rw f (high_lacks c (codes "true") l refl)
flag_free c false w l f = rw f (high_lacks c (codes "false") l refl)

-- ---- paths

abbrev Indexes : ℕ → Bytes → List ℕ → Type 0
Indexes n z ks = (length ks ≤ n) × AllByRecursion IsIndex ks × (46 ∷ z ≡ indexes_text ks)

one_index : (n : ℕ) (z : Bytes) (ks : List ℕ) → option_map (λ (k : ℕ). k ∷ []) (number_in 0 4294967295 z) ≡ Some ks → Indexes (suc n) z ks
one_index n z ks e =
    let k = map_some (λ (k : ℕ). k ∷ []) (number_in 0 4294967295 z) ks e in
    let f = (number_reads 0 4294967295).takes z k.0 k.1 in
    subst (λ (x : List ℕ). Indexes (suc n) z x) k.2 (omega arith, (f.high, tt), ap (λ (x : Bytes). 46 ∷ x) (f.is ∙ sym (append-nil (decimal k.0))))

more_indexes : (n : ℕ) (z w rest : Bytes) (ks : List ℕ) → z ≡ w ++ (46 ∷ rest) → ((js : List ℕ) → indexes_of n rest ≡ Some js → Indexes n rest js)
    → option_and_then (λ (k : ℕ). option_map (λ (js : List ℕ). k ∷ js) (indexes_of n rest)) (number_in 0 4294967295 w) ≡ Some ks → Indexes (suc n) z ks
more_indexes n z w rest ks parts more e =
    let k = then_some (λ (k : ℕ). option_map (λ (js : List ℕ). k ∷ js) (indexes_of n rest)) (number_in 0 4294967295 w) ks e in
    let r = map_some (λ (js : List ℕ). k.0 ∷ js) (indexes_of n rest) ks k.2 in
    let f = (number_reads 0 4294967295).takes w k.0 k.1 in
    let t = more r.0 r.1 in
    subst (λ (x : List ℕ). Indexes (suc n) z x) r.2
    (omega (arith, t.0), (f.high, t.1), ap (λ (x : Bytes). 46 ∷ x) (parts ∙ ap (λ (x : Bytes). x ++ (46 ∷ rest)) f.is ∙ ap (λ (x : Bytes). decimal k.0 ++ x) t.2))

by_cut : (n : ℕ) (z : Bytes) (o : Option (Bytes × Bytes)) (ks : List ℕ) → cut 46 z ≡ o → ((rest : Bytes) (js : List ℕ) → indexes_of n rest ≡ Some js → Indexes n rest js)
    → index_or_more (λ y. indexes_of n y) o z ≡ Some ks → Indexes (suc n) z ks
by_cut n z None ks is more e = one_index n z ks e
by_cut n z (Some p) ks is more e = more_indexes n z p.0 p.1 ks (cut_takes 46 z p.0 p.1 is) (more p.1) e

indexes_take : (n : ℕ) (z : Bytes) (ks : List ℕ) → indexes_of n z ≡ Some ks → Indexes n z ks
unfolding indexes_of
indexes_take zero z ks e = absurd cc
indexes_take (suc n) z ks e = by_cut n z (cut 46 z) ks refl (λ rest js q. indexes_take n rest js q) e

index_again : (k : ℕ) → k ≤ 4294967295 → number_in 0 4294967295 (decimal k) ≡ Some k
index_again k l = (number_reads 0 4294967295).again k (decimal k) (record { small = omega (arith, l); low = omega arith; high = l; is = refl })

indexes_again : (n k : ℕ) (ks : List ℕ) → length (k ∷ ks) ≤ n → AllByRecursion IsIndex (k ∷ ks) → indexes_of n (decimal k ++ indexes_text ks) ≡ Some (k ∷ ks)
unfolding indexes_of
indexes_again zero k ks l a = absurd (omega (arith, l))
indexes_again (suc n) k [] l a =
    let none = cut_none 46 (decimal k) (decimal_lacks 46 k (omega arith) (omega (arith, a.0))) in
    rw (append-nil (decimal k), none, index_again k a.0) refl
indexes_again (suc n) k (j ∷ ks) l a =
    let parts = cut_again 46 (decimal k) (decimal j ++ indexes_text ks) (decimal_lacks 46 k (omega arith) (omega (arith, a.0))) in
    rw (parts, index_again k a.0, indexes_again n j ks (omega (arith, l)) a.1) refl

pub path_reads : ReadsWord IsPath path_of
unfolding path_of
path_reads = record { takes = takes; again = again }
  where
    by_dot : (o : Option Bytes) (w : Bytes) (p : List ℕ) → literal (codes "m.") w ≡ o → path_behind o w ≡ Some p → IsPath p w
    by_dot (Some rest) w p is e =
        let t = indexes_take most_indexes rest p e in
        record { short = t.0; each = t.1; is = literal_takes (codes "m.") w rest is ∙ ap (λ (x : Bytes). 109 ∷ x) t.2 }
    by_dot None w p is e =
        by_word (IsPath p w) w (codes "m") _ _ p e
        (λ same q. subst (λ (x : List ℕ). IsPath x w) (some_is q) (record { short = omega arith; each = tt; is = same }))
        (λ q. absurd cc)

    takes : (w : Bytes) (p : List ℕ) → path_of w ≡ Some p → IsPath p w
    takes w p e = by_dot (literal (codes "m.") w) w p refl e

    again : (p : List ℕ) (w : Bytes) → IsPath p w → path_of w ≡ Some p
    again [] w f = rw f.is refl
    again (k ∷ ks) w f = rw f.is (indexes_again most_indexes k ks f.short f.each)

indexes_free : (c : ℕ) (p : List ℕ) → c < 46 → AllByRecursion IsIndex p → lacks c (indexes_text p) ≡ true
indexes_free c [] l a = refl
indexes_free c (k ∷ p) l a = and_from (not (46 == c)) (lacks c (decimal k ++ indexes_text p)) (other c 46 (λ e. omega arith))
    (lacks-append c (decimal k) (indexes_text p) (decimal_lacks c k (omega arith) (omega (arith, a.0))) (indexes_free c p l a.1))

pub path_free : (c : ℕ) (p : List ℕ) (w : Bytes) → c < 46 → IsPath p w → lacks c w ≡ true
path_free c p w l f = ap (lacks c) f.is ∙ and_from (not (109 == c)) (lacks c (indexes_text p)) (other c 109 (λ e. omega arith)) (indexes_free c p l f.each)

-- ---- names

pub name_reads : ReadsWord IsNameWord name_of
unfolding name_of
name_reads =
    let paths = field_reads 35 IsPath path_of path_reads (λ p w f. path_free 35 p w (omega arith) f) in
    record {
      takes = λ w n e.
          let p = then_some (λ (p : List ℕ × Bytes). option_map (λ (k : ℕ). record { path = p.0; number = k }) (number_in 0 4294967295 p.1)) (field 35 path_of w) n e in
          let k = map_some (λ (k : ℕ). record { path = p.0.0; number = k }) (number_in 0 4294967295 p.0.1) n p.2 in
          let t = paths.takes w p.0.0 p.0.1 p.1 in
          let f = (number_reads 0 4294967295).takes p.0.1 k.0 k.1 in
          let whole : w ≡ path_text p.0.0 ++ (35 ∷ decimal k.0) = t.2 ∙ ap (λ (x : Bytes). x ++ p.0.1) t.1.is ∙ append_assoc t.1.word (35 ∷ []) p.0.1 ∙ ap (λ (x : Bytes). x ++ (35 ∷ p.0.1)) t.1.form.is ∙ ap (λ (x : Bytes). path_text p.0.0 ++ (35 ∷ x)) f.is in
          subst (λ (m : Name). IsNameWord m w) k.2 (record { path = record { short = t.1.form.short; each = t.1.form.each; is = refl }; number = f.high; is = whole });
      again = λ n w f.
          let e : field 35 path_of w ≡ Some (n.path, decimal n.number) = ap (field 35 path_of) (f.is ∙ sym (append_assoc (path_text n.path) (35 ∷ []) (decimal n.number))) ∙ paths.again n.path (path_text n.path ++ (35 ∷ [])) (decimal n.number) (record { word = path_text n.path; form = f.path; is = refl }) in
          rw (e, index_again n.number f.number) refl;
    }

pub name_free : (c : ℕ) (n : Name) (w : Bytes) → c < 35 → IsNameWord n w → lacks c w ≡ true
name_free c n w l f = ap (lacks c) f.is ∙ lacks-append c (path_text n.path) (35 ∷ decimal n.number) (path_free c n.path (path_text n.path) (omega arith) f.path)
    (and_from (not (35 == c)) (lacks c (decimal n.number)) (other c 35 (λ e. omega arith)) (decimal_lacks c n.number (omega arith) (omega (arith, f.number))))

-- ---- texts

pub hex_reads : ReadsWord IsHex text_of
unfolding text_of
hex_reads = record { takes = takes; again = again }
  where
    from_decoded : (w t : Bytes) (r : Result Bytes FromHexError) → as_text w r ≡ Some t → (w ≡ encode_lower t) × IsUtf8 t
    from_decoded w t (Ok u) e =
        let c = cond_some (bytes_eq w (encode_lower u) && is_utf8 u) u t e in
        let p = and_parts (bytes_eq w (encode_lower u)) (is_utf8 u) c.0 in
        subst (λ (x : Bytes). (w ≡ encode_lower x) × IsUtf8 x) c.1 (bytes_eq-true w (encode_lower u) p.0, IsUtf8-from_is_utf8 u p.1)
    from_decoded w t (Err x) e = absurd cc

    by_x : (o : Option Bytes) (w t : Bytes) → literal (codes "x") w ≡ o → text_behind o ≡ Some t → IsHex t w
    by_x (Some rest) w t is e = let f = from_decoded rest t (decode_of rest) e in record { text = f.1; is = literal_takes (codes "x") w rest is ∙ ap (λ (x : Bytes). 120 ∷ x) f.0 }
    by_x None w t is e = absurd cc

    takes : (w t : Bytes) → text_of w ≡ Some t → IsHex t w
    takes w t e = by_x (literal (codes "x") w) w t refl e

    again : (t w : Bytes) → IsHex t w → text_of w ≡ Some t
    again t w f = rw (f.is, decode_of-encode_lower t (text_bytes t f.text), bytes_eq-refl (encode_lower t), is_utf8-from_IsUtf8 t f.text) refl

pub hex_free : (c : ℕ) (t w : Bytes) → 0 < c → c < 35 → IsHex t w → lacks c w ≡ true
unfolding encode_with
hex_free c t w g l f = ap (lacks c) f.is ∙ and_from (not (120 == c)) (lacks c (encode_lower t)) (other c 120 (λ e. omega arith)) (digits_free t)
  where
    table : lacks c lower_digits ≡ true
    table = high_lacks c lower_digits l refl

    no_digit : (n : ℕ) (ds : Bytes) → lacks c ds ≡ true → not (slice_index ds n == c) ≡ true
    no_digit n [] e = other c 0 (λ q. omega arith)
    no_digit zero (d ∷ ds) e = (and_parts (not (d == c)) (lacks c ds) e).0
    no_digit (suc n) (d ∷ ds) e = no_digit n ds (and_parts (not (d == c)) (lacks c ds) e).1

    digits_free : (t : Bytes) → lacks c (encode_lower t) ≡ true
    digits_free [] = refl
    digits_free (b ∷ t) = and_from (not (slice_index lower_digits (b / 16) == c)) (not (slice_index lower_digits (b % 16) == c) && lacks c (encode_lower t)) (no_digit (b / 16) lower_digits table)
        (and_from (not (slice_index lower_digits (b % 16) == c)) (lacks c (encode_lower t)) (no_digit (b % 16) lower_digits table) (digits_free t))

-- ---- how a task is made

how_found : (k h : How) (w : Bytes) → FitsHow k → w ≡ how_text k → Some k ≡ Some h → IsHow h w
how_found k h w fits is e = subst (λ (x : How). IsHow x w) (some_is e) (record { fits = fits; is = is })

pub how_reads : ReadsWord IsHow how_of
unfolding how_of
how_reads = record { takes = takes; again = again }
  where
    chunk : (w : Bytes) (h : How) → option_and_then (λ (rest : Bytes). option_map (λ (k : ℕ). how.Chunk k) (number_in 0 4294967295 rest)) (literal (codes "chunk:") w) ≡ Some h → IsHow h w
    chunk w h e =
        let r = then_some (λ (rest : Bytes). option_map (λ (k : ℕ). how.Chunk k) (number_in 0 4294967295 rest)) (literal (codes "chunk:") w) h e in
        let k = map_some (λ (k : ℕ). how.Chunk k) (number_in 0 4294967295 r.0) h r.2 in
        let f = (number_reads 0 4294967295).takes r.0 k.0 k.1 in
        subst (λ (x : How). IsHow x w) k.2 (record { fits = f.high; is = literal_takes (codes "chunk:") w r.0 r.1 ∙ ap (λ (x : Bytes). codes "chunk:" ++ x) f.is })

    takes : (w : Bytes) (h : How) → how_of w ≡ Some h → IsHow h w
    takes w h e =
        by_word (IsHow h w) w (codes "default") _ _ h e (λ same q. how_found how.Default h w tt same q) (λ e.
        by_word (IsHow h w) w (codes "interactive") _ _ h e (λ same q. how_found how.Interactive h w tt same q) (λ e.
        by_word (IsHow h w) w (codes "async") _ _ h e (λ same q. how_found how.Async h w tt same q) (λ e. chunk w h e)))

    again : (h : How) (w : Bytes) → IsHow h w → how_of w ≡ Some h
    again how.Default w f = rw f.is refl
    again how.Interactive w f = rw f.is refl
    again how.Async w f = rw f.is refl
    again (how.Chunk k) w f = rw f.is (rw (index_again k f.fits) refl)

pub how_free : (c : ℕ) (h : How) (w : Bytes) → c < 35 → IsHow h w → lacks c w ≡ true
how_free c how.Default w l f = rw f.is (high_lacks c (codes "default") l refl)
how_free c how.Interactive w l f = rw f.is (high_lacks c (codes "interactive") l refl)
how_free c how.Async w l f = rw f.is (high_lacks c (codes "async") l refl)
how_free c (how.Chunk k) w l f = rw f.is (lacks-append c (codes "chunk:") (decimal k) (high_lacks c (codes "chunk:") l refl) (decimal_lacks c k (omega arith) (omega (arith, f.fits))))

-- ---- values

kind_takes : (w : Bytes) (k : Kind) → kind_of w ≡ Some k → w ≡ kind_text k
unfolding kind_of
kind_takes w k e = lookup_takes (λ x v. x ≡ kind_text v) kinds w k (refl, (refl, (refl, (refl, (refl, (refl, (refl, tt))))))) e

handle_takes : (front rest w : Bytes) (v : Value) → w ≡ front ++ (58 ∷ rest) → handle_of front rest ≡ Some v → IsValue v w
unfolding handle_of
handle_takes front rest w v parts e =
    by_word (IsValue v w) front (codes "task") _ _ v e
    (λ same q.
    let p = map_some (λ (p : List ℕ). value.Task p) (path_of rest) v q in
    let f = path_reads.takes rest p.0 p.1 in
    subst (λ (x : Value). IsValue x w) p.2 (record { fits = record { short = f.short; each = f.each; is = refl }; is = parts ∙ ap (λ (x : Bytes). x ++ (58 ∷ rest)) same ∙ ap (λ (x : Bytes). codes "task:" ++ x) f.is }))
    (λ q.
    let k = then_some (λ (k : Kind). option_map (λ (name : Name). value.Object k name) (name_of rest)) (kind_of front) v q in
    let n = map_some (λ (name : Name). value.Object k.0 name) (name_of rest) v k.2 in
    let f = name_reads.takes rest n.0 n.1 in
    subst (λ (x : Value). IsValue x w) n.2 (record { fits = record { path = f.path; number = f.number; is = refl }; is = parts ∙ ap (λ (x : Bytes). x ++ (58 ∷ rest)) (kind_takes front k.0 k.1) ∙ ap (λ (x : Bytes). kind_text k.0 ++ (58 ∷ x)) f.is }))

pub value_reads : ReadsWord IsValue value_of
unfolding value_of flag_of handle_of kind_of
value_reads = record { takes = takes; again = again }
  where
    by_colon : (o : Option (Bytes × Bytes)) (w : Bytes) (v : Value) → cut 58 w ≡ o → handle_or_int o w ≡ Some v → IsValue v w
    by_colon (Some p) w v is e = handle_takes p.0 p.1 w v (cut_takes 58 w p.0 p.1 is) e
    by_colon None w v is e =
        let z = map_some (λ (z : ℤ). value.Int z) (int_of w) v e in
        let f = int_reads.takes w z.0 z.1 in
        subst (λ (x : Value). IsValue x w) z.2 (record { fits = f.fits; is = f.is })

    by_flag : (o : Option Bool) (w : Bytes) (v : Value) → lookup flags w ≡ o → flag_or_value o w ≡ Some v → IsValue v w
    by_flag (Some b) w v is e = subst (λ (x : Value). IsValue x w) (some_is e) (record { fits = tt; is = flag_reads.takes w b is })
    by_flag None w v is e =
        by_word (IsValue v w) w (codes "nothing") _ _ v e
        (λ same q. subst (λ (x : Value). IsValue x w) (some_is q) (record { fits = tt; is = same }))
        (λ q. by_colon (cut 58 w) w v refl q)

    takes : (w : Bytes) (v : Value) → value_of w ≡ Some v → IsValue v w
    takes w v e = by_flag (lookup flags w) w v refl e

    of_kind : (k : Kind) (n : Name) → IsNameWord n (name_text n) → value_of (value_text (value.Object k n)) ≡ Some (value.Object k n)
    of_kind kind.Channel n f = rw (name_reads.again n (name_text n) f) refl
    of_kind kind.Unbuffered n f = rw (name_reads.again n (name_text n) f) refl
    of_kind kind.Atomic n f = rw (name_reads.again n (name_text n) f) refl
    of_kind kind.Event n f = rw (name_reads.again n (name_text n) f) refl
    of_kind kind.Condition n f = rw (name_reads.again n (name_text n) f) refl
    of_kind kind.Lock n f = rw (name_reads.again n (name_text n) f) refl
    of_kind kind.Semaphore n f = rw (name_reads.again n (name_text n) f) refl

    again : (v : Value) (w : Bytes) → IsValue v w → value_of w ≡ Some v
    again (value.Int z) w f =
        let free = no_letters z f.fits in
        let no_flag = lookup_none flags (signed_decimal z) free (omega arith, (omega arith, tt)) in
        let no_nothing = not_word (signed_decimal z) (codes "nothing") free (omega arith) in
        let no_colon = cut_none 58 (signed_decimal z) (free 58 (omega arith)) in
        rw f.is (rw (no_flag, no_nothing, no_colon, int_reads.again z (signed_decimal z) (record { fits = f.fits; is = refl })) refl)
    again (value.Flag true) w f = rw f.is refl
    again (value.Flag false) w f = rw f.is refl
    again value.Nothing w f = rw f.is refl
    again (value.Task p) w f = rw f.is (rw (path_reads.again p (path_text p) f.fits) refl)
    again (value.Object k n) w f = rw f.is (of_kind k n f.fits)

kind_free : (c : ℕ) (k : Kind) → c < 35 → lacks c (kind_text k) ≡ true
kind_free c kind.Channel l = high_lacks c (codes "channel") l refl
kind_free c kind.Unbuffered l = high_lacks c (codes "unbuffered") l refl
kind_free c kind.Atomic l = high_lacks c (codes "atomic") l refl
kind_free c kind.Event l = high_lacks c (codes "event") l refl
kind_free c kind.Condition l = high_lacks c (codes "condition") l refl
kind_free c kind.Lock l = high_lacks c (codes "lock") l refl
kind_free c kind.Semaphore l = high_lacks c (codes "semaphore") l refl

pub value_free : (c : ℕ) (v : Value) (w : Bytes) → c < 35 → IsValue v w → lacks c w ≡ true
value_free c (value.Int z) w l f = int_free c z w (omega arith) (record { fits = f.fits; is = f.is })
value_free c (value.Flag b) w l f = flag_free c b w l f.is
value_free c value.Nothing w l f = rw f.is (high_lacks c (codes "nothing") l refl)
value_free c (value.Task p) w l f = rw f.is (lacks-append c (codes "task:") (path_text p) (high_lacks c (codes "task:") l refl) (path_free c p (path_text p) (omega arith) f.fits))
value_free c (value.Object k n) w l f = rw f.is (lacks-append c (kind_text k) (58 ∷ name_text n) (kind_free c k l) (and_from (not (58 == c)) (lacks c (name_text n)) (other c 58 (λ e. omega arith)) (name_free c n (name_text n) l f.fits)))

-- ---- faults

abbrev PlainFault : Bytes → Fault → Type 0
PlainFault w f = IsFault f w

plain : (f : Fault) (w : Bytes) → FitsFault f → w ≡ fault_text f → IsFault f w
plain f w fits is = record { fits = fits; is = is }

plain_takes : (w : Bytes) (f : Fault) → plain_fault_of w ≡ Some f → IsFault f w
unfolding plain_fault_of later_fault_of
plain_takes w f e = lookup_takes PlainFault plain_faults w f (
  plain fault.Divide _ tt refl,
  (
    plain fault.Domain _ tt refl,
    (
      plain fault.EmptyRange _ tt refl,
      (
        plain fault.Method _ tt refl,
        (
          plain fault.Undefined _ tt refl,
          (
            plain fault.TurnLimit _ tt refl,
            (
              plain fault.StackLimit _ tt refl,
              (plain fault.ForkTooDeep _ tt refl, (plain fault.ChannelClosed _ tt refl, (plain fault.NotLocked _ tt refl, (plain fault.NotOwner _ tt refl, (plain fault.ReleaseFree _ tt refl, (plain fault.StaticNested _ tt refl, tt)))))),
            ),
          ),
        ),
      ),
    ),
  ),
) e

long_takes : (front rest w : Bytes) (f : Fault) → w ≡ front ++ (58 ∷ rest) → long_fault_of front rest ≡ Some f → IsFault f w
unfolding long_fault_of
long_takes front rest w f parts e =
    by_word (IsFault f w) front (codes "taskfailed") _ _ f e
    (λ same q.
    let p = map_some (λ (p : List ℕ). fault.TaskFailed p) (path_of rest) f q in
    let g = path_reads.takes rest p.0 p.1 in
    subst (λ (x : Fault). IsFault x w) p.2 (record { fits = record { short = g.short; each = g.each; is = refl }; is = parts ∙ ap (λ (x : Bytes). x ++ (58 ∷ rest)) same ∙ ap (λ (x : Bytes). codes "taskfailed:" ++ x) g.is }))
    (λ q. by_word (IsFault f w) front (codes "error") _ _ f q
    (λ same q.
    let t = map_some (λ (t : Bytes). fault.Error t) (text_of rest) f q in
    let g = hex_reads.takes rest t.0 t.1 in
    subst (λ (x : Fault). IsFault x w) t.2 (record { fits = record { text = g.text; is = refl }; is = parts ∙ ap (λ (x : Bytes). x ++ (58 ∷ rest)) same ∙ ap (λ (x : Bytes). codes "error:" ++ x) g.is }))
    (λ q. absurd cc))

pub fault_reads : ReadsWord IsFault fault_of
unfolding fault_of plain_fault_of later_fault_of long_fault_of
fault_reads = record { takes = takes; again = again }
  where
    by_colon : (o : Option (Bytes × Bytes)) (w : Bytes) (f : Fault) → cut 58 w ≡ o → at_colon o ≡ Some f → IsFault f w
    by_colon (Some p) w f is e = long_takes p.0 p.1 w f (cut_takes 58 w p.0 p.1 is) e
    by_colon None w f is e = absurd cc

    by_plain : (o : Option Fault) (w : Bytes) (f : Fault) → lookup plain_faults w ≡ o → plain_or_long o w ≡ Some f → IsFault f w
    by_plain (Some g) w f is e = subst (λ (x : Fault). IsFault x w) (some_is e) (plain_takes w g is)
    by_plain None w f is e = by_colon (cut 58 w) w f refl e

    takes : (w : Bytes) (f : Fault) → fault_of w ≡ Some f → IsFault f w
    takes w f e = by_plain (lookup plain_faults w) w f refl e

    again : (f : Fault) (w : Bytes) → IsFault f w → fault_of w ≡ Some f
    again fault.Divide w g = rw g.is refl
    again fault.Domain w g = rw g.is refl
    again fault.EmptyRange w g = rw g.is refl
    again fault.Method w g = rw g.is refl
    again fault.Undefined w g = rw g.is refl
    again fault.TurnLimit w g = rw g.is refl
    again fault.StackLimit w g = rw g.is refl
    again fault.ForkTooDeep w g = rw g.is refl
    again fault.ChannelClosed w g = rw g.is refl
    again fault.NotLocked w g = rw g.is refl
    again fault.NotOwner w g = rw g.is refl
    again fault.ReleaseFree w g = rw g.is refl
    again fault.StaticNested w g = rw g.is refl
    again (fault.TaskFailed p) w g = rw g.is (rw (path_reads.again p (path_text p) g.fits) refl)
    again (fault.Error t) w g = rw g.is (rw (hex_reads.again t (hex_text t) g.fits) refl)

pub fault_free : (c : ℕ) (f : Fault) (w : Bytes) → 0 < c → c < 35 → IsFault f w → lacks c w ≡ true
fault_free c fault.Divide w g l f = rw f.is (high_lacks c (codes "divide") l refl)
fault_free c fault.Domain w g l f = rw f.is (high_lacks c (codes "domain") l refl)
fault_free c fault.EmptyRange w g l f = rw f.is (high_lacks c (codes "emptyrange") l refl)
fault_free c fault.Method w g l f = rw f.is (high_lacks c (codes "method") l refl)
fault_free c fault.Undefined w g l f = rw f.is (high_lacks c (codes "undefined") l refl)
fault_free c fault.TurnLimit w g l f = rw f.is (high_lacks c (codes "turnlimit") l refl)
fault_free c fault.StackLimit w g l f = rw f.is (high_lacks c (codes "stacklimit") l refl)
fault_free c fault.ForkTooDeep w g l f = rw f.is (high_lacks c (codes "forktoodeep") l refl)
fault_free c fault.ChannelClosed w g l f = rw f.is (high_lacks c (codes "channelclosed") l refl)
fault_free c fault.NotLocked w g l f = rw f.is (high_lacks c (codes "notlocked") l refl)
fault_free c fault.NotOwner w g l f = rw f.is (high_lacks c (codes "notowner") l refl)
fault_free c fault.ReleaseFree w g l f = rw f.is (high_lacks c (codes "releasefree") l refl)
fault_free c fault.StaticNested w g l f = rw f.is (high_lacks c (codes "staticnested") l refl)
fault_free c (fault.TaskFailed p) w g l f = rw f.is (lacks-append c (codes "taskfailed:") (path_text p) (high_lacks c (codes "taskfailed:") l refl) (path_free c p (path_text p) (omega arith) f.fits))
fault_free c (fault.Error t) w g l f = rw f.is (lacks-append c (codes "error:") (hex_text t) (high_lacks c (codes "error:") l refl) (hex_free c t (hex_text t) g l f.fits))
