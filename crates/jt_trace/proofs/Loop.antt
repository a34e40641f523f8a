-- Reading entry after entry, as a loop does.
use Rattle.std.proofs.Common.{◌≡◌, ℕ, suc, ◌+◌, ◌-◌, ◌<◌, List, [], ◌∷◌, ◌++◌, length, Option, Some, None, Result, Ok, Err, refl, sym, ap, ◌∙◌, append_assoc, arith}
use Rattle.std.proofs.lemmas.List.{length-append}
use Rattle.jt_base.specs.declared.entry.Entry.{Entry}
use Rattle.jt_trace_text.specs.Lines.{Bytes}
use Rattle.jt_trace_text.specs.Readers.{at_line}
use Rattle.jt_trace_text.specs.Entries.{entry_line}
use Rattle.jt_trace_text.specs.EntryReaders.{entry_at}
use Rattle.jt_trace_text.specs.TextReaders.{read_entries, entry_more}
use Rattle.jt_trace_text.proofs.EntryLaws.{entry_reads}

-- the entries that were read, and those that are still read
abbrev pub with_front : List Entry → Result (List Entry) ℕ → Result (List Entry) ℕ
with_front front (Ok es) = Ok (front ++ es)
with_front front (Err n) = Err n

regroup : (front : List Entry) (e : Entry) (r : Result (List Entry) ℕ) → with_front front (entry_more e r) ≡ with_front (front ++ e ∷ []) r
regroup front e (Ok es) = ap (λ (x : List Entry). Ok x) (sym (append_assoc front (e ∷ []) es))
regroup front e (Err n) = refl

one_more : (most n line : ℕ) (z : Bytes) (e : Entry) (after : Bytes) → entry_at most z ≡ Some (e, after) → read_entries most (suc n) line z ≡ entry_more e (read_entries most n (suc line) after)
one_more most n line z e after h = ap (λ (o : Option (Entry × Bytes)). at_line line o (λ (x : Entry × Bytes). entry_more x.0 (read_entries most n (suc line) x.1))) h

pub goes_on : (front : List Entry) (most count i at next : ℕ) (z : Bytes) (e : Entry) (after : Bytes) (total : Result (List Entry) ℕ) → i < count → next ≡ suc at → entry_at most z ≡ Some (e, after)
    → with_front front (read_entries most (count - i) at z) ≡ total → with_front (front ++ e ∷ []) (read_entries most (count - (i + 1)) next after) ≡ total
goes_on front most count i at next z e after total lt is h so_far =
    let k : count - i ≡ suc (count - (i + 1)) = omega arith in
    ap (λ (m : ℕ). with_front (front ++ e ∷ []) (read_entries most (count - (i + 1)) m after)) is
    ∙ sym (regroup front e (read_entries most (count - (i + 1)) (suc at) after))
    ∙ ap (with_front front) (sym (one_more most (count - (i + 1)) at z e after h))
    ∙ ap (λ (m : ℕ). with_front front (read_entries most m at z)) (sym k)
    ∙ so_far

pub bad_here : (front : List Entry) (most count i at : ℕ) (z : Bytes) (total : Result (List Entry) ℕ) → i < count → entry_at most z ≡ None
    → with_front front (read_entries most (count - i) at z) ≡ total → total ≡ Err at
bad_here front most count i at z total lt h so_far =
    let k : count - i ≡ suc (count - (i + 1)) = omega arith in
    sym so_far ∙ ap (λ (m : ℕ). with_front front (read_entries most m at z)) k
    ∙ ap (with_front front) (ap (λ (o : Option (Entry × Bytes)). at_line at o (λ (x : Entry × Bytes). entry_more x.0 (read_entries most (count - (i + 1)) (suc at) x.1))) h)

-- an entry takes some bytes
pub shorter : (most : ℕ) (z : Bytes) (e : Entry) (after : Bytes) → entry_at most z ≡ Some (e, after) → length after < length z
shorter most z e after h =
    let t = (entry_reads most).takes z e after h in
    let n : length z ≡ length t.0 + length after = ap length t.2 ∙ length-append t.0 after in
    let is : length t.0 ≡ length (entry_line e) = ap length t.1.is in
    let some : 0 < length (entry_line e) = simp length-append (omega arith) in
    omega arith
