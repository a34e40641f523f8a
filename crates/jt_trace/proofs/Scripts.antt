-- Reading the script and what follows it.
use Rattle.std.proofs.Common.{◌≡◌, ℕ, ◌+◌, ◌-◌, ◌<◌, ◌≤◌, inl, inr, true, ◌&&◌, [], ◌∷◌, length, take, drop, Option, Some, refl, sym, ap, ◌∙◌, arith}
use Rattle.std.specs.Prelude.{◌==◌, nat_lt, slice_index, IsUtf8}
use Rattle.std.specs.Str.{is_utf8}
use Rattle.std.proofs.lemmas.Bool.{cases_Bool, and_parts, eq-eqb, ltb-true, lt-ltb}
use Rattle.std.proofs.lemmas.Option.{cond_some}
use Rattle.std.proofs.lemmas.List.{length-take, length-drop}
use Rattle.std.proofs.lemmas.Str.{IsUtf8-take, IsCharBoundary-before_ascii, is_utf8-from_IsUtf8}
use Rattle.jt_trace_text.specs.Lines.{Bytes, newlines}
use Rattle.jt_trace_text.specs.Readers.{at_line}
use Rattle.jt_trace_text.specs.TextReaders.{script_at, read_script, read_count, Header}

-- ---- the script

script_parts : (n : ℕ) (z s r : Bytes) → script_at n z ≡ Some (s, r) → (s ≡ take n z) × (r ≡ drop (n + 1) z) × (n < length z)
unfolding script_at
script_parts n z s r is =
    let c = cond_some (nat_lt n (length z) && ((slice_index z n == 10) && is_utf8 (take n z))) (take n z, drop (n + 1) z) (s, r) is in
    let p = and_parts (nat_lt n (length z)) ((slice_index z n == 10) && is_utf8 (take n z)) c.0 in
    (sym (ap (λ (x : Bytes × Bytes). x.0) c.1), sym (ap (λ (x : Bytes × Bytes). x.1) c.1), ltb-true n (length z) p.0)

-- a text of so many bytes with a newline behind it
pub script_found : (n : ℕ) (z : Bytes) → IsUtf8 z → n < length z → slice_index z n ≡ 10 → Some (take n z, drop (n + 1) z) ≡ script_at n z
unfolding script_at
script_found n z u long at =
    let boundary = IsCharBoundary-before_ascii z n long (omega (arith, at)) in
    let text : is_utf8 (take n z) ≡ true = is_utf8-from_IsUtf8 (take n z) (IsUtf8-take z n u boundary) in
    rw (lt-ltb n (length z) long, eq-eqb (slice_index z n) 10 at, text) refl

-- ---- and what follows

newlines_most : (w : Bytes) → newlines w ≤ length w
newlines_most [] = omega arith
newlines_most (b ∷ w) = let m = newlines_most w in elim (cases_Bool (b == 10)) [
  | inl hit ↦ rw hit (omega arith)
  | inr miss ↦ rw miss (omega arith)
]

-- the lines of the script and the bytes behind it are fewer than the bytes of all
pub script_room : (n : ℕ) (z s r : Bytes) → script_at n z ≡ Some (s, r) → newlines (take n z) + length r < length z
script_room n z s r is =
    let p = script_parts n z s r is in
    let long = p.2 in
    let behind : length r ≡ length z - (n + 1) = ap length p.1 ∙ length-drop (n + 1) z in
    let lines = newlines_most (take n z) in
    let front = length-take n z in
    omega (arith, long, behind, lines, front)

pub script_read : (h : Header) (n m : ℕ) (z s r : Bytes) → m ≡ newlines (take n z) → script_at n z ≡ Some (s, r) → read_script h n z ≡ read_count h s (8 + m) r
unfolding read_script
script_read h n m z s r lines is =
    let front = (script_parts n z s r is).0 in
    ap (λ (o : Option (Bytes × Bytes)). at_line (7 + newlines (take n z)) o (λ (x : Bytes × Bytes). read_count h x.0 (8 + newlines x.0) x.1)) is
    ∙ ap (λ (k : ℕ). read_count h s (8 + k) r) (ap newlines front ∙ sym lines)
