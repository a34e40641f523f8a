-- The script of a trace: so many bytes and a newline, and where a text stops that has none.
use Rattle.std.proofs.Common.{◌≡◌, ℕ, zero, suc, ◌+◌, ◌-◌, ◌<◌, ◌≤◌, inl, inr, true, false, cond, [], ◌∷◌, ◌++◌, length, take, drop, get_or, Option, Some, None, refl, sym, ap, subst, ◌∙◌, append_assoc, arith}
use Rattle.std.specs.Prelude.{option_map, ◌==◌, if◌then◌else◌, IsUtf8}
use Rattle.std.specs.Str.{IsAscii}
use Rattle.std.proofs.Common.{◌&&◌, add-one, drop-cons, rules}
use Rattle.std.specs.Prelude.{nat_lt, slice_index}
use Rattle.std.specs.Str.{is_utf8}
use Rattle.std.proofs.lemmas.Bool.{cases_Bool, and_parts, eqb-true, eq-eqb, ltb-true, lt-ltb}
use Rattle.std.proofs.lemmas.Option.{cond_some}
use Rattle.std.proofs.lemmas.List.{length-append, take_at, drop_at, take-append-drop, length-take}
use Rattle.std.proofs.lemmas.Str.{IsUtf8-append, IsUtf8-from_ascii, IsUtf8-nil, IsUtf8-take, IsCharBoundary-after_ascii, IsUtf8-from_is_utf8, is_utf8-from_IsUtf8}
use Rattle.jt_trace_text.specs.Lines.{Bytes, first_lines, newlines, StopsAfter}
use Rattle.jt_trace_text.specs.Readers.{Then, ReadsForm}
use Rattle.jt_trace_text.specs.Texts.{IsScript}
use Rattle.jt_trace_text.specs.TextReaders.{script_at}
use Rattle.jt_trace_text.proofs.Fronts.{map_some, cons_hit, cons_miss, front, front_of, whole}

-- ---- the lines within the first bytes

-- as many first lines as there are newlines within the first n bytes lie within them
pub lines_within : (n : ℕ) (z : Bytes) → (f : Bytes) × (first_lines (newlines (take n z)) z ≡ Some f) × (length f ≤ n)
lines_within zero z = ([], refl, omega arith)
lines_within (suc n) [] = ([], refl, omega arith)
lines_within (suc n) (b ∷ z) =
    let r = lines_within n z in
    elim (cases_Bool (b == 10)) [
      | inl hit ↦ (b ∷ r.0, rw (hit, hit, r.1) refl, omega (arith, r.2))
      | inr miss ↦ within_other b z n (newlines (take n z)) r.0 miss r.1 r.2
    ]
  where
    within_other : (b : ℕ) (z : Bytes) (n k : ℕ) (f : Bytes) → (b == 10) ≡ false → first_lines k z ≡ Some f → length f ≤ n → (g : Bytes) × (first_lines (cond (b == 10) (suc k) k) (b ∷ z) ≡ Some g) × (length g ≤ suc n)
    within_other b z n zero f miss e l = ([], rw miss refl, omega arith)
    within_other b z n (suc k) f miss e l = (b ∷ f, rw (miss, miss, e) refl, omega arith)

-- one line more goes past them
pub line_past : (n : ℕ) (z f : Bytes) → first_lines (suc (newlines (take n z))) z ≡ Some f → n < length f
line_past zero [] f e = absurd cc
line_past zero (b ∷ z) f e =
    let g = map_some (λ (x : Bytes). b ∷ x) (if b == 10 then first_lines 0 z else first_lines 1 z) f e in
    let l : length f ≡ suc (length g.0) = ap length (sym g.2) in omega arith
line_past (suc n) [] f e = absurd cc
line_past (suc n) (b ∷ z) f e =
    elim (cases_Bool (b == 10)) [
      | inl hit ↦
          let e2 : option_map (λ (x : Bytes). b ∷ x) (first_lines (suc (newlines (take n z))) z) ≡ Some f = sym (rw hit refl) ∙ e in
          let g = map_some (λ (x : Bytes). b ∷ x) (first_lines (suc (newlines (take n z))) z) f e2 in
          let more = line_past n z g.0 g.1 in
          let l : length f ≡ suc (length g.0) = ap length (sym g.2) in omega arith
      | inr miss ↦
          let k : newlines (b ∷ take n z) ≡ newlines (take n z) = rw miss refl in
          let e1 : first_lines (suc (newlines (take n z))) (b ∷ z) ≡ Some f = subst (λ (k : ℕ). first_lines (suc k) (b ∷ z) ≡ Some f) k e in
          let e2 : option_map (λ (x : Bytes). b ∷ x) (first_lines (suc (newlines (take n z))) z) ≡ Some f = sym (rw miss refl) ∙ e1 in
          let g = map_some (λ (x : Bytes). b ∷ x) (first_lines (suc (newlines (take n z))) z) f e2 in
          let more = line_past n z g.0 g.1 in
          let l : length f ≡ suc (length g.0) = ap length (sym g.2) in omega arith
    ]

-- a longer front of the same text has the shorter part, and the next byte
pub longer_front : (s w f r : Bytes) (b : ℕ) → s ++ (b ∷ w) ≡ f ++ r → length s < length f → (g : Bytes) × (f ≡ s ++ (b ∷ g))
longer_front [] w [] r b e l = absurd (omega arith)
longer_front [] w (c ∷ f) r b e l = let same : b ≡ c = cc in (f, ap (λ x. x ∷ f) (sym same))
longer_front (a ∷ s) w [] r b e l = absurd (omega arith)
longer_front (a ∷ s) w (c ∷ f) r b e l =
    let same : a ≡ c = cc in
    let inner : s ++ (b ∷ w) ≡ f ++ r = cc in
    let g = longer_front s w f r b inner (omega arith) in
    (g.0, ap (λ (x : Bytes). c ∷ x) g.1 ∙ ap (λ x. x ∷ (s ++ (b ∷ g.0))) (sym same))

-- ---- the newlines of whole lines

-- so many bytes and a newline are as many lines as they have newlines, and one
pub script_lines : (s : Bytes) → first_lines (suc (newlines s)) (s ++ (10 ∷ [])) ≡ Some (s ++ (10 ∷ []))
script_lines [] = refl
script_lines (b ∷ s) =
    elim (cases_Bool (b == 10)) [
      | inl hit ↦ let k : suc (newlines s) ≡ newlines (b ∷ s) = rw hit refl in subst (λ (k : ℕ). first_lines (suc k) (b ∷ (s ++ (10 ∷ []))) ≡ Some (b ∷ (s ++ (10 ∷ [])))) k (cons_hit b (suc (newlines s)) (s ++ (10 ∷ [])) (s ++ (10 ∷ [])) hit (script_lines s))
      | inr miss ↦ let k : newlines s ≡ newlines (b ∷ s) = rw miss refl in subst (λ (k : ℕ). first_lines (suc k) (b ∷ (s ++ (10 ∷ []))) ≡ Some (b ∷ (s ++ (10 ∷ [])))) k (cons_miss b (newlines s) (s ++ (10 ∷ [])) (s ++ (10 ∷ [])) miss (script_lines s))
    ]

-- ---- the script

-- so many letters
abbrev fill : ℕ → Bytes
fill zero = []
fill (suc n) = 97 ∷ fill n

letters : (n : ℕ) → length (fill n) ≡ n
letters zero = refl
letters (suc n) = ap suc (letters n)

letters_text : (n : ℕ) → IsUtf8 (fill n)
letters_text n = IsUtf8-from_ascii (fill n) (ascii n)
  where
    ascii : (n : ℕ) → IsAscii (fill n)
    ascii zero = search rules
    ascii (suc n) = search (rules, ascii n)

module _ (L : Bytes → Type 0) (len : ℕ) (reads : ReadsForm (IsScript len) (script_at len)) where
  pub stops_in_script : (w : Bytes) → L w → (z : Bytes) → ((f r : Bytes) → first_lines (newlines (take len z)) z ≡ Some f → z ≡ f ++ r → IsUtf8 f)
      → script_at len z ≡ None → StopsAfter (Then (IsScript len) (λ s. L)) (newlines (take len z)) z
  stops_in_script w sample z text none =
      let n = newlines (take len z) in
      let f = lines_within len z in
      let r = front n z f.0 f.1 in
      let s = f.0 ++ fill (len - length f.0) in
      let long : length s ≡ len = simp (length-append, letters) (omega (arith, f.2)) in
      let is-text : IsUtf8 s = IsUtf8-append f.0 (fill (len - length f.0)) (text f.0 r.0 f.1 r.1) (letters_text (len - length f.0)) in
      record {
        begins = (
          (s ++ (10 ∷ [])) ++ w,
          (s, s ++ (10 ∷ []), w, record { length = long; text = is-text; is = refl }, sample, refl),
          record {
            lines = f.0;
            first = f.1;
            second = ap (first_lines n) (append_assoc s (10 ∷ []) w ∙ append_assoc f.0 (fill (len - length f.0)) (10 ∷ w)) ∙ front_of n f.0 (fill (len - length f.0) ++ (10 ∷ w)) (whole n z f.0 f.1);
          },
        );
        no_more = λ b.
            let t = b.1 in
            let same = b.2 in
            let past = line_past len z same.lines same.first in
            let p = front (suc n) z same.lines same.first in
            let q = front (suc n) b.0 same.lines same.second in
            let parts : t.0 ++ (10 ∷ t.2) ≡ same.lines ++ q.0 = sym (append_assoc t.0 (10 ∷ []) t.2) ∙ ap (λ (x : Bytes). x ++ t.2) (sym t.3.is) ∙ sym t.5 ∙ q.1 in
            let shorter : length t.0 < length same.lines = omega (arith, t.3.length) in
            let g = longer_front t.0 t.2 same.lines q.0 10 parts shorter in
            let of-z : z ≡ t.1 ++ (g.0 ++ p.0) = p.1 ∙ ap (λ (x : Bytes). x ++ p.0) (g.1 ∙ sym (append_assoc t.0 (10 ∷ []) g.0) ∙ ap (λ (x : Bytes). x ++ g.0) (sym t.3.is)) ∙ append_assoc t.1 g.0 p.0 in
            let found : script_at len z ≡ Some (t.0, g.0 ++ p.0) = ap (script_at len) of-z ∙ reads.again t.0 t.1 (g.0 ++ p.0) t.3 in
            cc;
        no_text = λ t. let found : script_at len z ≡ Some (t.0, t.2) = ap (script_at len) t.5 ∙ reads.again t.0 t.1 t.2 t.3 in cc;
      }

-- ---- ends of lines

last_or_more : (b n : ℕ) (l : Bytes) → ((k : ℕ) → first_lines (suc k) l ≡ Some l → (f : Bytes) × (l ≡ f ++ (10 ∷ []))) → first_lines n l ≡ Some l → b ≡ 10 → (f : Bytes) × (b ∷ l ≡ f ++ (10 ∷ []))
last_or_more b zero [] more e is = ([], ap (λ x. x ∷ []) is)
last_or_more b zero (c ∷ l) more e is = absurd cc
last_or_more b (suc n) l more e is = let r = more n e in (b ∷ r.0, ap (λ (x : Bytes). b ∷ x) r.1)

pub line_ends : (n : ℕ) (l : Bytes) → first_lines (suc n) l ≡ Some l → (f : Bytes) × (l ≡ f ++ (10 ∷ []))
line_ends n [] e = absurd cc
line_ends n (b ∷ l) e =
    let g = map_some (λ (x : Bytes). b ∷ x) (if b == 10 then first_lines n l else first_lines (suc n) l) (b ∷ l) e in
    let same : g.0 ≡ l = cc in
    elim (cases_Bool (b == 10)) [
      | inl hit ↦
          let inner : first_lines n l ≡ Some l = sym (rw hit refl) ∙ g.1 ∙ ap (λ (x : Bytes). Some x) same in
          last_or_more b n l (λ k q. line_ends k l q) inner (eqb-true b 10 hit)
      | inr miss ↦
          let inner : first_lines (suc n) l ≡ Some l = sym (rw miss refl) ∙ g.1 ∙ ap (λ (x : Bytes). Some x) same in
          let r = line_ends n l inner in
          (b ∷ r.0, ap (λ (x : Bytes). b ∷ x) r.1)
    ]

pub at_end : (a b : Bytes) → get_or (a ++ b) (length a) 0 ≡ get_or b 0 0
at_end [] b = refl
at_end (x ∷ a) b = at_end a b

-- whole lines at the front of a text are a text
pub whole_text : (n : ℕ) (f r : Bytes) → IsUtf8 (f ++ r) → first_lines n f ≡ Some f → IsUtf8 f
whole_text zero [] r u e = IsUtf8-nil
whole_text zero (b ∷ f) r u e = absurd cc
whole_text (suc n) f r u e =
    let g = line_ends n f e in
    let n : length f ≡ length g.0 + 1 = ap length g.1 ∙ length-append g.0 (10 ∷ []) in
    let at : get_or (f ++ r) (length g.0) 0 ≡ 10 = ap (λ (x : Bytes). get_or x (length g.0) 0) (ap (λ (x : Bytes). x ++ r) g.1 ∙ append_assoc g.0 (10 ∷ []) r) ∙ at_end g.0 (10 ∷ r) in
    let b = IsCharBoundary-after_ascii (f ++ r) (length g.0) u (simp length-append (omega (arith, n))) (omega (arith, at)) in
    subst IsUtf8 (take_at f r (length g.0 + 1) n) (IsUtf8-take (f ++ r) (length g.0 + 1) u b)

-- ---- the reader of the script

pub sample_script : (len : ℕ) → (s : Bytes) × (l : Bytes) × IsScript len s l
sample_script len = (fill len, fill len ++ (10 ∷ []), record { length = letters len; text = letters_text len; is = refl })

take_whole : (s rest : Bytes) (len : ℕ) → length s ≡ len → take len ((s ++ (10 ∷ [])) ++ rest) ≡ s
take_whole s rest len e = ap (take len) (append_assoc s (10 ∷ []) rest) ∙ take_at s (10 ∷ rest) len e

pair_parts : (a x b y : Bytes) → ◌≡◌ {A = Bytes × Bytes} (a, b) (x, y) → (a ≡ x) × (b ≡ y)
pair_parts a x b y e = (ap (λ (p : Bytes × Bytes). p.0) e, ap (λ (p : Bytes × Bytes). p.1) e)

ap2 : {a b c d : Bytes} → a ≡ b → c ≡ d → ◌≡◌ {A = Option (Bytes × Bytes)} (Some (a, c)) (Some (b, d))
ap2 p q = cc

drop_here : (n : ℕ) (z : Bytes) → n < length z → slice_index z n ≡ 10 → drop n z ≡ 10 ∷ drop (n + 1) z
drop_here n z l e = rw (add-one, drop-cons z n 0) (ap (λ x. x ∷ drop (suc n) z) e)

pub script_reads : (len : ℕ) → ReadsForm (IsScript len) (script_at len)
unfolding script_at
script_reads len = record {
  takes = λ z v rest e.
      let c = cond_some (nat_lt len (length z) && ((slice_index z len == 10) && is_utf8 (take len z))) (take len z, drop (len + 1) z) (v, rest) e in
      let p = and_parts (nat_lt len (length z)) ((slice_index z len == 10) && is_utf8 (take len z)) c.0 in
      let q = and_parts (slice_index z len == 10) (is_utf8 (take len z)) p.1 in
      let both = pair_parts (take len z) v (drop (len + 1) z) rest c.1 in
      let v-is = both.0 in
      let rest-is = both.1 in
      let long : len < length z = ltb-true len (length z) p.0 in
      let n : length (take len z) ≡ len = omega (arith, length-take len z) in
      let tail : drop len z ≡ 10 ∷ drop (len + 1) z = drop_here len z long (eqb-true (slice_index z len) 10 q.0) in (
        take len z ++ (10 ∷ []),
        subst (λ (s : Bytes). IsScript len s (take len z ++ (10 ∷ []))) v-is (record { length = n; text = IsUtf8-from_is_utf8 (take len z) q.1; is = refl }),
        sym (take-append-drop len z) ∙ ap (λ (x : Bytes). take len z ++ x) (tail ∙ ap (λ (x : Bytes). 10 ∷ x) rest-is) ∙ sym (append_assoc (take len z) (10 ∷ []) rest),
      );
  again = λ v l rest f.
      let z = (v ++ (10 ∷ [])) ++ rest in
      let parts : z ≡ v ++ (10 ∷ rest) = append_assoc v (10 ∷ []) rest in
      let t : take len z ≡ v = take_whole v rest len f.length in
      let d : drop (len + 1) z ≡ rest = drop_at (v ++ (10 ∷ [])) rest (len + 1) (length-append v (10 ∷ []) ∙ ap (λ n. n + 1) f.length) in
      let long : nat_lt len (length z) ≡ true = lt-ltb len (length z) (simp length-append (omega (arith, f.length))) in
      let at : (slice_index z len == 10) ≡ true = eq-eqb (slice_index z len) 10 (ap (λ n. slice_index z n) (sym f.length) ∙ ap (λ x. slice_index x (length v)) parts ∙ at_end v (10 ∷ rest)) in
      let u : is_utf8 (take len z) ≡ true = ap is_utf8 t ∙ is_utf8-from_IsUtf8 v f.text in
      rw f.is (rw (long, at, u) (ap2 t d));
}
