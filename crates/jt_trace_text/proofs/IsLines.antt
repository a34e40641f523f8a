-- Texts of one line, in parts.
use Rattle.std.proofs.Common.{◌≡◌, true, false, not, [], ◌∷◌, ◌++◌, Some, refl, sym, ap, subst, ◌∙◌, append_assoc, inl, inr}
use Rattle.std.specs.Prelude.{◌==◌}
use Rattle.std.proofs.lemmas.Bool.{cases_Bool, and_parts}
use Rattle.jt_trace_text.specs.Lines.{Bytes, first_lines}
use Rattle.jt_trace_text.specs.Readers.{lacks}
use Rattle.jt_trace_text.proofs.Pieces.{lacks-append}

line : (w : Bytes) → lacks 10 w ≡ true → first_lines 1 (w ++ (10 ∷ [])) ≡ Some (w ++ (10 ∷ []))
line [] e = refl
line (b ∷ w) e =
    let p = and_parts (not (b == 10)) (lacks 10 w) e in
    let miss : (b == 10) ≡ false = elim (cases_Bool (b == 10)) [ inl hit ↦ absurd (let q : not true ≡ true = ap not (sym hit) ∙ p.0 in cc) | inr n ↦ n ] in
    rw (miss, line w p.1) refl

-- a line with its newline
pub record IsLine (l : Bytes) : Type 0 where
  pub word : Bytes
  pub free : lacks 10 word ≡ true
  pub is : l ≡ word ++ (10 ∷ [])

pub is_line : (l : Bytes) → IsLine l → first_lines 1 l ≡ Some l
is_line l f = subst (λ (x : Bytes). first_lines 1 x ≡ Some x) (sym f.is) (line f.word f.free)

pub line_behind : (w l rest : Bytes) → lacks 10 w ≡ true → IsLine rest → l ≡ w ++ rest → IsLine l
line_behind w l rest e f is = record { word = w ++ f.word; free = lacks-append 10 w f.word e f.free; is = is ∙ ap (λ (x : Bytes). w ++ x) f.is ∙ sym (append_assoc w f.word (10 ∷ [])) }
