-- Strings: the loop over the bytes follows the parts.
use Rattle.std.proofs.Common.{◌≡◌, ◌≢◌, ℕ, suc, ◌+◌, ◌-◌, true, false, ◌⊎◌, inl, inr, List, [], ◌∷◌, ◌++◌, length, take, drop, Ok, Err, refl, sym, ap, ◌∙◌, arith, append_assoc, append-nil, length-append}
use Rattle.std.specs.Prelude.{slice_index}
use Rattle.std.proofs.lemmas.Bool.{cases_Bool, cases_eq, ne_eqb}
use Rattle.std.proofs.Math.Seq.{take-append_seam}
use Rattle.jt_lexer.specs.declared.piece.Shape.TheVariants as shape
use Rattle.jt_lexer.specs.declared.piece.Defect.TheVariants as defect
use Rattle.jt_lexer.specs.Pieces.{Text, is_escape, string_from}
use Rattle.jt_lexer.specs.Lexer.{escape, unescaped}
use Rattle.jt_lexer.specs.Rules.{Part, plain, escaped, part_bytes, meaning, AreParts, IsString, IsOpenString, IsNoPart, IsBadString}

-- what stands between the quotes
pub inside : (e : Text) → drop 1 (take (length (34 ∷ e ++ 34 ∷ []) - 1) (34 ∷ e ++ 34 ∷ [])) ≡ e
inside e =
    let n : length (34 ∷ e ++ 34 ∷ []) - 1 ≡ suc (length e) = omega (arith, length-append e (34 ∷ [])) in
    ap (λ k. drop 1 (take k (34 ∷ e ++ 34 ∷ []))) n ∙ take-append_seam e (34 ∷ [])

plain_step : (at b : ℕ) (y : Text) → b ≢ 34 → b ≢ 36 → b ≢ 92 → string_from false at (b ∷ y) ≡ string_from false (at + 1) y
plain_step at b y h k l =
    let quote = ne_eqb b 34 h in
    let dollar = ne_eqb b 36 k in
    let backslash = ne_eqb b 92 l in
    rw (quote, dollar, backslash) refl

escape_step : (at b : ℕ) (y : Text) → is_escape b ≡ true → string_from false at (92 ∷ b ∷ y) ≡ string_from false (at + 1 + 1) y
escape_step at b y h = rw h refl

parts_read : (ps : List Part) (at : ℕ) (y : Text) → AreParts ps → string_from false at (part_bytes ps ++ y) ≡ string_from false (at + length (part_bytes ps)) y
parts_read [] at y h = let e : at ≡ at + 0 = omega arith in ap (λ k. string_from false k y) e
parts_read (plain b ∷ ps) at y h =
    let place : at + 1 + length (part_bytes ps) ≡ at + suc (length (part_bytes ps)) = omega arith in
    plain_step at b (part_bytes ps ++ y) h.0 h.1 h.2 ∙ (parts_read ps (at + 1) y h.3 ∙ ap (λ k. string_from false k y) place)
parts_read (escaped b ∷ ps) at y h =
    let place : at + 1 + 1 + length (part_bytes ps) ≡ at + suc (suc (length (part_bytes ps))) = omega arith in
    escape_step at b (part_bytes ps ++ y) h.0 ∙ (parts_read ps (at + 1 + 1) y h.1 ∙ ap (λ k. string_from false k y) place)

parts_mean : (ps : List Part) → AreParts ps → unescaped false (part_bytes ps) ≡ meaning ps
parts_mean [] h = refl
parts_mean (plain b ∷ ps) h = let backslash = ne_eqb b 92 h.2 in rw backslash (ap (λ w. b ∷ w) (parts_mean ps h.3))
parts_mean (escaped b ∷ ps) h = ap (λ w. escape b ∷ w) (parts_mean ps h.1)

pub string_is : (z : Text) (bs : List ℕ) (n : ℕ) → IsString z bs n → string_from false 1 (drop 1 z) ≡ Ok (shape.Text, n)
string_is z bs n h =
    let long : 1 + length (part_bytes h.0) + 1 ≡ length (part_bytes h.0) + 2 = omega arith in
    ap (λ y. string_from false 1 (drop 1 y)) h.2 ∙ (parts_read h.0 1 (34 ∷ h.1) h.3 ∙ ap (λ k. Ok (shape.Text, k)) (long ∙ sym h.4))

pub string_means : (z : Text) (bs : List ℕ) (n : ℕ) → IsString z bs n → unescaped false (drop 1 (take (length (take n z) - 1) (take n z))) ≡ bs
string_means z bs n h =
    let whole = 34 ∷ part_bytes h.0 ++ 34 ∷ [] in
    let long : length whole ≡ length (part_bytes h.0) + 2 = omega (arith, length-append (part_bytes h.0) (34 ∷ [])) in
    let front : take n z ≡ whole =
    ap (take n) h.2 ∙ (ap (λ k. take k (34 ∷ part_bytes h.0 ++ 34 ∷ h.1)) (h.4 ∙ sym long)
    ∙ (ap (λ y. take (length whole) (34 ∷ y)) (sym (append_assoc (part_bytes h.0) (34 ∷ []) h.1)) ∙ take-append_seam whole h.1)) in
    ap (λ y. unescaped false (drop 1 (take (length y - 1) y))) front ∙ (ap (unescaped false) (inside (part_bytes h.0)) ∙ (parts_mean h.0 h.3 ∙ sym h.5))

pub open_string_is : (z : Text) → IsOpenString z → string_from false 1 (drop 1 z) ≡ Err defect.OpenString
open_string_is z h = ap (λ y. string_from false 1 (drop 1 y)) h.1 ∙ (ap (string_from false 1) (sym (append-nil (part_bytes h.0))) ∙ parts_read h.0 1 [] h.2)

no_escape : (at : ℕ) (y : Text) → is_escape (slice_index y 0) ≡ false → string_from true (at + 1) y ≡ Err (defect.BadCharacter at)
no_escape at [] h = let e : at + 1 - 1 ≡ at = omega arith in ap (λ k. Err (defect.BadCharacter k)) e
no_escape at (b ∷ y) h = let e : at + 1 - 1 ≡ at = omega arith in rw h (ap (λ k. Err (defect.BadCharacter k)) e)

no_part_step : (at : ℕ) (y : Text) → IsNoPart y → string_from false at y ≡ Err (defect.BadCharacter at)
no_part_step at [] (inl h) = absurd (omega (arith, h))
no_part_step at [] (inr h) = absurd (omega (arith, h.0))
no_part_step at (b ∷ y) (inl h) = ap (λ x. string_from false at (x ∷ y)) h
no_part_step at (b ∷ y) (inr h) = ap (λ x. string_from false at (x ∷ y)) h.0 ∙ no_escape at y h.1

pub bad_string_is : (z : Text) (n : ℕ) → IsBadString z n → string_from false 1 (drop 1 z) ≡ Err (defect.BadCharacter n)
bad_string_is z n h =
    let place : 1 + length (part_bytes h.0) ≡ length (part_bytes h.0) + 1 = omega arith in
    ap (λ y. string_from false 1 (drop 1 y)) h.2 ∙ (parts_read h.0 1 h.1 h.3 ∙ (no_part_step (1 + length (part_bytes h.0)) h.1 h.4 ∙ ap (λ k. Err (defect.BadCharacter k)) (place ∙ sym h.5)))

-- ---- each text behind a quote is of parts, up to a quote, a byte that is no part, or its end

abbrev pub PartsEnd : Text → Type 0
PartsEnd rest = (rest ≡ []) ⊎ (((y : Text) × (rest ≡ 34 ∷ y)) ⊎ IsNoPart rest)

abbrev pub OfParts : Text → Type 0
OfParts z = (ps : List Part) × (rest : Text) × (z ≡ part_bytes ps ++ rest) × AreParts ps × PartsEnd rest

with_plain : (b : ℕ) (z : Text) → b ≢ 34 → b ≢ 36 → b ≢ 92 → OfParts z → OfParts (b ∷ z)
with_plain b z h k l p = (plain b ∷ p.0, p.1, ap (λ y. b ∷ y) p.2, (h, k, l, p.3), p.4)

with_escape : (b c : ℕ) (z : Text) → b ≡ 92 → is_escape c ≡ true → OfParts z → OfParts (b ∷ c ∷ z)
with_escape b c z h k p = (escaped c ∷ p.0, p.1, ap (λ x. x ∷ c ∷ z) h ∙ ap (λ y. 92 ∷ c ∷ y) p.2, (k, p.3), p.4)

ends_in : (z : Text) → PartsEnd z → OfParts z
ends_in z h = ([], z, refl, tt, h)

pub of_parts : (z : Text) → OfParts z
of_parts [] = ends_in [] (inl refl)
of_parts (b ∷ []) = elim (cases_eq b 34) [
  | inl e ↦ ends_in (b ∷ []) (inr (inl ([], ap (λ x. x ∷ []) e)))
  | inr e ↦ elim (cases_eq b 36) [
    | inl f ↦ ends_in (b ∷ []) (inr (inr (inl f)))
    | inr f ↦ elim (cases_eq b 92) [
      | inl g ↦ ends_in (b ∷ []) (inr (inr (inr (g, refl))))
      | inr g ↦ with_plain b [] e f g (ends_in [] (inl refl))
    ]
  ]
]
of_parts (b ∷ c ∷ z) = elim (cases_eq b 34) [
  | inl e ↦ ends_in (b ∷ c ∷ z) (inr (inl (c ∷ z, ap (λ x. x ∷ c ∷ z) e)))
  | inr e ↦ elim (cases_eq b 36) [
    | inl f ↦ ends_in (b ∷ c ∷ z) (inr (inr (inl f)))
    | inr f ↦ elim (cases_eq b 92) [
      | inl g ↦ elim (cases_Bool (is_escape c)) [
        | inl k ↦ with_escape b c z g k (of_parts z)
        | inr k ↦ ends_in (b ∷ c ∷ z) (inr (inr (inr (g, k))))
      ]
      | inr g ↦ with_plain b (c ∷ z) e f g (of_parts (c ∷ z))
    ]
  ]
]
