-- Nested comments: the loop over the bytes follows the marks.
use Rattle.std.proofs.Common.{◌≡◌, ℕ, zero, suc, ◌+◌, ◌-◌, false, ◌&&◌, ◌⊎◌, inl, inr, List, [], ◌∷◌, Option, Some, None, Ok, Err, refl, sym, ap, ◌∙◌, arith, add-one}
use Rattle.std.specs.Prelude.{slice_index, ◌==◌}
use Rattle.std.specs.Option.{is_some}
use Rattle.std.proofs.lemmas.Bool.{false≢true, cases_Bool, and_parts, and_right, eqb-true, ne_eqb}
use Rattle.jt_lexer.specs.declared.piece.Shape.TheVariants as shape
use Rattle.jt_lexer.specs.declared.piece.Defect.TheVariants as defect
use Rattle.jt_lexer.specs.Pieces.{Text, comment_end, comment_piece, comment}
use Rattle.jt_lexer.specs.Rules.{CommentMark, opening, closing, other, ReadsMarks, depth, size, IsNestedComment, IsOpenComment}

abbrev some_or : ℕ → Option ℕ → ℕ
some_or d None = d
some_or d (Some n) = n

other_step : (outer at b : ℕ) (y : Text) → (b == 35 && slice_index y 0 == 61) ≡ false → (b == 61 && slice_index y 0 == 35) ≡ false → comment_end outer false at (b ∷ y) ≡ comment_end outer false (at + 1) y
other_step outer at b y h k = rw (h, k) refl

closing_step : (outer at : ℕ) (y : Text) → comment_end (suc outer) false at (61 ∷ 35 ∷ y) ≡ comment_end outer false (at + 1 + 1) y
closing_step outer at y =
    let one : suc outer - 1 ≡ outer = omega arith in
    let inner : (suc outer == 0) ≡ false = ne_eqb (suc outer) 0 (λ e. absurd (omega (arith, e))) in
    rw inner (ap (λ n. comment_end n false (at + 1 + 1) y) one)

marks_read : (ms : List CommentMark) (outer d at : ℕ) (z rest : Text) → ReadsMarks ms z rest → depth outer ms ≡ Some d → comment_end outer false at z ≡ comment_end d false (at + size ms) rest
marks_read [] outer d at z rest h e =
    let place : at ≡ at + 0 = omega arith in
    ap (comment_end outer false at) h ∙ (ap (λ n. comment_end n false at rest) (ap (some_or outer) e) ∙ ap (λ k. comment_end d false k rest) place)
marks_read (opening ∷ ms) outer d at z rest h e =
    let place : at + 1 + 1 + size ms ≡ at + (2 + size ms) = omega arith in
    ap (comment_end outer false at) h.1
    ∙ (ap (λ n. comment_end n false (at + 1 + 1) h.0) (add-one outer)
    ∙ (marks_read ms (suc outer) d (at + 1 + 1) h.0 rest h.2 e ∙ ap (λ k. comment_end d false k rest) place))
marks_read (closing ∷ ms) zero d at z rest h e = absurd (false≢true (ap is_some e))
marks_read (closing ∷ ms) (suc outer) d at z rest h e =
    let place : at + 1 + 1 + size ms ≡ at + (2 + size ms) = omega arith in
    ap (comment_end (suc outer) false at) h.1
    ∙ (closing_step outer at h.0
    ∙ (marks_read ms outer d (at + 1 + 1) h.0 rest h.2 e ∙ ap (λ k. comment_end d false k rest) place))
marks_read (other b ∷ ms) outer d at z rest h e =
    let place : at + 1 + size ms ≡ at + (1 + size ms) = omega arith in
    ap (comment_end outer false at) h.1
    ∙ (other_step outer at b h.0 h.2 h.3
    ∙ (marks_read ms outer d (at + 1) h.0 rest h.4 e ∙ ap (λ k. comment_end d false k rest) place))

pub nested_is : (z : Text) (n : ℕ) → IsNestedComment z n → comment z ≡ Ok (shape.Blank, n)
unfolding comment
nested_is z n h =
    let long : 2 + size h.2 + 2 ≡ size h.2 + 4 = omega arith in
    ap comment h.3 ∙ (ap comment_piece (marks_read h.2 0 0 2 h.0 (61 ∷ 35 ∷ h.1) h.4 h.5) ∙ ap (λ k. Ok (shape.Blank, k)) (long ∙ sym h.6))

pub open_comment_is : (z : Text) → IsOpenComment z → comment z ≡ Err defect.OpenString
unfolding comment
open_comment_is z h = ap comment h.3 ∙ ap comment_piece (marks_read h.1 0 h.2 2 h.0 [] h.4 h.5)

-- ---- each text behind `#=` closes it or doesn't

abbrev Ends : ℕ → Text → Type 0
Ends outer z = ((ms : List CommentMark) × (rest : Text) × ReadsMarks ms z (61 ∷ 35 ∷ rest) × (depth outer ms ≡ Some 0)) ⊎ ((ms : List CommentMark) × (d : ℕ) × ReadsMarks ms z [] × (depth outer ms ≡ Some d))

opened : (outer b c : ℕ) (y : Text) → b ≡ 35 → c ≡ 61 → Ends (suc outer) y → Ends outer (b ∷ c ∷ y)
opened outer b c y h k (inl e) = inl (opening ∷ e.0, e.1, (y, ap (λ x. x ∷ c ∷ y) h ∙ ap (λ x. 35 ∷ x ∷ y) k, e.2), e.3)
opened outer b c y h k (inr e) = inr (opening ∷ e.0, e.1, (y, ap (λ x. x ∷ c ∷ y) h ∙ ap (λ x. 35 ∷ x ∷ y) k, e.2), e.3)

closed_one : (outer b c : ℕ) (y : Text) → b ≡ 61 → c ≡ 35 → Ends outer y → Ends (suc outer) (b ∷ c ∷ y)
closed_one outer b c y h k (inl e) = inl (closing ∷ e.0, e.1, (y, ap (λ x. x ∷ c ∷ y) h ∙ ap (λ x. 61 ∷ x ∷ y) k, e.2), e.3)
closed_one outer b c y h k (inr e) = inr (closing ∷ e.0, e.1, (y, ap (λ x. x ∷ c ∷ y) h ∙ ap (λ x. 61 ∷ x ∷ y) k, e.2), e.3)

closed_by : (outer b c : ℕ) (y : Text) → b ≡ 61 → c ≡ 35 → ((n : ℕ) → Ends n y) → Ends outer (b ∷ c ∷ y)
closed_by zero b c y h k rec = inl ([], y, ap (λ x. x ∷ c ∷ y) h ∙ ap (λ x. 61 ∷ x ∷ y) k, refl)
closed_by (suc outer) b c y h k rec = closed_one outer b c y h k (rec outer)

passed : (outer b : ℕ) (y : Text) → (b == 35 && slice_index y 0 == 61) ≡ false → (b == 61 && slice_index y 0 == 35) ≡ false → Ends outer y → Ends outer (b ∷ y)
passed outer b y h k (inl e) = inl (other b ∷ e.0, e.1, (y, refl, h, k, e.2), e.3)
passed outer b y h k (inr e) = inr (other b ∷ e.0, e.1, (y, refl, h, k, e.2), e.3)

pub comment_ends : (z : Text) (outer : ℕ) → Ends outer z
comment_ends [] outer = inr ([], outer, refl, refl)
comment_ends (b ∷ []) outer = passed outer b [] (and_right (b == 35) false refl) (and_right (b == 61) false refl) (inr ([], outer, refl, refl))
comment_ends (b ∷ c ∷ y) outer = elim (cases_Bool (b == 35 && c == 61)) [
  | inl e ↦ let parts = and_parts (b == 35) (c == 61) e in opened outer b c y (eqb-true b 35 parts.0) (eqb-true c 61 parts.1) (comment_ends y (suc outer))
  | inr e ↦ elim (cases_Bool (b == 61 && c == 35)) [
    | inl f ↦ let parts = and_parts (b == 61) (c == 35) f in closed_by outer b c y (eqb-true b 61 parts.0) (eqb-true c 35 parts.1) (comment_ends y)
    | inr f ↦ passed outer b (c ∷ y) e f (comment_ends (c ∷ y) outer)
  ]
]
