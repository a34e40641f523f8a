-- Only one line is the first bad one.
use Rattle.std.proofs.Common.{◌≡◌, ℕ, zero, suc, ◌+◌, ◌-◌, ◌<◌, inl, inr, [], ◌∷◌, Some, refl, sym, ap, subst, ◌∙◌, arith}
use Rattle.std.specs.Prelude.{◌==◌, if◌then◌else◌}
use Rattle.std.proofs.lemmas.Bool.{cases_Bool, cases_order}
use Rattle.jt_trace_text.specs.Lines.{Bytes, first_lines, StopsAfter, IsFirstBad}
use Rattle.jt_trace_text.proofs.Fronts.{map_some, cons_hit, cons_miss}

-- fewer lines in common
fewer : (n k m : ℕ) (z w f : Bytes) → m ≡ n + k → first_lines m z ≡ Some f → first_lines m w ≡ Some f → (g : Bytes) × (first_lines n z ≡ Some g) × (first_lines n w ≡ Some g)
fewer zero k m z w f is e q = ([], refl, refl)
fewer (suc n) k zero z w f is e q = absurd (omega arith)
fewer (suc n) k (suc m) [] w f is e q = absurd cc
fewer (suc n) k (suc m) (b ∷ z) [] f is e q = absurd cc
fewer (suc n) k (suc m) (b ∷ z) (d ∷ w) f is e q =
    let x = map_some (λ (y : Bytes). b ∷ y) (if b == 10 then first_lines m z else first_lines (suc m) z) f e in
    let y = map_some (λ (y : Bytes). d ∷ y) (if d == 10 then first_lines m w else first_lines (suc m) w) f q in
    let both : b ∷ x.0 ≡ d ∷ y.0 = x.2 ∙ sym y.2 in
    let head : b ≡ d = cc in
    let tail : y.0 ≡ x.0 = cc in
    let other : (if b == 10 then first_lines m w else first_lines (suc m) w) ≡ Some x.0 = ap (λ (c : ℕ). if c == 10 then first_lines m w else first_lines (suc m) w) head ∙ y.1 ∙ ap (λ (v : Bytes). Some v) tail in
    subst (λ (c : ℕ). (g : Bytes) × (first_lines (suc n) (b ∷ z) ≡ Some g) × (first_lines (suc n) (c ∷ w) ≡ Some g)) head
    (elim (cases_Bool (b == 10)) [
      | inl hit ↦
          let r = fewer n k m z w x.0 (omega arith) (sym (rw hit refl) ∙ x.1) (sym (rw hit refl) ∙ other) in
          (b ∷ r.0, cons_hit b n z r.0 hit r.1, cons_hit b n w r.0 hit r.2)
      | inr miss ↦
          let r = fewer (suc n) k (suc m) z w x.0 is (sym (rw miss refl) ∙ x.1) (sym (rw miss refl) ∙ other) in
          (b ∷ r.0, cons_miss b n z r.0 miss r.1, cons_miss b n w r.0 miss r.2)
    ])

less : (T : Bytes → Type 0) (n m : ℕ) (z : Bytes) → n < m → StopsAfter T n z → StopsAfter T m z → ⊥
less T n m z l s t =
    let b = t.begins in
    let r = fewer (suc n) (m - suc n) m z b.0 b.2.lines (omega arith) b.2.first b.2.second in
    s.no_more (b.0, b.1, record { lines = r.0; first = r.1; second = r.2 })

pub one_line : (T : Bytes → Type 0) (j k : ℕ) (z : Bytes) → IsFirstBad T j z → IsFirstBad T k z → j ≡ k
one_line T j k z a b = elim (cases_order a.0 b.0) [
  | inl e ↦ let same : a.0 ≡ b.0 = e in omega (arith, a.1, b.1, same)
  | inr (inl l) ↦ absurd (less T a.0 b.0 z l a.2 b.2)
  | inr (inr l) ↦ absurd (less T b.0 a.0 z l b.2 a.2)
]
