-- First lines of texts in parts.
use Rattle.std.proofs.Common.{◌≡◌, ℕ, zero, suc, ◌+◌, inl, inr, true, false, [], ◌∷◌, ◌++◌, Option, Some, None, refl, sym, ap, subst, ◌∙◌, append_assoc, arith}
use Rattle.std.specs.Prelude.{option_map, ◌==◌, if◌then◌else◌}
use Rattle.std.proofs.lemmas.Bool.{cases_Bool}
use Rattle.std.proofs.lemmas.List.{append_cancel_left, append-nil}
use Rattle.jt_trace_text.specs.Lines.{Bytes, first_lines, StopsAfter}

pub map_some : {A B : Type 0} (f : A → B) (o : Option A) (y : B) → option_map f o ≡ Some y → (x : A) × (o ≡ Some x) × (f x ≡ y)
map_some f (Some x) y e = (x, refl, cc)
map_some f None y e = absurd cc

some_is : {A : Type 0} (x y : A) → Some x ≡ Some y → x ≡ y
some_is x y e = cc

head_is : (a b : ℕ) (x y : Bytes) → a ∷ x ≡ b ∷ y → (a ≡ b) × (x ≡ y)
head_is a b x y e = (cc, cc)

map_twice : (b : ℕ) (l : Bytes) (o : Option Bytes) → option_map (λ (w : Bytes). b ∷ w) (option_map (λ (w : Bytes). l ++ w) o) ≡ option_map (λ (w : Bytes). (b ∷ l) ++ w) o
map_twice b l (Some w) = refl
map_twice b l None = refl

map_same : (o : Option Bytes) → option_map (λ (w : Bytes). [] ++ w) o ≡ o
map_same (Some w) = refl
map_same None = refl

-- a whole block of lines in front
pub block : (k n m : ℕ) (l z : Bytes) → first_lines k l ≡ Some l → m ≡ k + n → first_lines m (l ++ z) ≡ option_map (λ (w : Bytes). l ++ w) (first_lines n z)
block zero n m [] z e is = let same : m ≡ n = omega arith in rw same (sym (map_same (first_lines n z)))
block zero n m (b ∷ l) z e is = absurd cc
block (suc k) n m [] z e is = absurd cc
block (suc k) n zero (b ∷ l) z e is = absurd (omega arith)
block (suc k) n (suc m) (b ∷ l) z e is =
    elim (cases_Bool (b == 10)) [
      | inl hit ↦
          let f = map_some (λ (w : Bytes). b ∷ w) (if b == 10 then first_lines k l else first_lines (suc k) l) (b ∷ l) e in
          let inner : first_lines k l ≡ Some l = sym (rw hit refl) ∙ f.1 ∙ ap (λ (w : Bytes). Some w) (head_is b b f.0 l f.2).1 in
          rw (hit, block k n m l z inner (omega arith)) (map_twice b l (first_lines n z))
      | inr miss ↦
          let f = map_some (λ (w : Bytes). b ∷ w) (if b == 10 then first_lines k l else first_lines (suc k) l) (b ∷ l) e in
          let inner : first_lines (suc k) l ≡ Some l = sym (rw miss refl) ∙ f.1 ∙ ap (λ (w : Bytes). Some w) (head_is b b f.0 l f.2).1 in
          rw (miss, block (suc k) n (suc m) l z inner (omega arith)) (map_twice b l (first_lines n z))
    ]

-- the first lines are a front
pub front : (n : ℕ) (w f : Bytes) → first_lines n w ≡ Some f → (rest : Bytes) × (w ≡ f ++ rest)
front zero w f e = let is : [] ≡ f = some_is [] f e in (w, ap (λ (x : Bytes). x ++ w) is)
front (suc n) [] f e = absurd cc
front (suc n) (b ∷ w) f e =
    let g = map_some (λ (x : Bytes). b ∷ x) (if b == 10 then first_lines n w else first_lines (suc n) w) f e in
    elim (cases_Bool (b == 10)) [
      | inl hit ↦
          let r = front n w g.0 (sym (rw hit refl) ∙ g.1) in
          (r.0, ap (λ (x : Bytes). b ∷ x) r.1 ∙ ap (λ (x : Bytes). x ++ r.0) g.2)
      | inr miss ↦
          let r = front (suc n) w g.0 (sym (rw miss refl) ∙ g.1) in
          (r.0, ap (λ (x : Bytes). b ∷ x) r.1 ∙ ap (λ (x : Bytes). x ++ r.0) g.2)
    ]

-- a byte more in front
pub cons_hit : (b n : ℕ) (x y : Bytes) → (b == 10) ≡ true → first_lines n x ≡ Some y → first_lines (suc n) (b ∷ x) ≡ Some (b ∷ y)
cons_hit b n x y h e = rw h (ap (option_map (λ (w : Bytes). b ∷ w)) e)

pub cons_miss : (b n : ℕ) (x y : Bytes) → (b == 10) ≡ false → first_lines (suc n) x ≡ Some y → first_lines (suc n) (b ∷ x) ≡ Some (b ∷ y)
cons_miss b n x y h e = rw h (ap (option_map (λ (w : Bytes). b ∷ w)) e)

-- and are whole lines themselves
pub whole : (n : ℕ) (w f : Bytes) → first_lines n w ≡ Some f → first_lines n f ≡ Some f
whole zero w f e = e
whole (suc n) [] f e = absurd cc
whole (suc n) (b ∷ w) f e =
    let g = map_some (λ (x : Bytes). b ∷ x) (if b == 10 then first_lines n w else first_lines (suc n) w) f e in
    elim (cases_Bool (b == 10)) [
      | inl hit ↦
          let r = whole n w g.0 (sym (rw hit refl) ∙ g.1) in
          subst (λ (x : Bytes). first_lines (suc n) x ≡ Some x) g.2 (cons_hit b n g.0 g.0 hit r)
      | inr miss ↦
          let r = whole (suc n) w g.0 (sym (rw miss refl) ∙ g.1) in
          subst (λ (x : Bytes). first_lines (suc n) x ≡ Some x) g.2 (cons_miss b n g.0 g.0 miss r)
    ]

-- more text behind whole lines changes nothing
pub front_of : (n : ℕ) (f rest : Bytes) → first_lines n f ≡ Some f → first_lines n (f ++ rest) ≡ Some f
front_of n f rest e = block n 0 n f rest e (omega arith) ∙ ap (λ (x : Bytes). Some x) (append-nil f)

-- ---- stopping

-- behind a block that each text of one kind that begins with it shares
pub StopsAfter-behind : (T U : Bytes → Type 0) (k n m : ℕ) (l z : Bytes)
    → first_lines k l ≡ Some l → m ≡ k + n
    → ((r : Bytes) → U r → T (l ++ r)) → ((r : Bytes) → T (l ++ r) → U r)
    → StopsAfter U n z → StopsAfter T m (l ++ z)
StopsAfter-behind T U k n m l z lines is wraps unwraps s = record {
  begins =
      let b = s.begins in
      let same = b.2 in (
        l ++ b.0,
        wraps b.0 b.1,
        record {
          lines = l ++ same.lines;
          first = block k n m l z lines is ∙ ap (option_map (λ (w : Bytes). l ++ w)) same.first;
          second = block k n m l b.0 lines is ∙ ap (option_map (λ (w : Bytes). l ++ w)) same.second;
        },
      );
  no_more = λ b.
      let same = b.2 in
      let is-more : suc m ≡ k + suc n = omega arith in
      let g = map_some (λ (w : Bytes). l ++ w) (first_lines (suc n) z) same.lines (sym (block k (suc n) (suc m) l z lines is-more) ∙ same.first) in
      let r = front (suc m) b.0 same.lines same.second in
      let parts : b.0 ≡ l ++ (g.0 ++ r.0) = r.1 ∙ ap (λ (x : Bytes). x ++ r.0) (sym g.2) ∙ append_assoc l g.0 r.0 in
      let other : first_lines (suc m) (l ++ (g.0 ++ r.0)) ≡ Some same.lines = ap (first_lines (suc m)) (sym parts) ∙ same.second in
      let h = map_some (λ (w : Bytes). l ++ w) (first_lines (suc n) (g.0 ++ r.0)) same.lines (sym (block k (suc n) (suc m) l (g.0 ++ r.0) lines is-more) ∙ other) in
      let one : h.0 ≡ g.0 = append_cancel_left l h.0 g.0 (h.2 ∙ sym g.2) in
      s.no_more (g.0 ++ r.0, unwraps (g.0 ++ r.0) (subst T parts b.1), record { lines = g.0; first = g.1; second = h.1 ∙ ap (λ (x : Bytes). Some x) one });
  no_text = λ t. s.no_text (unwraps z t);
}
