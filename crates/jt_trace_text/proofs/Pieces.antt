-- Readers in a row, and words up to a byte.
use Rattle.std.proofs.Common.{◌≡◌, ℕ, ◌<◌, inl, inr, Bool, true, false, not, ◌&&◌, cond, List, [], ◌∷◌, ◌++◌, Option, Some, None, refl, sym, ap, subst, ◌∙◌, append_assoc, arith}
use Rattle.std.specs.Prelude.{option_map, option_and_then, ◌==◌}
use Rattle.std.proofs.lemmas.Bool.{cases_Bool, and_parts, and_from, eqb-true, eq-eqb}
use Rattle.std.proofs.lemmas.Option.{some_pair_parts}
use Rattle.std.specs.Prelude.{nat_lt}
use Rattle.std.specs.Str.{bytes_eq}
use Rattle.std.proofs.lemmas.Bool.{ltb-true}
use Rattle.jt_trace_text.specs.Lines.{Bytes}
use Rattle.jt_trace_text.specs.Forms.{IsField, IsTwoParts, IsBehind}
use Rattle.jt_trace_text.specs.Readers.{ReadsForm, ReadsWord, pair_at, literal, behind, cut, lacks, field, lookup}
use Rattle.jt_trace_text.proofs.Fronts.{map_some}

pub then_some : {A B : Type 0} (f : A → Option B) (o : Option A) (y : B) → option_and_then f o ≡ Some y → (x : A) × (o ≡ Some x) × (f x ≡ Some y)
then_some f (Some x) y e = (x, refl, e)
then_some f None y e = absurd cc

pub pair_is : {A : Type 0} (v w : A) (x y : Bytes) → ◌≡◌ {A = A × Bytes} (v, x) (w, y) → (v ≡ w) × (x ≡ y)
pair_is {A} v w x y e = (ap (λ (p : A × Bytes). p.0) e, ap (λ (p : A × Bytes). p.1) e)

pub pair_reads : {A B : Type 0} (First : A → Bytes → Type 0) (Second : A → B → Bytes → Type 0) (first : Bytes → Option (A × Bytes)) (second : A → Bytes → Option (B × Bytes))
    → ReadsForm First first → ((a : A) → ReadsForm (Second a) (second a)) → ReadsForm (IsTwoParts First Second) (pair_at first second)
pair_reads {A} {B} First Second first second one two = record {
  takes = λ z v rest e.
      let x = then_some (λ (x : A × Bytes). option_map (λ (y : B × Bytes). ((x.0, y.0), y.1)) (second x.0 x.1)) (first z) (v, rest) e in
      let y = map_some (λ (y : B × Bytes). ((x.0.0, y.0), y.1)) (second x.0.0 x.0.1) (v, rest) x.2 in
      let t = one.takes z x.0.0 x.0.1 x.1 in
      let u = (two x.0.0).takes x.0.1 y.0.0 y.0.1 y.1 in
      let is = pair_is (x.0.0, y.0.0) v y.0.1 rest y.2 in (
        t.0 ++ u.0,
        subst (λ (p : A × B). IsTwoParts First Second p (t.0 ++ u.0)) is.0 (record { front = t.0; back = u.0; first = t.1; second = u.1; is = refl }),
        t.2 ∙ ap (λ (w : Bytes). t.0 ++ w) (u.2 ∙ ap (λ (w : Bytes). u.0 ++ w) is.1) ∙ sym (append_assoc t.0 u.0 rest),
      );
  again = λ v l rest f.
      let e : first (l ++ rest) ≡ Some (v.0, f.back ++ rest) = ap first (ap (λ (w : Bytes). w ++ rest) f.is ∙ append_assoc f.front f.back rest) ∙ one.again v.0 f.front (f.back ++ rest) f.first in
      let g = (two v.0).again v.1 f.back rest f.second in
      rw (e, g) refl;
}

pub literal_takes : (w z rest : Bytes) → literal w z ≡ Some rest → z ≡ w ++ rest
literal_takes [] z rest e = cc
literal_takes (a ∷ w) [] rest e = absurd cc
literal_takes (a ∷ w) (b ∷ z) rest e =
    elim (cases_Bool (a == b)) [
      | inl hit ↦ let inner = literal_takes w z rest (sym (rw hit refl) ∙ e) in let same : a ≡ b = eqb-true a b hit in cc
      | inr miss ↦ let none : literal (a ∷ w) (b ∷ z) ≡ None = rw miss refl in cc
    ]

pub literal_again : (w rest : Bytes) → literal w (w ++ rest) ≡ Some rest
literal_again [] rest = refl
literal_again (a ∷ w) rest = rw (eq-eqb a a refl) (literal_again w rest)

pub behind_reads : {A : Type 0} (w : Bytes) (Form : A → Bytes → Type 0) (read : Bytes → Option (A × Bytes)) → ReadsForm Form read → ReadsForm (IsBehind w Form) (behind w read)
behind_reads {A} w Form read reads = record {
  takes = λ z v rest e.
      let x = then_some read (literal w z) (v, rest) e in
      let t = reads.takes x.0 v rest x.2 in
      (w ++ t.0, record { rest = t.0; form = t.1; is = refl }, literal_takes w z x.0 x.1 ∙ ap (λ (y : Bytes). w ++ y) t.2 ∙ sym (append_assoc w t.0 rest));
  again = λ v l rest f.
      let e : literal w (l ++ rest) ≡ Some (f.rest ++ rest) = ap (literal w) (ap (λ (y : Bytes). y ++ rest) f.is ∙ append_assoc w f.rest rest) ∙ literal_again w (f.rest ++ rest) in
      rw (e, reads.again v f.rest rest f.form) refl;
}

-- ---- words up to a byte

pub cut_takes : (c : ℕ) (z w rest : Bytes) → cut c z ≡ Some (w, rest) → z ≡ w ++ (c ∷ rest)
cut_takes c [] w rest e = absurd cc
cut_takes c (b ∷ z) w rest e =
    elim (cases_Bool (b == c)) [
      | inl hit ↦
          let is : ◌≡◌ {A = Option (Bytes × Bytes)} (Some ([], z)) (Some (w, rest)) = sym (rw hit refl) ∙ e in
          let same : b ≡ c = eqb-true b c hit in
          let both = some_pair_parts [] w z rest is in
          ap (λ x. x ∷ z) same ∙ ap (λ (y : Bytes). c ∷ y) both.1 ∙ ap (λ (y : Bytes). y ++ (c ∷ rest)) both.0
      | inr miss ↦
          let is : option_map (λ (p : Bytes × Bytes). (b ∷ p.0, p.1)) (cut c z) ≡ Some (w, rest) = sym (rw miss refl) ∙ e in
          let x = map_some (λ (p : Bytes × Bytes). (b ∷ p.0, p.1)) (cut c z) (w, rest) is in
          let inner = cut_takes c z x.0.0 x.0.1 x.1 in
          let both = pair_is (b ∷ x.0.0) w x.0.1 rest x.2 in
          ap (λ (y : Bytes). b ∷ y) inner ∙ ap (λ (y : Bytes). y ++ (c ∷ x.0.1)) both.0 ∙ ap (λ (y : Bytes). w ++ (c ∷ y)) both.1
    ]

pub cut_again : (c : ℕ) (w rest : Bytes) → lacks c w ≡ true → cut c (w ++ (c ∷ rest)) ≡ Some (w, rest)
cut_again c [] rest e = rw (eq-eqb c c refl) refl
cut_again c (b ∷ w) rest e =
    let p = and_parts (not (b == c)) (lacks c w) e in
    let miss : (b == c) ≡ false = not_true (b == c) p.0 in
    rw (miss, cut_again c w rest p.1) refl
  where
    not_true : (x : Bool) → not x ≡ true → x ≡ false
    not_true true h = absurd cc
    not_true false h = refl

pub field_reads : {A : Type 0} (c : ℕ) (Form : A → Bytes → Type 0) (read : Bytes → Option A) → ReadsWord Form read → ((v : A) (w : Bytes) → Form v w → lacks c w ≡ true) → ReadsForm (IsField c Form) (field c read)
field_reads {A} c Form read reads free = record {
  takes = λ z v rest e.
      let p = then_some (λ (p : Bytes × Bytes). option_map (λ (v : A). (v, p.1)) (read p.0)) (cut c z) (v, rest) e in
      let x = map_some (λ (v : A). (v, p.0.1)) (read p.0.0) (v, rest) p.2 in
      let both = pair_is x.0 v p.0.1 rest x.2 in
      let f = subst (λ (y : A). Form y p.0.0) both.0 (reads.takes p.0.0 x.0 x.1) in
      (p.0.0 ++ (c ∷ []), record { word = p.0.0; form = f; is = refl }, cut_takes c z p.0.0 p.0.1 p.1 ∙ ap (λ (y : Bytes). p.0.0 ++ (c ∷ y)) both.1 ∙ sym (append_assoc p.0.0 (c ∷ []) rest));
  again = λ v l rest f.
      let e : cut c (l ++ rest) ≡ Some (f.word, rest) = ap (cut c) (ap (λ (y : Bytes). y ++ rest) f.is ∙ append_assoc f.word (c ∷ []) rest) ∙ cut_again c f.word rest (free v f.word f.form) in
      rw (e, reads.again v f.word f.form) refl;
}

pub cut_none : (c : ℕ) (w : Bytes) → lacks c w ≡ true → cut c w ≡ None
cut_none c [] e = refl
cut_none c (b ∷ w) e =
    let p = and_parts (not (b == c)) (lacks c w) e in
    let miss : (b == c) ≡ false = elim (cases_Bool (b == c)) [ inl hit ↦ absurd (let q : not true ≡ true = ap not (sym hit) ∙ p.0 in cc) | inr n ↦ n ] in
    rw (miss, cut_none c w p.1) refl

-- ---- words by a table

pub bytes_eq-true : (a b : Bytes) → bytes_eq a b ≡ true → a ≡ b
bytes_eq-true [] [] e = refl
bytes_eq-true [] (y ∷ b) e = absurd cc
bytes_eq-true (x ∷ a) [] e = absurd cc
bytes_eq-true (x ∷ a) (y ∷ b) e =
    let p = and_parts (x == y) (bytes_eq a b) e in
    let head : x ≡ y = eqb-true x y p.0 in
    let tail = bytes_eq-true a b p.1 in cc

pub some_is : {A : Type 0} {x y : A} → Some x ≡ Some y → x ≡ y
some_is e = cc

-- by a test of the whole word
pub by_word : {A : Type 0} (P : Type 0) (w key : Bytes) (x y : Option A) (v : A) → cond (bytes_eq w key) x y ≡ Some v → (w ≡ key → x ≡ Some v → P) → (y ≡ Some v → P) → P
by_word {A} P w key x y v e hit miss = by (bytes_eq w key) refl e
  where
    by : (b : Bool) → bytes_eq w key ≡ b → cond b x y ≡ Some v → P
    by true is q = hit (bytes_eq-true w key is) q
    by false is q = miss q

-- a property of each word of a table and what the table has for it
abbrev pub Each : {A : Type 0} → (Bytes → A → Type 0) → List (Bytes × A) → Type 0
Each P [] = Unit {0}
Each P (p ∷ table) = P p.0 p.1 × Each P table

pub lookup_takes : {A : Type 0} (P : Bytes → A → Type 0) (table : List (Bytes × A)) (w : Bytes) (a : A) → Each P table → lookup table w ≡ Some a → P w a
lookup_takes P [] w a all e = absurd cc
lookup_takes {A} P (p ∷ table) w a all e =
    by_word (P w a) w p.0 (Some p.1) (lookup table w) a e
    (λ same is. subst (λ (x : Bytes). P x a) (sym same) (subst (λ (y : A). P p.0 y) (some_is is) all.0))
    (λ later. lookup_takes P table w a all.1 later)

-- words that begin with no digit and no sign of a number
abbrev pub Lettered : Bytes → Type 0
Lettered [] = ⊥
Lettered (c ∷ key) = 57 < c

abbrev pub HasNoLetters : Bytes → Type 0
HasNoLetters w = (c : ℕ) → 57 < c → lacks c w ≡ true

pub not_word : (w key : Bytes) → HasNoLetters w → Lettered key → bytes_eq w key ≡ false
not_word w [] free above = absurd above
not_word [] (c ∷ key) free above = refl
not_word (b ∷ w) (c ∷ key) free above =
    let p = and_parts (not (b == c)) (lacks c w) (free c above) in
    let miss : (b == c) ≡ false = elim (cases_Bool (b == c)) [ inl hit ↦ absurd (let q : not true ≡ true = ap not (sym hit) ∙ p.0 in cc) | inr n ↦ n ] in
    rw miss refl

pub lookup_none : {A : Type 0} (table : List (Bytes × A)) (w : Bytes) → HasNoLetters w → Each (λ key a. Lettered key) table → lookup table w ≡ None
lookup_none [] w free all = refl
lookup_none (p ∷ table) w free all = rw (not_word w p.0 free all.0) (lookup_none table w free all.1)

-- ---- words without a byte

pub lacks-append : (c : ℕ) (a b : Bytes) → lacks c a ≡ true → lacks c b ≡ true → lacks c (a ++ b) ≡ true
lacks-append c [] b e f = f
lacks-append c (x ∷ a) b e f = let p = and_parts (not (x == c)) (lacks c a) e in and_from (not (x == c)) (lacks c (a ++ b)) p.0 (lacks-append c a b p.1 f)

pub other : (c d : ℕ) → (d ≡ c → ⊥) → not (d == c) ≡ true
other c d h = elim (cases_Bool (d == c)) [
  | inl hit ↦ absurd (h (eqb-true d c hit))
  | inr miss ↦ ap not miss
]

-- all bytes are above `"`
abbrev pub is_high : Bytes → Bool
is_high [] = true
is_high (b ∷ w) = nat_lt 34 b && is_high w

pub high_lacks : (c : ℕ) (w : Bytes) → c < 35 → is_high w ≡ true → lacks c w ≡ true
high_lacks c [] l e = refl
high_lacks c (b ∷ w) l e =
    let p = and_parts (nat_lt 34 b) (is_high w) e in
    let above = ltb-true 34 b p.0 in
    and_from (not (b == c)) (lacks c w) (other c b (λ same. omega (arith, above, l))) (high_lacks c w l p.1)
