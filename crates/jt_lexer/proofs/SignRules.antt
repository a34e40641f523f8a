-- Signs are read by their rule: the first of the table that stands at the front is the longest.
use Rattle.std.proofs.Common.{◌≡◌, ℕ, zero, suc, ◌<◌, ◌≤◌, Bool, true, false, not, ◌&&◌, ◌⊎◌, inl, inr, nat_eq, List, [], ◌∷◌, length, Ok, Err, refl, sym, ap, subst, ◌∙◌, arith}
use Rattle.std.specs.Prelude.{slice_index, slice_index_or, ◌==◌}
use Rattle.std.specs.Char.{is_ascii_digit}
use Rattle.std.specs.List.{starts_with, All}
use Rattle.std.proofs.lemmas.Bool.{false≢true, cases_Bool, and_parts, and_from, eqb-true, eq-eqb, not-true, ne_eqb, cases_lt}
use Rattle.jt_syntax.specs.declared.token.Sign.{Sign}
use Rattle.jt_lexer.specs.declared.piece.Shape.TheVariants as shape
use Rattle.jt_lexer.specs.declared.piece.Defect.TheVariants as defect
use Rattle.jt_lexer.specs.Words.{signs}
use Rattle.jt_lexer.specs.Pieces.{Text, begins_word, first_sign, sign_at, piece}
use Rattle.jt_lexer.specs.Rules.{IsSign, IsStray}
use Rattle.jt_lexer.proofs.Fronts.{no_blank, at_sign}
use Rattle.jt_lexer.proofs.WordRules.{starts_first}

abbrev Entry : Type 0
Entry = Text × Sign

-- ---- what holds of each entry of the table

abbrev all_spell : (Text → Bool) → List Entry → Bool
all_spell test [] = true
all_spell test (e ∷ es) = test e.0 && all_spell test es

abbrev pub AllEntries : (Entry → Type 0) → List Entry → Type 0
AllEntries P es = (k : ℕ) (d : Entry) → k < length es → P (slice_index_or es k d)

cons_all : (P : Entry → Type 0) (x : Entry) (es : List Entry) → P x → AllEntries P es → AllEntries P (x ∷ es)
cons_all P x es h a zero d l = h
cons_all P x es h a (suc k) d l = a k d (omega (arith, l))

spells_all : (test : Text → Bool) (es : List Entry) → all_spell test es ≡ true → AllEntries (λ e. test e.0 ≡ true) es
spells_all test [] h = λ k d l. absurd (omega (arith, l))
spells_all test (x ∷ es) h =
    let parts = and_parts (test x.0) (all_spell test es) h in
    cons_all (λ e. test e.0 ≡ true) x es parts.0 (spells_all test es parts.1)

pub spells_at : (test : Text → Bool) (es : List Entry) (e : Entry) (k : ℕ) → all_spell test es ≡ true → k < length es → slice_index_or es k e ≡ e → test e.0 ≡ true
spells_at test es e k h l i = ap (λ y. test y.0) (sym i) ∙ spells_all test es h k e l

-- ---- the longest sign

-- of two fronts of a text the shorter begins the longer
shorter_begins : (x w z : Text) → starts_with nat_eq z x ≡ true → starts_with nat_eq z w ≡ true → length x ≤ length w → starts_with nat_eq w x ≡ true
shorter_begins [] w z h k l = refl
shorter_begins (c ∷ x) [] z h k l = absurd (omega (arith, l))
shorter_begins (c ∷ x) (d ∷ w) [] h k l = absurd (false≢true h)
shorter_begins (c ∷ x) (d ∷ w) (b ∷ z) h k l =
    let p = and_parts (c == b) (starts_with nat_eq z x) h in
    let q = and_parts (d == b) (starts_with nat_eq z w) k in
    and_from (c == d) (starts_with nat_eq w x) (eq-eqb c d (eqb-true c b p.0 ∙ sym (eqb-true d b q.0))) (shorter_begins x w z p.1 q.1 (omega (arith, l)))

-- each entry comes before those that it begins
abbrev is_ordered : List Entry → Bool
is_ordered [] = true
is_ordered (e ∷ es) = all_spell (λ w. not (starts_with nat_eq w e.0)) es && is_ordered es

first_step : (x : Entry) (es : List Entry) (z : Text) → starts_with nat_eq z x.0 ≡ false → first_sign (x ∷ es) z ≡ first_sign es z
first_step x es z h = rw h refl

found_step : (x : Entry) (es : List Entry) (z : Text) → starts_with nat_eq z x.0 ≡ true → first_sign (x ∷ es) z ≡ Ok (shape.Sign x.1, length x.0)
found_step x es z h = rw h refl

abbrev Longest : List Entry → Text → ℕ → Type 0
Longest es z n = All (λ e. starts_with nat_eq z e.0 ≡ true → length e.0 ≤ n) es

longest_first : (es : List Entry) (e : Entry) (z : Text) (k : ℕ) → is_ordered es ≡ true → k < length es → slice_index_or es k e ≡ e → starts_with nat_eq z e.0 ≡ true → Longest es z (length e.0) → first_sign es z ≡ Ok (shape.Sign e.1, length e.0)
longest_first [] e z k o l i h a = absurd (omega (arith, l))
longest_first (x ∷ es) e z zero o l i h a = found_step x es z (ap (λ y. starts_with nat_eq z y.0) i ∙ h) ∙ ap (λ y. Ok (shape.Sign y.1, length y.0)) i
longest_first (x ∷ es) e z (suc k) o l i h a =
    let order = and_parts (all_spell (λ w. not (starts_with nat_eq w x.0)) es) (is_ordered es) o in
    elim (cases_Bool (starts_with nat_eq z x.0)) [
      | inl b ↦
          let apart = spells_at (λ w. not (starts_with nat_eq w x.0)) es e k order.0 (omega (arith, l)) i in
          let begins = shorter_begins x.0 e.0 z b h (a 0 x (omega arith) b) in
          absurd (false≢true (ap not (sym begins) ∙ apart))
      | inr b ↦ first_step x es z b ∙ longest_first es e z k order.1 (omega (arith, l)) i h (λ j d m. a (suc j) d (omega (arith, m)))
    ]

no_first : (es : List Entry) (z : Text) → All (λ e. starts_with nat_eq z e.0 ≡ false) es → first_sign es z ≡ Err (defect.BadCharacter 0)
no_first [] z a = refl
no_first (x ∷ es) z a = first_step x es z (a 0 x (omega arith)) ∙ no_first es z (λ j d m. a (suc j) d (omega (arith, m)))

abbrev FirstOf : List Entry → Text → Type 0
FirstOf es z = (e : Entry) × (k : ℕ) × (k < length es) × (slice_index_or es k e ≡ e) × (starts_with nat_eq z e.0 ≡ true) × Longest es z (length e.0)

abbrev NoneOf : List Entry → Text → Type 0
NoneOf es z = All (λ e. starts_with nat_eq z e.0 ≡ false) es

later_shorter : (x : Entry) (es : List Entry) (z : Text) → all_spell (λ w. not (starts_with nat_eq w x.0)) es ≡ true → starts_with nat_eq z x.0 ≡ true → Longest es z (length x.0)
later_shorter x es z o b k d l h = elim (cases_lt (length x.0) (length (slice_index_or es k d).0)) [
  | inl shorter ↦
      let begins = shorter_begins x.0 (slice_index_or es k d).0 z b h (omega (arith, shorter)) in
      absurd (false≢true (ap not (sym begins) ∙ spells_all (λ w. not (starts_with nat_eq w x.0)) es o k d l))
  | inr longer ↦ longer
]

found_later : (x : Entry) (es : List Entry) (z : Text) → starts_with nat_eq z x.0 ≡ false → NoneOf es z ⊎ FirstOf es z → NoneOf (x ∷ es) z ⊎ FirstOf (x ∷ es) z
found_later x es z b (inl a) = inl (cons_all (λ e. starts_with nat_eq z e.0 ≡ false) x es b a)
found_later x es z b (inr f) = inr (
  f.0,
  suc f.1,
  omega (arith, f.2),
  f.3,
  f.4,
  cons_all (λ e. starts_with nat_eq z e.0 ≡ true → length e.0 ≤ length f.0.0) x es (λ h. absurd (false≢true (sym b ∙ h))) f.5,
)

found_first : (es : List Entry) (z : Text) → is_ordered es ≡ true → NoneOf es z ⊎ FirstOf es z
found_first [] z o = inl (λ k d l. absurd (omega (arith, l)))
found_first (x ∷ es) z o =
    let order = and_parts (all_spell (λ w. not (starts_with nat_eq w x.0)) es) (is_ordered es) o in
    elim (cases_Bool (starts_with nat_eq z x.0)) [
      | inl b ↦ inr (x, 0, omega arith, refl, b, cons_all (λ e. starts_with nat_eq z e.0 ≡ true → length e.0 ≤ length x.0) x es (λ _. omega arith) (later_shorter x es z order.0 b))
      | inr b ↦ found_later x es z b (found_first es z order.1)
    ]

pub a_sign : (z : Text) → NoneOf signs z ⊎ ((s : Sign) × (n : ℕ) × IsSign z s n)
a_sign z = elim (found_first signs z refl) [
  | inl a ↦ inl a
  | inr f ↦ inr (f.0.1, length f.0.0, (f.0.0, (f.1, f.2, f.3), f.4, refl, f.5))
]

-- ---- pieces

-- a byte that begins no other piece than a sign
abbrev is_free : ℕ → Bool
is_free b = not (b == 32) && (not (b == 9) && (not (b == 13) && (not (b == 35) && (not (is_ascii_digit b) && (not (b == 34) && not (begins_word b))))))

abbrev pub begins_free : Text → Bool
begins_free [] = false
begins_free (b ∷ w) = is_free b

free_front : (w z : Text) → begins_free w ≡ true → starts_with nat_eq z w ≡ true → is_free (slice_index z 0) ≡ true
free_front [] z h k = absurd (false≢true h)
free_front (c ∷ w) z h k = ap is_free (starts_first c w z k) ∙ h

free_piece : (z : Text) → is_free (slice_index z 0) ≡ true → piece z ≡ sign_at z
free_piece z h =
    let b = slice_index z 0 in
    let space = and_parts (not (b == 32)) _ h in
    let tab = and_parts (not (b == 9)) _ space.1 in
    let return = and_parts (not (b == 13)) _ tab.1 in
    let hash = and_parts (not (b == 35)) _ return.1 in
    let digit = and_parts (not (is_ascii_digit b)) _ hash.1 in
    let quote = and_parts (not (b == 34)) (not (begins_word b)) digit.1 in
    at_sign z (no_blank is_free z h refl refl refl) (not-true (b == 35) hash.0) (not-true (is_ascii_digit b) digit.0) (not-true (b == 34) quote.0) (not-true (begins_word b) quote.1)

pub sign_free : (z : Text) (s : Sign) (n : ℕ) (h : IsSign z s n) → begins_free h.0 ≡ true
sign_free z s n h = spells_at begins_free signs (h.0, s) h.1.0 refl h.1.1 h.1.2

pub sign_is : (z : Text) (s : Sign) (n : ℕ) → IsSign z s n → piece z ≡ Ok (shape.Sign s, n)
unfolding sign_at
sign_is z s n h =
    let free = free_front h.0 z (sign_free z s n h) h.2 in
    free_piece z free ∙ (longest_first signs (h.0, s) z h.1.0 refl h.1.1 h.1.2 h.2 (subst (Longest signs z) h.3 h.4) ∙ ap (λ k. Ok (shape.Sign s, k)) (sym h.3))

pub stray_is : (z : Text) → IsStray z → piece z ≡ Err (defect.BadCharacter 0)
unfolding sign_at
stray_is z h = at_sign z h.0 (ne_eqb (slice_index z 0) 35 h.1) h.2 (ne_eqb (slice_index z 0) 34 h.3) h.4 ∙ no_first signs z h.5
