-- The first byte of a text tells the class of the piece at its front.
use Rattle.std.proofs.Common.{◌≡◌, ℕ, Bool, true, false, Ok, refl, sym, ap, ◌∙◌, arith}
use Rattle.std.specs.Prelude.{slice_index, ◌==◌, drop}
use Rattle.std.specs.Char.{is_ascii_digit}
use Rattle.std.proofs.lemmas.Bool.{false≢true, and_parts, or_cases, leb-true, eqb-true, eq-eqb, false_from_ne_true}
use Rattle.jt_lexer.specs.declared.piece.Shape.TheVariants as shape
use Rattle.jt_lexer.specs.Pieces.{Text, is_blank, comment, number_from, string_from, begins_word, word_at, sign_at, piece}

-- a byte that passes a test is no byte that fails it
pub differs : (p : ℕ → Bool) (b k : ℕ) → p b ≡ true → p k ≡ false → (b == k) ≡ false
differs p b k h f = false_from_ne_true (b == k) (λ e. false≢true (sym f ∙ (ap p (sym (eqb-true b k e)) ∙ h)))

-- no blank begins with a byte that passes a test which the three blank bytes fail
pub no_blank : (p : ℕ → Bool) (z : Text) → p (slice_index z 0) ≡ true → p 32 ≡ false → p 9 ≡ false → p 13 ≡ false → is_blank z ≡ false
no_blank p z h i j k =
    let space = differs p (slice_index z 0) 32 h i in
    let tab = differs p (slice_index z 0) 9 h j in
    let return = differs p (slice_index z 0) 13 h k in
    rw (space, tab, return) refl

pub at_blank : (z : Text) → is_blank z ≡ true → piece z ≡ Ok (shape.Blank, 1)
unfolding piece
at_blank z h = rw h refl

pub at_comment : (z : Text) → slice_index z 0 ≡ 35 → piece z ≡ comment z
unfolding piece
at_comment z h =
    let hash : (slice_index z 0 == 35) ≡ true = eq-eqb (slice_index z 0) 35 h in
    let blank = no_blank (λ b. b == 35) z hash refl refl refl in
    rw (blank, hash) refl

pub at_number : (z : Text) → is_ascii_digit (slice_index z 0) ≡ true → piece z ≡ number_from 0 0 z
unfolding piece
at_number z h =
    let blank = no_blank is_ascii_digit z h refl refl refl in
    let hash = differs is_ascii_digit (slice_index z 0) 35 h refl in
    rw (blank, hash, h) refl

pub at_string : (z : Text) → slice_index z 0 ≡ 34 → piece z ≡ string_from false 1 (drop 1 z)
unfolding piece
at_string z h =
    let quote : (slice_index z 0 == 34) ≡ true = eq-eqb (slice_index z 0) 34 h in
    let blank = no_blank (λ b. b == 34) z quote refl refl refl in
    let hash = differs (λ b. b == 34) (slice_index z 0) 35 quote refl in
    let digit : is_ascii_digit (slice_index z 0) ≡ false = ap is_ascii_digit h in
    rw (blank, hash, digit, quote) refl

no_digit : (b : ℕ) → begins_word b ≡ true → is_ascii_digit b ≡ false
no_digit b h = false_from_ne_true (is_ascii_digit b) (λ d. grind (arith, and_parts, or_cases, leb-true, eqb-true, h, d))

pub at_word : (z : Text) → begins_word (slice_index z 0) ≡ true → piece z ≡ word_at z
unfolding piece
at_word z h =
    let blank = no_blank begins_word z h refl refl refl in
    let hash = differs begins_word (slice_index z 0) 35 h refl in
    let quote = differs begins_word (slice_index z 0) 34 h refl in
    let digit = no_digit (slice_index z 0) h in
    rw (blank, hash, digit, quote, h) refl

pub at_sign : (z : Text) → is_blank z ≡ false → (slice_index z 0 == 35) ≡ false → is_ascii_digit (slice_index z 0) ≡ false → (slice_index z 0 == 34) ≡ false → begins_word (slice_index z 0) ≡ false → piece z ≡ sign_at z
unfolding piece
at_sign z blank hash digit quote word = rw (blank, hash, digit, quote, word) refl
