-- What each spelling reads as, before a space.
use Rattle.std.proofs.Common.{◌≡◌, ℕ, suc, ◌+◌, ◌*◌, ◌/◌, ◌%◌, ◌^◌, ◌<◌, ◌≤◌, Bool, true, false, not, ◌&&◌, ◌||◌, inl, inr, nat_lt, nat_eq, List, [], ◌∷◌, ◌++◌, length, take, None, Ok, refl, sym, ap, subst, ◌∙◌, arith, append_assoc, length-append}
use Rattle.std.specs.Prelude.{slice_index, ◌==◌, codes}
use Rattle.std.specs.Char.{is_ascii_digit}
use Rattle.std.specs.List.{starts_with}
use Rattle.std.specs.Fmt.{decimal}
use Rattle.std.proofs.lemmas.Bool.{false≢true, and_parts, or_cases, or_parts, le-leb, lt-ltb, eqb-true, false_from_ne_true, and_left, cond_both, and_right, or_left, or_right, not-true, and_from}
use Rattle.std.proofs.Math.Seq.{take-append_seam}
use Rattle.std.proofs.lemmas.Fmt.{decimal_by_steps}
use Rattle.jt_syntax.specs.declared.operator.ArithmeticOperator.TheVariants as arithmetic
use Rattle.jt_syntax.specs.declared.operator.BinaryOperator.{BinaryOperator}
use Rattle.jt_syntax.specs.declared.operator.BinaryOperator.TheVariants as binary
use Rattle.jt_syntax.specs.declared.operator.ComparisonOperator.TheVariants as comparison
use Rattle.jt_syntax.specs.declared.operator.Connective.TheVariants as connective
use Rattle.jt_syntax.specs.declared.token.Sign.{Sign}
use Rattle.jt_syntax.specs.declared.token.Sign.TheVariants as sign
use Rattle.jt_syntax.specs.declared.token.TokenKind.TheVariants as kind
use Rattle.jt_lexer.specs.declared.piece.Shape.TheVariants as shape
use Rattle.jt_lexer.specs.Pieces.{Text, piece, with_digit, number_from, is_escape, string_from, begins_word, continues_word, word_len, word_at, whole_len, is_base_threads, prefix_len, is_base_threads_word, is_threads_word, is_base_word, reserved, word_piece, sign_at}
use Rattle.jt_lexer.proofs.Fronts.{differs, at_number, at_word}
use Rattle.jt_lexer.specs.Spelled.{operator_spelling, sign_spelling, HasSpelling, is_first, is_name_byte, all_in_word, IsSpelledName, escaped_byte, escaped}

operator_reads : (o : BinaryOperator) (z : Text) → piece (operator_spelling o ++ 32 ∷ z) ≡ Ok (shape.Sign (sign.Binary o), length (operator_spelling o))
unfolding piece sign_at
operator_reads (binary.Arithmetic arithmetic.Add) z = refl
operator_reads (binary.Comparison comparison.Equal) z = refl
operator_reads (binary.Connective connective.And) z = refl
operator_reads _ z = refl

pub sign_reads : (s : Sign) (z : Text) → HasSpelling (kind.Sign s) → piece (sign_spelling s ++ 32 ∷ z) ≡ Ok (shape.Sign s, length (sign_spelling s))
unfolding piece word_at whole_len is_base_threads prefix_len is_base_threads_word is_threads_word is_base_word reserved sign_at
sign_reads sign.Newline z h = absurd h
sign_reads sign.Reserved z h = absurd h
sign_reads sign.Stop z h = absurd h
sign_reads (sign.Binary o) z h = operator_reads o z
sign_reads s z h = refl

-- ---- numbers

-- read from the front, these digits are n
abbrev Digits : ℕ → Text → Type 0
Digits n ds = n < 2 ^ 63 → (is_ascii_digit (slice_index ds 0) ≡ true) × (1 ≤ length ds) × ((at : ℕ) (z : Text) → number_from 0 at (ds ++ z) ≡ number_from n (at + length ds) z)

is_digit : (d : ℕ) → d < 10 → is_ascii_digit (48 + d) ≡ true
is_digit d h = grind (arith, le-leb)

one_digit : (v d at : ℕ) (z : Text) → d < 10 → v * 10 + d < 2 ^ 63 → number_from v at ((48 + d) ∷ z) ≡ number_from (v * 10 + d) (at + 1) z
one_digit v d at z h k =
    let same : with_digit v (48 + d) ≡ v * 10 + d = omega arith in
    let small : nat_lt (with_digit v (48 + d)) (2 ^ 63) ≡ true = lt-ltb (with_digit v (48 + d)) (2 ^ 63) (subst (λ x. x < 2 ^ 63) (sym same) k) in
    let digit = is_digit d h in
    rw (digit, small) (ap (λ x. number_from x (at + 1) z) same)

first_front : (ds z : Text) → 1 ≤ length ds → slice_index (ds ++ z) 0 ≡ slice_index ds 0
first_front [] z h = absurd (omega (arith, h))
first_front (d ∷ ds) z h = refl

one_Digits : (n : ℕ) → n < 10 → Digits n ((48 + n) ∷ [])
one_Digits n h small =
    let zeros : 0 * 10 + n ≡ n = omega arith in
    (is_digit n h, omega arith, λ at z. one_digit 0 n at z h (omega (arith, small)) ∙ ap (λ v. number_from v (at + 1) z) zeros)

more_Digits : (n : ℕ) (ds : Text) → 10 ≤ n → Digits (n / 10) ds → Digits n (ds ++ (48 + n % 10) ∷ [])
more_Digits n ds h front small =
    let whole : n / 10 * 10 + n % 10 ≡ n = omega arith in
    let last : n % 10 < 10 = omega arith in
    let f = front (omega (arith, small)) in
    let long : length (ds ++ (48 + n % 10) ∷ []) ≡ length ds + 1 = length-append ds ((48 + n % 10) ∷ []) in (
      ap is_ascii_digit (first_front ds ((48 + n % 10) ∷ []) f.1) ∙ f.0,
      omega (arith, long),
      λ at z.
          let place : at + length ds + 1 ≡ at + length (ds ++ (48 + n % 10) ∷ []) = omega (arith, long) in
          ap (number_from 0 at) (append_assoc ds ((48 + n % 10) ∷ []) z)
          ∙ (f.2 at ((48 + n % 10) ∷ z)
          ∙ (one_digit (n / 10) (n % 10) (at + length ds) z last (omega (arith, small, whole))
          ∙ (ap (λ v. number_from v (at + length ds + 1) z) whole ∙ ap (λ k. number_from n k z) place))),
    )

decimal_Digits : (n : ℕ) → n < 2 ^ 63 → Digits n (decimal n)
decimal_Digits n h = decimal_by_steps Digits one_Digits more_Digits n (omega (arith, h))

front_reads : (n : ℕ) (ds z : Text) → n < 2 ^ 63 → Digits n ds → piece (ds ++ 32 ∷ z) ≡ Ok (shape.Number n, length ds)
front_reads n [] z h f = absurd (omega (arith, (f h).1))
front_reads n (d ∷ ds) z h f =
    let place : 0 + length (d ∷ ds) ≡ length (d ∷ ds) = omega arith in
    at_number (d ∷ ds ++ 32 ∷ z) (f h).0 ∙ ((f h).2 0 (32 ∷ z) ∙ ap (λ k. Ok (shape.Number n, k)) place)

pub number_reads : (n : ℕ) (z : Text) → n < 2 ^ 63 → piece (decimal n ++ 32 ∷ z) ≡ Ok (shape.Number n, length (decimal n))
number_reads n z h = front_reads n (decimal n) z h (decimal_Digits n h)

-- ---- strings

is_marked : ℕ → Bool
is_marked b = b == 92 || b == 34 || b == 36

byte_reads : (b at : ℕ) (z : Text) → string_from false at (escaped_byte b ++ z) ≡ string_from false (at + length (escaped_byte b)) z
byte_reads b at z =
    let P : Text → Type 0 = λ e. string_from false at (e ++ z) ≡ string_from false (at + length e) z in
    let two : at + 1 + 1 ≡ at + 2 = omega arith in
    let marked : (b == 92 || b == 34 || b == 36) ≡ true → P (92 ∷ b ∷ []) = λ h.
    let escape : is_escape b ≡ true = grind (arith, or_cases, eqb-true, h) in
    rw escape (ap (λ k. string_from false k z) two) in
    let plain : (b == 92 || b == 34 || b == 36) ≡ false → P (b ∷ []) = λ h.
    let backslash : (b == 92) ≡ false = grind (arith, or_parts, h) in
    let quote : (b == 34) ≡ false = grind (arith, or_parts, h) in
    let dollar : (b == 36) ≡ false = grind (arith, or_parts, h) in
    rw (backslash, quote, dollar) refl in
    cond_both (b == 10) _ _ P (λ h. ap (λ k. string_from false k z) two)
    (λ h. cond_both (b == 9) _ _ P (λ k. ap (λ k. string_from false k z) two)
    (λ k. cond_both (b == 92 || b == 34 || b == 36) _ _ P marked plain))

pub escaped_reads : (bs : List ℕ) (at : ℕ) (z : Text) → string_from false at (escaped bs ++ 34 ∷ z) ≡ Ok (shape.Text, at + length (escaped bs) + 1)
escaped_reads [] at z = let e : at + 1 ≡ at + 0 + 1 = omega arith in ap (λ k. Ok (shape.Text, k)) e
escaped_reads (b ∷ bs) at z =
    let place : at + length (escaped_byte b) + length (escaped bs) + 1 ≡ at + length (escaped_byte b ++ escaped bs) + 1 = omega (arith, length-append (escaped_byte b) (escaped bs)) in
    ap (string_from false at) (append_assoc (escaped_byte b) (escaped bs) (34 ∷ z))
    ∙ (byte_reads b at (escaped bs ++ 34 ∷ z)
    ∙ (escaped_reads bs (at + length (escaped_byte b)) z ∙ ap (λ k. Ok (shape.Text, k)) place))

pub text_reads : (bs : List ℕ) (z : Text) → piece ((34 ∷ escaped bs ++ 34 ∷ []) ++ 32 ∷ z) ≡ Ok (shape.Text, length (34 ∷ escaped bs ++ 34 ∷ []))
unfolding piece
text_reads bs z =
    let place : 1 + length (escaped bs) + 1 ≡ length (34 ∷ escaped bs ++ 34 ∷ []) = omega (arith, length-append (escaped bs) (34 ∷ [])) in
    ap (string_from false 1) (append_assoc (escaped bs) (34 ∷ []) (32 ∷ z)) ∙ (escaped_reads bs 1 (32 ∷ z) ∙ ap (λ k. Ok (shape.Text, k)) place)

-- ---- names

no_equals : (w z : Text) → all_in_word w ≡ true → (slice_index (w ++ 32 ∷ z) 0 == 61) ≡ false
no_equals [] z h = refl
no_equals (b ∷ w) z h = differs is_name_byte b 61 (and_parts (is_name_byte b) (all_in_word w) h).0 refl

by_inner : (x y : Bool) → (x || y) ≡ true → (c : Bool) → c ≡ false → (x || (y && not c)) ≡ true
by_inner true y h c e = refl
by_inner false true h c e = ap not e
by_inner false false h c e = absurd (false≢true h)

pub inner_len : (w z : Text) → all_in_word w ≡ true → word_len (w ++ 32 ∷ z) ≡ length w
inner_len [] z h = refl
inner_len (b ∷ w) z h =
    let parts = and_parts (is_name_byte b) (all_in_word w) h in
    let goes = by_inner (continues_word b) (b == 33) parts.0 (slice_index (w ++ 32 ∷ z) 0 == 61) (no_equals w z parts.1) in
    rw goes (ap suc (inner_len w z parts.1))

begins : (b : ℕ) → is_first b ≡ true → begins_word b ≡ true
begins b h = grind (arith, or_cases, or_left, or_right, h)

-- a dot stands in it before any space
abbrev dotted : Text → Bool
dotted [] = false
dotted (c ∷ p) = c == 46 || (not (c == 32) && dotted p)

no_dot : (c b : ℕ) → (c == 46) ≡ true → is_name_byte b ≡ true → (c == b) ≡ false
no_dot c b h k = false_from_ne_true (c == b) (λ e. false≢true (sym (ap is_name_byte (sym (eqb-true c b e) ∙ eqb-true c 46 h)) ∙ k))

no_prefix : (p w z : Text) → dotted p ≡ true → all_in_word w ≡ true → starts_with nat_eq (w ++ 32 ∷ z) p ≡ false
no_prefix [] w z h k = absurd (false≢true h)
no_prefix (c ∷ p) [] z h k = elim (or_cases (c == 46) (not (c == 32) && dotted p) h) [
  | inl d ↦ and_left (c == 32) _ (differs (λ x. x == 46) c 32 d refl)
  | inr d ↦ and_left (c == 32) _ (not-true (c == 32) (and_parts (not (c == 32)) (dotted p) d).0)
]
no_prefix (c ∷ p) (b ∷ w) z h k = elim (or_cases (c == 46) (not (c == 32) && dotted p) h) [
  | inl d ↦ and_left (c == b) _ (no_dot c b d (and_parts (is_name_byte b) (all_in_word w) k).0)
  | inr d ↦ and_right (c == b) _ (no_prefix p w z (and_parts (not (c == 32)) (dotted p) d).1 (and_parts (is_name_byte b) (all_in_word w) k).1)
]

first_inner : (b : ℕ) → is_first b ≡ true → is_name_byte b ≡ true
first_inner b h = grind (arith, or_cases, or_left, or_right, h)

no_both_word : (w z : Text) → all_in_word w ≡ true → is_base_threads_word (w ++ 32 ∷ z) ≡ false
unfolding is_base_threads_word
no_both_word w z h = and_left _ _ (no_prefix (codes "Base.Threads.") w z refl h)

no_threads_word : (w z : Text) → all_in_word w ≡ true → is_threads_word (w ++ 32 ∷ z) ≡ false
unfolding is_threads_word
no_threads_word w z h = and_left _ _ (no_prefix (codes "Threads.") w z refl h)

no_base_word : (w z : Text) → all_in_word w ≡ true → is_base_word (w ++ 32 ∷ z) ≡ false
unfolding is_base_word
no_base_word w z h = and_left _ _ (no_prefix (codes "Base.") w z refl h)

no_base_threads : (w z : Text) → all_in_word w ≡ true → is_base_threads (w ++ 32 ∷ z) ≡ false
unfolding is_base_threads
no_base_threads w z h = and_left _ _ (and_left _ _ (no_prefix (codes "Base.Threads") w z refl h))

no_prefix_len : (w z : Text) → all_in_word w ≡ true → prefix_len (w ++ 32 ∷ z) ≡ 0
unfolding prefix_len
no_prefix_len w z h = rw (no_both_word w z h, no_threads_word w z h, no_base_word w z h)

pub bare_word : (z : Text) (n : ℕ) → is_base_threads z ≡ false → prefix_len z ≡ 0 → whole_len z ≡ n → word_at z ≡ word_piece (reserved (take n z)) (slice_index z 0 == 64) 0 (0 + n) z
unfolding word_at
bare_word z n h k l = rw (h, k, l)

whole_inner : (b : ℕ) (w z : Text) → is_first b ≡ true → all_in_word w ≡ true → whole_len (b ∷ w ++ 32 ∷ z) ≡ suc (length w)
unfolding whole_len
whole_inner b w z h k =
    let at : (b == 64) ≡ false = differs is_first b 64 h refl in
    rw at (inner_len (b ∷ w) z (and_from (is_name_byte b) (all_in_word w) (first_inner b h) k))

name_front : (b : ℕ) (w z : Text) → is_first b ≡ true → all_in_word w ≡ true → reserved (b ∷ w) ≡ None → word_at (b ∷ w ++ 32 ∷ z) ≡ Ok (shape.Name 0, suc (length w))
name_front b w z h k free =
    let inner = and_from (is_name_byte b) (all_in_word w) (first_inner b h) k in
    let at : (b == 64) ≡ false = differs is_first b 64 h refl in
    let cut : take (suc (length w)) (b ∷ w ++ 32 ∷ z) ≡ b ∷ w = take-append_seam (b ∷ w) (32 ∷ z) in
    let n : 0 + suc (length w) ≡ suc (length w) = omega arith in
    bare_word (b ∷ w ++ 32 ∷ z) (suc (length w)) (no_base_threads (b ∷ w) z inner) (no_prefix_len (b ∷ w) z inner) (whole_inner b w z h k)
    ∙ rw (cut, free, at) (ap (λ k. Ok (shape.Name 0, k)) n)

pub name_reads : (w z : Text) → IsSpelledName w → piece (w ++ 32 ∷ z) ≡ Ok (shape.Name 0, length w)
name_reads [] z h = absurd (false≢true h.0)
name_reads (b ∷ w) z h =
    let parts = and_parts (is_first b) (all_in_word w) h.0 in
    at_word (b ∷ w ++ 32 ∷ z) (begins b parts.0) ∙ name_front b w z parts.0 parts.1 h.1
