-- Spelled tokens are a text in UTF-8, where their strings are.
use Rattle.std.proofs.Common.{◌≡◌, ℕ, zero, suc, ◌<◌, ◌≤◌, Bool, true, false, ◌&&◌, inl, inr, nat_lt, List, [], ◌∷◌, ◌++◌, length, get_or, refl, sym, ap, subst, ◌∙◌, arith, append_assoc, append-nil}
use Rattle.std.specs.Prelude.{◌==◌}
use Rattle.std.specs.Str.{IsUtf8, chars, is_utf8}
use Rattle.std.specs.Fmt.{decimal}
use Rattle.std.proofs.lemmas.Bool.{and_parts, or_cases, leb-true, eqb-true, ltb-true, cases_lt, cases_eq, ne_eqb}
use Rattle.std.proofs.lemmas.Str.{IsUtf8-append, IsUtf8-nil, IsUtf8-encode, encode_ascii, inside_one, IsUtf8-from_ascii, IsUtf8-from_is_utf8}
use Rattle.std.proofs.lemmas.Fmt.{IsAscii-decimal}
use lib.Utf8.{scalar, scalars, encode, encodes, low_scalar}
use Rattle.jt_syntax.specs.declared.operator.ArithmeticOperator.TheVariants as arithmetic
use Rattle.jt_syntax.specs.declared.operator.BinaryOperator.{BinaryOperator}
use Rattle.jt_syntax.specs.declared.operator.BinaryOperator.TheVariants as binary
use Rattle.jt_syntax.specs.declared.operator.ComparisonOperator.TheVariants as comparison
use Rattle.jt_syntax.specs.declared.operator.Connective.TheVariants as connective
use Rattle.jt_syntax.specs.declared.token.Sign.{Sign}
use Rattle.jt_syntax.specs.declared.token.Sign.TheVariants as sign
use Rattle.jt_syntax.specs.declared.token.TokenKind.{TokenKind}
use Rattle.jt_syntax.specs.declared.token.TokenKind.TheVariants as kind
use Rattle.jt_lexer.specs.Pieces.{Text}
use Rattle.jt_lexer.specs.Spelled.{operator_spelling, sign_spelling, escaped_byte, escaped, spelling, spelled, is_first, is_name_byte, all_in_word, is_word, IsPrintable, ArePrintable, IsTextual, AreTextual}

pub ascii_then : (b : ℕ) (z : Text) → b < 128 → IsUtf8 z → IsUtf8 (b ∷ z)
ascii_then b z small u = IsUtf8-append (b ∷ []) z (subst IsUtf8 (encode_ascii b small) (IsUtf8-encode b (low_scalar b (omega (arith, small))))) u

abbrev are_ascii : Text → Bool
are_ascii [] = true
are_ascii (b ∷ z) = nat_lt b 128 && are_ascii z

IsUtf8-are_ascii : (z : Text) → are_ascii z ≡ true → IsUtf8 z
IsUtf8-are_ascii [] e = IsUtf8-nil
IsUtf8-are_ascii (b ∷ z) e =
    let p = and_parts (nat_lt b 128) (are_ascii z) e in
    ascii_then b z (ltb-true b 128 p.0) (IsUtf8-are_ascii z p.1)

-- ---- strings

-- the escapes of the bytes below n are ASCII
abbrev escapes_below : ℕ → Bool
escapes_below zero = true
escapes_below (suc n) = are_ascii (escaped_byte n) && escapes_below n

escape_below : (n : ℕ) → escapes_below n ≡ true → (b : ℕ) → b < n → are_ascii (escaped_byte b) ≡ true
escape_below zero e b h = absurd (omega (arith, h))
escape_below (suc n) e b h =
    let p = and_parts (are_ascii (escaped_byte n)) (escapes_below n) e in
    elim (cases_eq b n) [
      | inl same ↦ ap (λ x. are_ascii (escaped_byte x)) same ∙ p.0
      | inr other ↦ escape_below n p.1 b (omega (arith, h, other))
    ]

escaped_append : (xs ys : Text) → escaped (xs ++ ys) ≡ escaped xs ++ escaped ys
escaped_append [] ys = refl
escaped_append (b ∷ xs) ys = ap (λ z. escaped_byte b ++ z) (escaped_append xs ys) ∙ sym (append_assoc (escaped_byte b) (escaped xs) (escaped ys))

high_plain : (b : ℕ) → 128 ≤ b → escaped_byte b ≡ b ∷ []
high_plain b h =
    let newline : (b == 10) ≡ false = ne_eqb b 10 (λ e. absurd (omega (arith, h, e))) in
    let tab : (b == 9) ≡ false = ne_eqb b 9 (λ e. absurd (omega (arith, h, e))) in
    let backslash : (b == 92) ≡ false = ne_eqb b 92 (λ e. absurd (omega (arith, h, e))) in
    let quote : (b == 34) ≡ false = ne_eqb b 34 (λ e. absurd (omega (arith, h, e))) in
    let dollar : (b == 36) ≡ false = ne_eqb b 36 (λ e. absurd (omega (arith, h, e))) in
    rw (newline, tab, backslash, quote, dollar) refl

escaped_high : (z : Text) → ((k : ℕ) → k < length z → 128 ≤ get_or z k 0) → escaped z ≡ z
escaped_high [] h = refl
escaped_high (b ∷ z) h = ap (λ e. e ++ escaped z) (high_plain b (h 0 (omega arith))) ∙ ap (λ y. b ∷ y) (escaped_high z (λ k l. h (suc k) (omega (arith, l))))

pub all_high : (c : ℕ) → 128 ≤ c → (k : ℕ) → k < length (encode c) → 128 ≤ get_or (encode c) k 0
all_high c h k l = elim (cases_lt (get_or (encode c) k 0) 128) [
  | inl low ↦ absurd (omega (arith, h, low, inside_one c [] (encode c) k (sym (append-nil (encode c))) l low))
  | inr high ↦ high
]

one_char : (c : ℕ) → scalar c ≡ true → IsUtf8 (escaped (encode c))
one_char c ok = elim (cases_lt c 128) [
  | inl small ↦ subst IsUtf8 (sym (ap escaped (encode_ascii c small) ∙ append-nil (escaped_byte c))) (IsUtf8-are_ascii (escaped_byte c) (escape_below 128 refl c small))
  | inr large ↦ subst IsUtf8 (sym (escaped_high (encode c) (all_high c large))) (IsUtf8-encode c ok)
]

all_chars : (cs : List ℕ) → scalars cs ≡ true → IsUtf8 (escaped (encodes cs))
all_chars [] e = IsUtf8-nil
all_chars (c ∷ cs) e =
    let p = and_parts (scalar c) (scalars cs) e in
    subst IsUtf8 (sym (escaped_append (encode c) (encodes cs))) (IsUtf8-append (escaped (encode c)) (escaped (encodes cs)) (one_char c p.0) (all_chars cs p.1))

escaped_text : (bs : List ℕ) → IsUtf8 bs → IsUtf8 (escaped bs)
escaped_text bs u = subst (λ z. IsUtf8 (escaped z)) u.1.1 (all_chars u.0 u.1.0)

-- ---- names

inner_ascii : (b : ℕ) → is_name_byte b ≡ true → b < 128
inner_ascii b h = grind (arith, and_parts, or_cases, leb-true, eqb-true, h)

first_ascii : (b : ℕ) → is_first b ≡ true → b < 128
first_ascii b h = grind (arith, and_parts, or_cases, leb-true, eqb-true, h)

inside_text : (w : Text) → all_in_word w ≡ true → IsUtf8 w
inside_text [] h = IsUtf8-nil
inside_text (b ∷ w) h =
    let p = and_parts (is_name_byte b) (all_in_word w) h in
    ascii_then b w (inner_ascii b p.0) (inside_text w p.1)

word_text : (w : Text) → is_word w ≡ true → IsUtf8 w
word_text [] h = IsUtf8-nil
word_text (b ∷ w) h =
    let p = and_parts (is_first b) (all_in_word w) h in
    ascii_then b w (first_ascii b p.0) (inside_text w p.1)

-- ---- signs

operator_text : (o : BinaryOperator) → is_utf8 (operator_spelling o) ≡ true
unfolding is_utf8 chars encode
operator_text (binary.Arithmetic arithmetic.Add) = refl
operator_text (binary.Comparison comparison.Equal) = refl
operator_text (binary.Connective connective.And) = refl
operator_text _ = refl

sign_text : (s : Sign) → is_utf8 (sign_spelling s) ≡ true
unfolding is_utf8 chars encode
sign_text sign.Begin = refl
sign_text (sign.Binary o) = operator_text o
sign_text s = refl

-- ---- all

spelling_text : (k : TokenKind) → IsPrintable k → IsTextual k → IsUtf8 (spelling k)
spelling_text (kind.Number n) h u = IsUtf8-from_ascii (decimal n) (IsAscii-decimal n (omega (arith, h)))
spelling_text (kind.Name w) h u = word_text w h.0
spelling_text (kind.Text bs) h u = ascii_then 34 (escaped bs ++ 34 ∷ []) (omega arith) (IsUtf8-append (escaped bs) (34 ∷ []) (escaped_text bs u) (IsUtf8-are_ascii (34 ∷ []) refl))
spelling_text (kind.Sign s) h u = IsUtf8-from_is_utf8 (sign_spelling s) (sign_text s)

pub spelled_text : (ks : List TokenKind) → ArePrintable ks → AreTextual ks → IsUtf8 (spelled ks)
spelled_text [] h u = IsUtf8-nil
spelled_text (k ∷ ks) h u = IsUtf8-append (spelling k) (32 ∷ spelled ks) (spelling_text k h.0 u.0) (ascii_then 32 (spelled ks) (omega arith) (spelled_text ks h.1 u.1))
