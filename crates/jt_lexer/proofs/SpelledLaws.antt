-- A text of spelled tokens reads as those tokens.
use Rattle.std.proofs.Common.{◌≡◌, ℕ, ◌+◌, true, false, ◌||◌, List, [], ◌∷◌, ◌++◌, length, take, inl, Some, None, Ok, Err, refl, sym, ap, subst, ◌∙◌, arith}
use Rattle.std.specs.Prelude.{◌==◌}
use Rattle.std.proofs.lemmas.Bool.{or_cases, or_parts, eqb-true, cond_both}
use Rattle.std.proofs.Math.Seq.{take-append_seam, drop-append_seam}
use Rattle.jt_syntax.specs.declared.token.Token.{Token}
use Rattle.jt_syntax.specs.declared.token.TokenKind.{TokenKind}
use Rattle.jt_syntax.specs.declared.token.TokenKind.TheVariants as kind
use Rattle.jt_lexer.specs.declared.piece.Shape.{Shape}
use Rattle.jt_lexer.specs.declared.piece.Shape.TheVariants as shape
use Rattle.jt_lexer.specs.Pieces.{Text, piece}
use Rattle.jt_lexer.specs.Lexer.{Lexed, token, escape, unescaped, token_kind, lex}
use Rattle.jt_lexer.specs.Tokens.{Begins, IsTokensOf}
use Rattle.jt_lexer.specs.Spelled.{escaped_byte, escaped, spelling, spelled, IsPrintable, ArePrintable, stop, kinds, placed_from}
use Rattle.jt_lexer.specs.Rules.{IsPiece}
use Rattle.jt_lexer.proofs.TokenLaws.{Pieces, tokens_read}
use Rattle.jt_lexer.proofs.Classes.{piece_sound}
use Rattle.jt_lexer.proofs.Strings.{inside}
use Rattle.jt_lexer.proofs.Spellings.{sign_reads, number_reads, text_reads, name_reads}

-- ---- what stands between the quotes of a spelled string

byte_unescaped : (b : ℕ) (z : Text) → unescaped false (escaped_byte b ++ z) ≡ b ∷ unescaped false z
unfolding escape
byte_unescaped b z =
    let P : Text → Type 0 = λ e. unescaped false (e ++ z) ≡ b ∷ unescaped false z in
    let marked : (b == 92 || b == 34 || b == 36) ≡ true → P (92 ∷ b ∷ []) = λ h.
    let same : escape b ≡ b = grind (arith, or_cases, eqb-true, h) in
    ap (λ c. c ∷ unescaped false z) same in
    let plain : (b == 92 || b == 34 || b == 36) ≡ false → P (b ∷ []) = λ h.
    let backslash : (b == 92) ≡ false = grind (arith, or_parts, h) in
    rw backslash refl in
    cond_both (b == 10) _ _ P (λ h. ap (λ c. c ∷ unescaped false z) (sym (eqb-true b 10 h)))
    (λ h. cond_both (b == 9) _ _ P (λ k. ap (λ c. c ∷ unescaped false z) (sym (eqb-true b 9 k)))
    (λ k. cond_both (b == 92 || b == 34 || b == 36) _ _ P marked plain))

all_unescaped : (bs : List ℕ) → unescaped false (escaped bs) ≡ bs
all_unescaped [] = refl
all_unescaped (b ∷ bs) = byte_unescaped b (escaped bs) ∙ ap (λ z. b ∷ z) (all_unescaped bs)

-- ---- a token's spelling and the space behind it

spelled_piece : (k : TokenKind) (z : Text) (s : Shape) → piece (spelling k ++ 32 ∷ z) ≡ Ok (s, length (spelling k)) → token_kind s (spelling k) ≡ Some k → IsPiece (spelling k ++ 32 ∷ z) (Some k) (length (spelling k))
spelled_piece k z s e h =
    let text = spelling k ++ 32 ∷ z in
    let front : take (length (spelling k)) text ≡ spelling k = take-append_seam (spelling k) (32 ∷ z) in
    subst (λ o. IsPiece text o (length (spelling k))) (ap (token_kind s) front ∙ h) (piece_sound text s (length (spelling k)) e)

reads : (k : TokenKind) (z : Text) → IsPrintable k → IsPiece (spelling k ++ 32 ∷ z) (Some k) (length (spelling k))
reads (kind.Number n) z h = spelled_piece (kind.Number n) z (shape.Number n) (number_reads n z h) refl
reads (kind.Name w) z h = spelled_piece (kind.Name w) z (shape.Name 0) (name_reads w z h) refl
reads (kind.Text bs) z h = spelled_piece (kind.Text bs) z shape.Text (text_reads bs z) (ap (λ t. Some (kind.Text t)) (ap (unescaped false) (inside (escaped bs)) ∙ all_unescaped bs))
reads (kind.Sign s) z h = spelled_piece (kind.Sign s) z (shape.Sign s) (sign_reads s z h) refl

-- ---- all tokens

abbrev Stands : ℕ → List TokenKind → Type 0
Stands at ks = (ps : Pieces) × (us : List Token) × (end : ℕ) × (placed_from at ks ≡ us ++ token stop end ∷ []) × Begins ps at (spelled ks) us end []

one_more : (k : TokenKind) (ks : List TokenKind) (at : ℕ) → IsPiece (spelling k ++ 32 ∷ spelled ks) (Some k) (length (spelling k)) → Stands (at + length (spelling k) + 1) ks → Stands at (k ∷ ks)
one_more k ks at r h =
    let n = length (spelling k) in
    let ps : Pieces = (None, 1) ∷ h.0 in
    let blank : Begins ps (at + n) (32 ∷ spelled ks) h.1 h.2 [] = (h.1, inl (refl, refl), refl, h.4) in
    let behind = subst (λ y. Begins ps (at + n) y h.1 h.2 []) (sym (drop-append_seam (spelling k) (32 ∷ spelled ks))) blank in
    ((Some k, n) ∷ ps, token k at ∷ h.1, h.2, ap (λ ts. token k at ∷ ts) h.3, (h.1, r, refl, behind))

stands : (ks : List TokenKind) (at : ℕ) → ArePrintable ks → Stands at ks
stands [] at h = ([], [], at, refl, (refl, refl, refl))
stands (k ∷ ks) at h = one_more k ks at (reads k (spelled ks) h.0) (stands ks (at + length (spelling k) + 1) h.1)

-- spelled tokens and the end token are the tokens of the text that they are spelled in
pub spelled_tokens : (ks : List TokenKind) → ArePrintable ks → IsTokensOf (spelled ks) (placed_from 0 ks)
spelled_tokens ks h = stands ks 0 h

pub spelled_is_read : (ks : List TokenKind) → ArePrintable ks → lex (spelled ks) ≡ Ok (placed_from 0 ks)
spelled_is_read ks h = tokens_read (spelled ks) (placed_from 0 ks) (spelled_tokens ks h)

pub kinds_placed : (at : ℕ) (ks : List TokenKind) → kinds (placed_from at ks) ≡ ks ++ stop ∷ []
kinds_placed at [] = refl
kinds_placed at (k ∷ ks) = ap (λ rest. k ∷ rest) (kinds_placed (at + length (spelling k) + 1) ks)

abbrev ok_tokens : Lexed → List Token
ok_tokens (Ok ts) = ts
ok_tokens (Err e) = []

-- whatever tokens the text has, they are of these kinds
pub tokens_of_spelled : (ks : List TokenKind) (ts : List Token) → ArePrintable ks → IsTokensOf (spelled ks) ts → kinds ts ≡ ks ++ stop ∷ []
tokens_of_spelled ks ts h r =
    let same : ts ≡ placed_from 0 ks = ap ok_tokens (sym (tokens_read (spelled ks) ts r) ∙ spelled_is_read ks h) in
    ap kinds same ∙ kinds_placed 0 ks
