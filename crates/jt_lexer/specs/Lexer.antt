-- The tokens of a text, or the first refusal from the left.
use Rattle.std.specs.Prelude.{◌≡◌, ℕ, zero, suc, ◌+◌, ◌-◌, Bool, true, false, if◌then◌else◌, ◌==◌, List, [], ◌∷◌, ◌++◌, length, take, drop, Option, Some, None, Result, Ok, Err}
use Rattle.jt_syntax.specs.declared.token.Sign.TheVariants as sign
use Rattle.jt_syntax.specs.declared.token.Token.{Token}
use Rattle.jt_syntax.specs.declared.token.TokenKind.{TokenKind}
use Rattle.jt_syntax.specs.declared.token.TokenKind.TheVariants as kind
use Rattle.jt_lexer.specs.declared.error.LexError.{LexError}
use Rattle.jt_lexer.specs.declared.error.LexError.TheVariants as error
use Rattle.jt_lexer.specs.declared.piece.Shape.{Shape}
use Rattle.jt_lexer.specs.declared.piece.Shape.TheVariants as shape
use Rattle.jt_lexer.specs.declared.piece.Defect.{Defect}
use Rattle.jt_lexer.specs.declared.piece.Defect.TheVariants as defect
use Rattle.jt_lexer.specs.Pieces.{Text, Piece, piece}

-- the byte that an escape's last byte stands for
unfoldable pub escape : ℕ → ℕ
escape b = if b == 110 then 10 else (if b == 116 then 9 else b)

-- the bytes that a string's inside stands for
abbrev pub unescaped : Bool → Text → List ℕ
unescaped escaped [] = []
unescaped true (b ∷ z) = escape b ∷ unescaped false z
unescaped false (b ∷ z) = if b == 92 then unescaped true z else b ∷ unescaped false z

abbrev pub token : TokenKind → ℕ → Token
token k at = record { kind = k; at = at }

-- what a piece is as a token: a blank is none
abbrev pub token_kind : Shape → Text → Option TokenKind
token_kind shape.Blank w = None
token_kind (shape.Number n) w = Some (kind.Number n)
token_kind (shape.Name start) w = Some (kind.Name (drop start w))
token_kind shape.Text w = Some (kind.Text (unescaped false (drop 1 (take (length w - 1) w))))
token_kind (shape.Sign s) w = Some (kind.Sign s)

abbrev pub tokens_of : Option TokenKind → ℕ → List Token
tokens_of None at = []
tokens_of (Some k) at = token k at ∷ []

-- memory alone keeps tokens from being added
abbrev pub Pushes : List Token → List Token → Result Unit LexError → List Token → Type 0
Pushes ts old (Ok u) new = new ≡ old ++ ts
Pushes ts old (Err e) new = e ≡ error.OutOfMemory

abbrev pub lex_error : Defect → ℕ → LexError
lex_error (defect.BadCharacter n) at = error.BadCharacter (at + n)
lex_error defect.OpenString at = error.OpenString at
lex_error defect.NumberTooLarge at = error.NumberTooLarge at

abbrev pub Lexed : Type 0
Lexed = Result (List Token) LexError

abbrev pub put_before : List Token → Lexed → Lexed
put_before ts (Ok us) = Ok (ts ++ us)
put_before ts (Err e) = Err e

abbrev pub followed : Piece → ℕ → Text → (ℕ → Lexed) → Lexed
followed (Err f) at z rest = Err (lex_error f at)
followed (Ok p) at z rest = put_before (tokens_of (token_kind p.0 (take p.1 z)) at) (rest p.1)

-- The tokens of a text that begins at `at`. The first number counts the bytes that are left of a piece.
abbrev pub lex_from : ℕ → ℕ → Text → Lexed
lex_from left at [] = Ok (token (kind.Sign sign.Stop) at ∷ [])
lex_from (suc left) at (b ∷ z) = lex_from left (at + 1) z
lex_from zero at (b ∷ z) = followed (piece (b ∷ z)) at (b ∷ z) (λ n. lex_from (n - 1) (at + 1) z)

unfoldable pub lex : Text → Lexed
lex = lex_from 0 0

-- a call gives what the definition says, but where memory fails
abbrev pub LexesTo : {A B : Type 0} → (B → A) → Result A LexError → Result B LexError → Type 0
LexesTo view o (Ok b) = o ≡ Ok (view b)
LexesTo view o (Err error.OutOfMemory) = Unit {0}
LexesTo view o (Err e) = o ≡ Err e
