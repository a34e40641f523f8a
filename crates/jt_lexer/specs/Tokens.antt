-- The tokens of a text, and its first refusal, as relations: pieces stand one behind the other from the text's front.
use Rattle.std.specs.Prelude.{◌≡◌, ℕ, ◌+◌, ◌<◌, ◌≤◌, List, [], ◌∷◌, ◌++◌, length, drop, Option}
use Rattle.jt_syntax.specs.declared.token.Sign.TheVariants as sign
use Rattle.jt_syntax.specs.declared.token.Token.{Token}
use Rattle.jt_syntax.specs.declared.token.TokenKind.{TokenKind}
use Rattle.jt_syntax.specs.declared.token.TokenKind.TheVariants as kind
use Rattle.jt_lexer.specs.declared.error.LexError.{LexError}
use Rattle.jt_lexer.specs.declared.error.LexError.TheVariants as error
use Rattle.jt_lexer.specs.Pieces.{Text}
use Rattle.jt_lexer.specs.Lexer.{token, tokens_of}
use Rattle.jt_lexer.specs.Rules.{IsPiece, IsRefusal}

-- Pieces by the rules, each a token or a blank, stand one behind the other in a text that begins at `at`, and are
-- these tokens. Behind them, at `end`, the text `rest` is left.
abbrev pub Begins : List (Option TokenKind × ℕ) → ℕ → Text → List Token → ℕ → Text → Type 0
Begins [] at z ts end rest = (end ≡ at) × (rest ≡ z) × (ts ≡ [])
Begins (p ∷ ps) at z ts end rest = (us : List Token) × IsPiece z p.0 p.1 × (ts ≡ tokens_of p.0 at ++ us) × Begins ps (at + p.1) (drop p.1 z) us end rest

-- pieces up to the text's end are these tokens, and the end token stands there
abbrev pub IsTokensOf : Text → List Token → Type 0
IsTokensOf text ts = (ps : List (Option TokenKind × ℕ)) × (us : List Token) × (end : ℕ) × (ts ≡ us ++ token (kind.Sign sign.Stop) end ∷ []) × Begins ps 0 text us end []

-- behind some pieces more is left, and no piece stands at its front, for this reason
abbrev pub RefusesAt : Text → LexError → Type 0
RefusesAt text e = (ps : List (Option TokenKind × ℕ)) × (us : List Token) × (end : ℕ) × (rest : Text) × (0 < length rest) × IsRefusal rest end e × Begins ps 0 text us end rest

-- want of memory has no cause in the text
abbrev pub RefusesText : Text → LexError → Type 0
RefusesText text error.OutOfMemory = Unit {0}
RefusesText text e = RefusesAt text e

abbrev pub IsNoStop : TokenKind → Type 0
IsNoStop (kind.Sign sign.Stop) = ⊥
IsNoStop k = Unit {0}

-- the end token isn't among these
abbrev pub NoStop : List Token → Type 0
NoStop [] = Unit {0}
NoStop (t ∷ ts) = IsNoStop t.kind × NoStop ts

-- the tokens end with the end token, which stands at the text's length and nowhere else, and no more others than bytes come before it
abbrev pub IsWhole : Text → List Token → Type 0
IsWhole text ts = (us : List Token) × (ts ≡ us ++ token (kind.Sign sign.Stop) (length text) ∷ []) × (length us ≤ length text) × NoStop us
