-- How tokens are written, each followed by one space, so that the text reads as those tokens again.
use Rattle.std.specs.Prelude.{◌≡◌, ℕ, ◌+◌, ◌^◌, ◌<◌, Bool, true, false, ◌&&◌, ◌||◌, if◌then◌else◌, ◌==◌, List, [], ◌∷◌, ◌++◌, length, map, None, codes}
use Rattle.std.specs.Char.{is_ascii_alphabetic}
use Rattle.std.specs.Str.{IsUtf8}
use Rattle.std.specs.Fmt.{decimal}
use Rattle.jt_syntax.specs.declared.operator.ArithmeticOperator.TheVariants as arithmetic
use Rattle.jt_syntax.specs.declared.operator.BinaryOperator.{BinaryOperator}
use Rattle.jt_syntax.specs.declared.operator.BinaryOperator.TheVariants as binary
use Rattle.jt_syntax.specs.declared.operator.ComparisonOperator.TheVariants as comparison
use Rattle.jt_syntax.specs.declared.operator.Connective.TheVariants as connective
use Rattle.jt_syntax.specs.declared.token.Sign.{Sign}
use Rattle.jt_syntax.specs.declared.token.Sign.TheVariants as sign
use Rattle.jt_syntax.specs.declared.token.Token.{Token}
use Rattle.jt_syntax.specs.declared.token.TokenKind.{TokenKind}
use Rattle.jt_syntax.specs.declared.token.TokenKind.TheVariants as kind
use Rattle.jt_lexer.specs.Pieces.{Text, continues_word, reserved}
use Rattle.jt_lexer.specs.Lexer.{token}

-- ---- the spelling of a token

-- one spelling of each operator between two operands
abbrev pub operator_spelling : BinaryOperator → Text
operator_spelling (binary.Arithmetic arithmetic.Add) = codes "+"
operator_spelling (binary.Arithmetic arithmetic.Subtract) = codes "-"
operator_spelling (binary.Arithmetic arithmetic.Multiply) = codes "*"
operator_spelling (binary.Arithmetic arithmetic.Divide) = 195 ∷ 183 ∷ []
operator_spelling (binary.Arithmetic arithmetic.Remainder) = codes "%"
operator_spelling (binary.Arithmetic arithmetic.Power) = codes "^"
operator_spelling (binary.Arithmetic arithmetic.And) = codes "&"
operator_spelling (binary.Arithmetic arithmetic.Or) = codes "|"
operator_spelling (binary.Arithmetic arithmetic.Xor) = 226 ∷ 138 ∷ 187 ∷ []
operator_spelling (binary.Arithmetic arithmetic.ShiftLeft) = codes "<<"
operator_spelling (binary.Arithmetic arithmetic.ShiftRight) = codes ">>"
operator_spelling (binary.Arithmetic arithmetic.ShiftRightZero) = codes ">>>"
operator_spelling (binary.Comparison comparison.Equal) = codes "=="
operator_spelling (binary.Comparison comparison.NotEqual) = codes "!="
operator_spelling (binary.Comparison comparison.Less) = codes "<"
operator_spelling (binary.Comparison comparison.LessEqual) = codes "<="
operator_spelling (binary.Comparison comparison.Greater) = codes ">"
operator_spelling (binary.Comparison comparison.GreaterEqual) = codes ">="
operator_spelling (binary.Connective connective.And) = codes "&&"
operator_spelling (binary.Connective connective.Or) = codes "||"

-- one spelling of each sign and each word that is no name; a newline, the end token and an unused keyword have none
abbrev pub sign_spelling : Sign → Text
sign_spelling sign.Begin = codes "begin"
sign_spelling sign.Break = codes "break"
sign_spelling sign.Const = codes "const"
sign_spelling sign.Continue = codes "continue"
sign_spelling sign.Else = codes "else"
sign_spelling sign.ElseIf = codes "elseif"
sign_spelling sign.End = codes "end"
sign_spelling sign.False = codes "false"
sign_spelling sign.For = codes "for"
sign_spelling sign.Function = codes "function"
sign_spelling sign.If = codes "if"
sign_spelling sign.In = codes "in"
sign_spelling sign.Return = codes "return"
sign_spelling sign.True = codes "true"
sign_spelling sign.Using = codes "using"
sign_spelling sign.While = codes "while"
sign_spelling sign.Reserved = []
sign_spelling sign.Println = codes "println"
sign_spelling sign.Error = codes "error"
sign_spelling sign.Channel = codes "Channel"
sign_spelling sign.Atomic = codes "Atomic"
sign_spelling sign.Int64 = codes "Int64"
sign_spelling sign.TypeMin = codes "typemin"
sign_spelling sign.TypeMax = codes "typemax"
sign_spelling sign.Rand = codes "rand"
sign_spelling sign.BaseThreads = codes "Base.Threads"
sign_spelling sign.Spawn = codes "@spawn"
sign_spelling sign.Async = codes "@async"
sign_spelling sign.Sync = codes "@sync"
sign_spelling sign.Threads = codes "@threads"
sign_spelling (sign.Binary o) = operator_spelling o
sign_spelling sign.PlusAssign = codes "+="
sign_spelling sign.MinusAssign = codes "-="
sign_spelling sign.StarAssign = codes "*="
sign_spelling sign.DivideAssign = 195 ∷ 183 ∷ 61 ∷ []
sign_spelling sign.PercentAssign = codes "%="
sign_spelling sign.Tilde = codes "~"
sign_spelling sign.Not = codes "!"
sign_spelling sign.Assign = codes "="
sign_spelling sign.Question = codes "?"
sign_spelling sign.Colon = codes ":"
sign_spelling sign.Comma = codes ","
sign_spelling sign.Semicolon = codes ";"
sign_spelling sign.Dollar = codes "$"
sign_spelling sign.Open = codes "("
sign_spelling sign.Close = codes ")"
sign_spelling sign.OpenSquare = codes "["
sign_spelling sign.CloseSquare = codes "]"
sign_spelling sign.OpenCurly = codes "{"
sign_spelling sign.CloseCurly = codes "}"
sign_spelling sign.Newline = []
sign_spelling sign.Stop = []

-- a byte of a string as it stands between the quotes: 92 is the backslash
abbrev pub escaped_byte : ℕ → Text
escaped_byte b =
    if b == 10 then codes "\\n" else (if b == 9 then codes "\\t" else (if b == 92 || b == 34 || b == 36 then 92 ∷ b ∷ [] else b ∷ []))

abbrev pub escaped : List ℕ → Text
escaped [] = []
escaped (b ∷ bs) = escaped_byte b ++ escaped bs

abbrev pub spelling : TokenKind → Text
spelling (kind.Number n) = decimal n
spelling (kind.Name w) = w
spelling (kind.Text bs) = 34 ∷ escaped bs ++ 34 ∷ []
spelling (kind.Sign s) = sign_spelling s

-- each token's spelling, followed by one space
abbrev pub spelled : List TokenKind → Text
spelled [] = []
spelled (k ∷ ks) = spelling k ++ 32 ∷ spelled ks

-- ---- the tokens that have a spelling

abbrev pub is_first : ℕ → Bool
is_first b = is_ascii_alphabetic b || b == 95

abbrev pub is_name_byte : ℕ → Bool
is_name_byte b = continues_word b || b == 33

abbrev pub all_in_word : Text → Bool
all_in_word [] = true
all_in_word (b ∷ w) = is_name_byte b && all_in_word w

-- a letter or `_`, then letters, digits, `_` and `!`
abbrev pub is_word : Text → Bool
is_word [] = false
is_word (b ∷ w) = is_first b && all_in_word w

-- a word that is no keyword and has no rule of its own
abbrev pub IsSpelledName : Text → Type 0
IsSpelledName w = (is_word w ≡ true) × (reserved w ≡ None)

abbrev pub HasSpelling : TokenKind → Type 0
HasSpelling (kind.Sign sign.Newline) = ⊥
HasSpelling (kind.Sign sign.Reserved) = ⊥
HasSpelling (kind.Sign sign.Stop) = ⊥
HasSpelling k = Unit {0}

-- what a token must be so that its spelling reads as it
abbrev pub IsPrintable : TokenKind → Type 0
IsPrintable (kind.Number n) = n < 2 ^ 63
IsPrintable (kind.Name w) = IsSpelledName w
IsPrintable (kind.Text bs) = Unit {0}
IsPrintable (kind.Sign s) = HasSpelling (kind.Sign s)

-- a string is a text in UTF-8
abbrev pub IsTextual : TokenKind → Type 0
IsTextual (kind.Text bs) = IsUtf8 bs
IsTextual k = Unit {0}

abbrev pub EachKind : (TokenKind → Type 0) → List TokenKind → Type 0
EachKind P [] = Unit {0}
EachKind P (k ∷ ks) = P k × EachKind P ks

abbrev pub ArePrintable : List TokenKind → Type 0
ArePrintable = EachKind IsPrintable

abbrev pub AreTextual : List TokenKind → Type 0
AreTextual = EachKind IsTextual

abbrev pub kinds : List Token → List TokenKind
kinds = map (λ t. t.kind)

-- ---- the tokens of such a text

abbrev pub stop : TokenKind
stop = kind.Sign sign.Stop

-- the tokens, each at the place of its spelling in a text that begins at `at`, and the end token
abbrev pub placed_from : ℕ → List TokenKind → List Token
placed_from at [] = token stop at ∷ []
placed_from at (k ∷ ks) = token k at ∷ placed_from (at + length (spelling k) + 1) ks
