-- The words and signs of the language, in ASCII but for `≤` `≥` `≠` `÷` `⊻`, which are in UTF-8.
use Rattle.std.specs.Prelude.{ℕ, List, [], ◌∷◌, codes}
use Rattle.jt_syntax.specs.declared.operator.ArithmeticOperator.TheVariants as arithmetic
use Rattle.jt_syntax.specs.declared.operator.BinaryOperator.TheVariants as binary
use Rattle.jt_syntax.specs.declared.operator.ComparisonOperator.TheVariants as comparison
use Rattle.jt_syntax.specs.declared.operator.Connective.TheVariants as connective
use Rattle.jt_syntax.specs.declared.token.Sign.{Sign}
use Rattle.jt_syntax.specs.declared.token.Sign.TheVariants as sign

-- the words that are no names
abbrev pub words : List (List ℕ × Sign)
words =
    (codes "begin", sign.Begin) ∷
    (codes "break", sign.Break) ∷
    (codes "const", sign.Const) ∷
    (codes "continue", sign.Continue) ∷
    (codes "else", sign.Else) ∷
    (codes "elseif", sign.ElseIf) ∷
    (codes "end", sign.End) ∷
    (codes "false", sign.False) ∷
    (codes "for", sign.For) ∷
    (codes "function", sign.Function) ∷
    (codes "if", sign.If) ∷
    (codes "in", sign.In) ∷
    (codes "return", sign.Return) ∷
    (codes "true", sign.True) ∷
    (codes "using", sign.Using) ∷
    (codes "while", sign.While) ∷
    (codes "do", sign.Reserved) ∷
    (codes "let", sign.Reserved) ∷
    (codes "try", sign.Reserved) ∷
    (codes "catch", sign.Reserved) ∷
    (codes "finally", sign.Reserved) ∷
    (codes "global", sign.Reserved) ∷
    (codes "local", sign.Reserved) ∷
    (codes "struct", sign.Reserved) ∷
    (codes "macro", sign.Reserved) ∷
    (codes "module", sign.Reserved) ∷
    (codes "quote", sign.Reserved) ∷
    (codes "import", sign.Reserved) ∷
    (codes "export", sign.Reserved) ∷
    (codes "println", sign.Println) ∷
    (codes "error", sign.Error) ∷
    (codes "Channel", sign.Channel) ∷
    (codes "Atomic", sign.Atomic) ∷
    (codes "Int64", sign.Int64) ∷
    (codes "typemin", sign.TypeMin) ∷
    (codes "typemax", sign.TypeMax) ∷
    (codes "rand", sign.Rand) ∷
    (codes "@spawn", sign.Spawn) ∷
    (codes "@async", sign.Async) ∷
    (codes "@sync", sign.Sync) ∷
    (codes "@threads", sign.Threads) ∷
    []

-- the signs, each before those that it begins with
abbrev pub signs : List (List ℕ × Sign)
signs =
    (codes ">>>", sign.Binary (binary.Arithmetic arithmetic.ShiftRightZero)) ∷
    (codes ">>", sign.Binary (binary.Arithmetic arithmetic.ShiftRight)) ∷
    (codes "<<", sign.Binary (binary.Arithmetic arithmetic.ShiftLeft)) ∷
    (codes "<=", sign.Binary (binary.Comparison comparison.LessEqual)) ∷
    (codes ">=", sign.Binary (binary.Comparison comparison.GreaterEqual)) ∷
    (codes "==", sign.Binary (binary.Comparison comparison.Equal)) ∷
    (codes "!=", sign.Binary (binary.Comparison comparison.NotEqual)) ∷
    ((226 ∷ 137 ∷ 164 ∷ []), sign.Binary (binary.Comparison comparison.LessEqual)) ∷
    ((226 ∷ 137 ∷ 165 ∷ []), sign.Binary (binary.Comparison comparison.GreaterEqual)) ∷
    ((226 ∷ 137 ∷ 160 ∷ []), sign.Binary (binary.Comparison comparison.NotEqual)) ∷
    (codes "&&", sign.Binary (binary.Connective connective.And)) ∷
    (codes "||", sign.Binary (binary.Connective connective.Or)) ∷
    (codes "+=", sign.PlusAssign) ∷
    (codes "-=", sign.MinusAssign) ∷
    (codes "*=", sign.StarAssign) ∷
    ((195 ∷ 183 ∷ 61 ∷ []), sign.DivideAssign) ∷
    (codes "%=", sign.PercentAssign) ∷
    (codes "+", sign.Binary (binary.Arithmetic arithmetic.Add)) ∷
    (codes "-", sign.Binary (binary.Arithmetic arithmetic.Subtract)) ∷
    (codes "*", sign.Binary (binary.Arithmetic arithmetic.Multiply)) ∷
    ((195 ∷ 183 ∷ []), sign.Binary (binary.Arithmetic arithmetic.Divide)) ∷
    (codes "%", sign.Binary (binary.Arithmetic arithmetic.Remainder)) ∷
    (codes "^", sign.Binary (binary.Arithmetic arithmetic.Power)) ∷
    (codes "&", sign.Binary (binary.Arithmetic arithmetic.And)) ∷
    (codes "|", sign.Binary (binary.Arithmetic arithmetic.Or)) ∷
    ((226 ∷ 138 ∷ 187 ∷ []), sign.Binary (binary.Arithmetic arithmetic.Xor)) ∷
    (codes "~", sign.Tilde) ∷
    (codes "!", sign.Not) ∷
    (codes "<", sign.Binary (binary.Comparison comparison.Less)) ∷
    (codes ">", sign.Binary (binary.Comparison comparison.Greater)) ∷
    (codes "=", sign.Assign) ∷
    (codes "?", sign.Question) ∷
    (codes ":", sign.Colon) ∷
    (codes ",", sign.Comma) ∷
    (codes ";", sign.Semicolon) ∷
    (codes "$", sign.Dollar) ∷
    (codes "(", sign.Open) ∷
    (codes ")", sign.Close) ∷
    (codes "[", sign.OpenSquare) ∷
    (codes "]", sign.CloseSquare) ∷
    (codes "{", sign.OpenCurly) ∷
    (codes "}", sign.CloseCurly) ∷
    ((10 ∷ []), sign.Newline) ∷
    []

-- the words that may stand behind `Threads.` and `Base.Threads.`
abbrev pub of_threads : List (List ℕ)
of_threads = codes "@spawn" ∷ codes "@threads" ∷ codes "Atomic" ∷ codes "Condition" ∷ codes "atomic_add!" ∷ codes "atomic_sub!" ∷ codes "atomic_xchg!" ∷ codes "atomic_cas!" ∷ []

-- the words that may stand behind `Base.`
abbrev pub of_base : List (List ℕ)
of_base = codes "Event" ∷ codes "Semaphore" ∷ codes "acquire" ∷ codes "release" ∷ []
