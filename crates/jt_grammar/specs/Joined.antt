-- Joined lines: the newlines that are dropped before the grammar is asked, and what it means that tokens begin a script.
use Rattle.std.specs.Prelude.{◌≡◌, ℕ, suc, ◌+◌, Bool, true, false, ◌&&◌, ◌||◌, if◌then◌else◌, List, [], ◌∷◌, ◌++◌, length, ◌-◌, take, slice_get, Option, Some, None}
use denote.Enum.Bare.{sameb}
use Rattle.jt_syntax.specs.Tree.{TopTree}
use Rattle.jt_syntax.specs.declared.operator.ArithmeticOperator.TheVariants as arithmetic
use Rattle.jt_syntax.specs.declared.operator.BinaryOperator.TheVariants as binary
use Rattle.jt_syntax.specs.declared.token.Sign.{Sign}
use Rattle.jt_syntax.specs.declared.token.Sign.TheVariants as sign
use Rattle.jt_syntax.specs.declared.token.Token.{Token}
use Rattle.jt_syntax.specs.declared.token.TokenKind.{TokenKind}
use Rattle.jt_syntax.specs.declared.token.TokenKind.TheVariants as kind
use Rattle.jt_grammar.specs.contracts.Opener.{the_type}
use Rattle.jt_grammar.specs.declared.Opener.{Opener}
use Rattle.jt_grammar.specs.declared.Opener.TheVariants as opener
use Rattle.jt_grammar.specs.Grammar.{ScriptSpells}
use Rattle.jt_grammar.specs.Nesting.{TopsWithin}

abbrev pub is_newline : TokenKind → Bool
is_newline (kind.Sign sign.Newline) = true
is_newline (kind.Sign _) = false
is_newline (kind.Number _) = false
is_newline (kind.Name _) = false
is_newline (kind.Text _) = false

-- the signs behind which a line goes on
abbrev pub goes_on : Sign → Bool
goes_on (sign.Binary o) = true
goes_on sign.Assign = true
goes_on sign.PlusAssign = true
goes_on sign.MinusAssign = true
goes_on sign.StarAssign = true
goes_on sign.DivideAssign = true
goes_on sign.PercentAssign = true
goes_on sign.Comma = true
goes_on sign.Question = true
goes_on sign.Colon = true
goes_on _ = false

abbrev pub continues : TokenKind → Bool
continues (kind.Sign s) = goes_on s
continues (kind.Number _) = false
continues (kind.Name _) = false
continues (kind.Text _) = false

-- what is open, the innermost last
abbrev pub innermost : List Opener → Option Opener
innermost open_now = slice_get open_now (length open_now - 1)

abbrev pub same_opener : Opener → Opener → Bool
same_opener = sameb the_type

abbrev pub closed_by : Opener → Option Opener → List Opener → List Opener
closed_by o None open_now = open_now
closed_by o (Some i) open_now = if same_opener i o then take (length open_now - 1) open_now else open_now

-- what is open behind a closing token of this kind, which closes nothing where the innermost is of another kind
abbrev pub closed : Opener → List Opener → List Opener
closed o open_now = closed_by o (innermost open_now) open_now

abbrev pub pushed_by : List Opener → Sign → List Opener
pushed_by open_now sign.Open = open_now ++ opener.Parenthesis ∷ []
pushed_by open_now sign.OpenSquare = open_now ++ opener.Square ∷ []
pushed_by open_now sign.OpenCurly = open_now ++ opener.Curly ∷ []
pushed_by open_now sign.Begin = open_now ++ opener.Block ∷ []
pushed_by open_now sign.Function = open_now ++ opener.Block ∷ []
pushed_by open_now sign.If = open_now ++ opener.Block ∷ []
pushed_by open_now sign.While = open_now ++ opener.Block ∷ []
pushed_by open_now sign.For = open_now ++ opener.Block ∷ []
pushed_by open_now sign.Close = closed opener.Parenthesis open_now
pushed_by open_now sign.CloseSquare = closed opener.Square open_now
pushed_by open_now sign.CloseCurly = closed opener.Curly open_now
pushed_by open_now sign.End = closed opener.Block open_now
pushed_by open_now _ = open_now

abbrev pub pushed : List Opener → TokenKind → List Opener
pushed open_now (kind.Sign s) = pushed_by open_now s
pushed open_now (kind.Number _) = open_now
pushed open_now (kind.Name _) = open_now
pushed open_now (kind.Text _) = open_now

abbrev pub is_bracket : Option Opener → Bool
is_bracket None = false
is_bracket (Some opener.Block) = false
is_bracket (Some _) = true

-- whether the innermost is a bracket
abbrev pub in_bracket : List Opener → Bool
in_bracket open_now = is_bracket (innermost open_now)

-- what is open, and whether the line goes on behind the last token that was kept
abbrev pub State : Type 0
State = List Opener × Bool

abbrev pub drops : State → TokenKind → Bool
drops s k = is_newline k && (in_bracket s.0 || s.1)

abbrev pub next_state : State → TokenKind → State
next_state s k = (pushed s.0 k, continues k)

abbrev pub joined_from : State → List Token → List Token
joined_from s [] = []
joined_from s (t ∷ ts) = if drops s t.kind then joined_from s ts else t ∷ joined_from (next_state s t.kind) ts

abbrev pub joined : List Token → List Token
joined ts = joined_from ([], false) ts

-- ---- scripts and their fronts, of tokens as they were written

-- the tokens are this script
abbrev pub IsScriptOf : List Token → List TopTree → Type 0
IsScriptOf ts tops = ScriptSpells tops (joined ts)

-- a front of a script, whatever its nesting
abbrev pub BeginsScript : List Token → Type 0
BeginsScript w = (more : List Token) × (tops : List TopTree) × IsScriptOf (w ++ more) tops

-- a front of a script in which no more openers are open at once than that
abbrev pub BeginsWithin : ℕ → List Token → Type 0
BeginsWithin d w = (more : List Token) × (tops : List TopTree) × IsScriptOf (w ++ more) tops × TopsWithin d tops

-- the openers behind which no other one must follow
abbrev pub opens : Sign → Bool
opens sign.Open = true
opens sign.OpenSquare = true
opens sign.OpenCurly = true
opens sign.Begin = true
opens sign.If = true
opens sign.While = true
opens sign.For = true
opens sign.Spawn = true
opens sign.Async = true
opens sign.Sync = true
opens sign.Question = true
opens (sign.Binary (binary.Arithmetic arithmetic.Power)) = true
opens (sign.Binary (binary.Arithmetic arithmetic.Subtract)) = true
opens (sign.Binary (binary.Arithmetic arithmetic.Add)) = true
opens sign.Not = true
opens sign.Tilde = true
opens _ = false

abbrev pub is_last_opener : TokenKind → Bool
is_last_opener (kind.Sign s) = opens s
is_last_opener (kind.Number _) = false
is_last_opener (kind.Name _) = false
is_last_opener (kind.Text _) = false

-- an opener; `@threads` and `function` have another one behind them
abbrev pub is_opener : TokenKind → Bool
is_opener (kind.Sign sign.Threads) = true
is_opener (kind.Sign sign.Function) = true
is_opener k = is_last_opener k

-- no opener among the tokens, but perhaps one that has another one behind it
abbrev pub Unopened : List Token → Type 0
Unopened [] = Unit {0}
Unopened (t ∷ ts) = (is_last_opener t.kind ≡ false) × Unopened ts

-- how many openers must follow directly inside an opener
abbrev pub demanded : TokenKind → ℕ
demanded (kind.Sign sign.Threads) = 1
demanded (kind.Sign sign.Function) = 1
demanded (kind.Sign _) = 0
demanded (kind.Number _) = 0
demanded (kind.Name _) = 0
demanded (kind.Text _) = 0

-- a front of a script in which no more openers are open at once than that, but that its end may demand one more
abbrev pub BeginsFitting : ℕ → List Token → Type 0
BeginsFitting d w = (p q : List Token) × (w ≡ p ++ q) × BeginsWithin d p × Unopened q × BeginsWithin (suc d) w

-- the tokens before this one begin a script, with no opener too many, and with it they begin none
abbrev pub IsUnexpected : ℕ → List Token → Token → Type 0
IsUnexpected d ts t = (w x : List Token) × (ts ≡ w ++ t ∷ x) × BeginsFitting d w × ¬ BeginsScript (w ++ t ∷ [])

-- the tokens up to this opener begin a script, but none in which no more openers are open than that, those apart that it demands; none before it is one too many
abbrev pub IsTooDeep : ℕ → List Token → Token → Type 0
IsTooDeep d ts t = (w x : List Token) × (ts ≡ w ++ t ∷ x) × BeginsFitting d w × (is_opener t.kind ≡ true) × BeginsScript (w ++ t ∷ []) × ¬ BeginsWithin (demanded t.kind + d) (w ++ t ∷ [])
