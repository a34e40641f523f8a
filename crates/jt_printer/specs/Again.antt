-- What it means that a text reads as a script again.
use Rattle.std.specs.Prelude.{◌≡◌, ℕ, List}
use Rattle.std.specs.Str.{IsUtf8}
use Rattle.jt_syntax.specs.Tree.{TopTree}
use Rattle.jt_syntax.specs.declared.token.Token.{Token}
use Rattle.jt_lexer.specs.Pieces.{Text}
use Rattle.jt_lexer.specs.Tokens.{IsTokensOf}
use Rattle.jt_grammar.specs.Joined.{IsScriptOf}
use Rattle.jt_grammar.specs.Nesting.{TopsWithin}
use Rattle.jt_grammar.specs.Printed.{bare_script}

-- the tokens are this script, in which no more openers are open at once than that
abbrev pub IsScriptWithin : ℕ → List Token → List TopTree → Type 0
IsScriptWithin d ts tops = IsScriptOf ts tops × TopsWithin d tops

-- the script was read from some text
abbrev pub WasRead : ℕ → List TopTree → Type 0
WasRead d tops = (text : Text) × (ts : List Token) × IsUtf8 text × IsTokensOf text ts × IsScriptWithin d ts tops

-- a script that is this one but for its places
abbrev pub IsSameScript : ℕ → List TopTree → List Token → Type 0
IsSameScript d tops ts = (others : List TopTree) × IsScriptWithin d ts others × (bare_script others ≡ bare_script tops)

-- the text has tokens, and whatever tokens it has are the same script
abbrev pub ReadsAs : ℕ → List TopTree → Text → Type 0
ReadsAs d tops text = IsUtf8 text × ((ts : List Token) × IsTokensOf text ts) × ((ts : List Token) → IsTokensOf text ts → IsSameScript d tops ts)

-- the text reads as this very script
abbrev pub ReadsExactly : ℕ → Text → List TopTree → Type 0
ReadsExactly d text tops = (ts : List Token) × IsTokensOf text ts × IsScriptWithin d ts tops
