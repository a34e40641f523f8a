-- What the bytes of a script are: its program, or why there is none.
use Rattle.std.specs.Prelude.{◌≡◌, ℕ, ◌≤◌, List, Option, Some, None, length, IsUtf8}
use Rattle.jt_base.specs.Limits.{most_script, most_open}
use Rattle.jt_base.specs.Outside.{ReadsToEnd}
use Rattle.jt_bound.specs.Programs.{program_of}
use Rattle.jt_forms.specs.Built.{unbuilt}
use Rattle.jt_grammar.specs.Joined.{IsScriptOf, IsUnexpected, IsTooDeep}
use Rattle.jt_grammar.specs.Nesting.{TopsWithin}
use Rattle.jt_lexer.specs.declared.error.LexError.TheVariants as lexical
use Rattle.jt_lexer.specs.Tokens.{IsTokensOf, RefusesText}
use Rattle.jt_program.specs.Plan.{ProgramPlan}
use Rattle.jt_naming.specs.declared.rules.Rule.{Rule}
use Rattle.jt_naming.specs.declared.rules.Rule.TheVariants as rule
use Rattle.jt_naming.specs.Rules.{broken}
use Rattle.jt_naming.specs.Scripts.{Breaks, BreaksNone}
use Rattle.jt_syntax.specs.Tree.{TopTree}
use Rattle.jt_syntax.specs.declared.token.Token.{Token}
use Rattle.jt_tool.specs.declared.report.Refusal.{Refusal}
use Rattle.jt_tool.specs.declared.report.Refusal.TheVariants.{BadCharacter, OpenString, NumberTooLarge, Unexpected, TooDeep, NotBuilt, UnknownName, CapturedAssigned, AmbiguousGlobal, TwiceDefined, WrongCount, NoConstant, BadJump}

-- the bytes are a text, these are its tokens, and they are this script, with no opener too many
pub record IsScriptText (bytes : List ℕ) (tokens : List Token) (tops : List TopTree) : Type 0 where
  pub text : IsUtf8 bytes
  pub lexed : IsTokensOf bytes tokens
  pub parsed : IsScriptOf tokens tops
  pub nested : TopsWithin most_open tops

-- the bytes are a script all of whose forms run and that breaks no rule of names, and this is its program
pub record IsProgramOf (bytes : List ℕ) (program : ProgramPlan) : Type 0 where
  pub tokens : List Token
  pub tops : List TopTree
  pub read : IsScriptText bytes tokens tops
  pub built : unbuilt tops ≡ None
  pub named : BreaksNone tops
  pub is : program ≡ program_of tops

-- bytes that are told, no more than a script may have, and that have a program
abbrev pub IsAccepted : Option (List ℕ) → Type 0
IsAccepted None = ⊥
IsAccepted (Some bytes) = (length bytes ≤ most_script) × (program : ProgramPlan) × IsProgramOf bytes program

-- a source was read to its end, and gave these bytes, no more than a script may have, which have this program
pub record GivesProgram (before after : Option (List ℕ)) (bytes : List ℕ) (program : ProgramPlan) : Type 0 where
  pub read : ReadsToEnd before after bytes
  pub short : length bytes ≤ most_script
  pub is : IsProgramOf bytes program

-- ---- refusals

-- the tokens of a text are refused at this place: they are so before that token, and not with it
abbrev pub IsUnexpectedAt : List ℕ → ℕ → Type 0
IsUnexpectedAt bytes at = (tokens : List Token) × (t : Token) × IsTokensOf bytes tokens × IsUnexpected most_open tokens t × (at ≡ t.at)

abbrev pub IsTooDeepAt : List ℕ → ℕ → Type 0
IsTooDeepAt bytes at = (tokens : List Token) × (t : Token) × IsTokensOf bytes tokens × IsTooDeep most_open tokens t × (at ≡ t.at)

-- the text is a script, and its first form that doesn't run begins there
abbrev pub IsUnbuiltAt : List ℕ → ℕ → Type 0
IsUnbuiltAt bytes at = (tokens : List Token) × (tops : List TopTree) × IsScriptText bytes tokens tops × (unbuilt tops ≡ Some at)

-- the text is a script all of whose forms run, and of the rules of names that it breaks this one, at this place, counts
abbrev pub IsMisnamedAt : List ℕ → Rule → ℕ → Type 0
IsMisnamedAt bytes r at = (tokens : List Token) × (tops : List TopTree) × IsScriptText bytes tokens tops × (unbuilt tops ≡ None) × Breaks tops (broken at r)

-- why a text is refused, and where
abbrev pub IsRefused : List ℕ → Refusal → ℕ → Type 0
IsRefused bytes BadCharacter at = RefusesText bytes (lexical.BadCharacter at)
IsRefused bytes OpenString at = RefusesText bytes (lexical.OpenString at)
IsRefused bytes NumberTooLarge at = RefusesText bytes (lexical.NumberTooLarge at)
IsRefused bytes Unexpected at = IsUnexpectedAt bytes at
IsRefused bytes TooDeep at = IsTooDeepAt bytes at
IsRefused bytes NotBuilt at = IsUnbuiltAt bytes at
IsRefused bytes UnknownName at = IsMisnamedAt bytes rule.UnknownName at
IsRefused bytes CapturedAssigned at = IsMisnamedAt bytes rule.CapturedAssigned at
IsRefused bytes AmbiguousGlobal at = IsMisnamedAt bytes rule.AmbiguousGlobal at
IsRefused bytes TwiceDefined at = IsMisnamedAt bytes rule.TwiceDefined at
IsRefused bytes WrongCount at = IsMisnamedAt bytes rule.WrongCount at
IsRefused bytes NoConstant at = IsMisnamedAt bytes rule.NoConstant at
IsRefused bytes BadJump at = IsMisnamedAt bytes rule.BadJump at
