-- Why a command stops before its run.
use Rattle.std.specs.Prelude.{◌≡◌, ℕ, ◌+◌, ◌≤◌, List, Option, Some, Result, Ok, Err, length, IsUtf8}
use Rattle.jt_base.specs.Limits.{most_script, most_open}
use Rattle.jt_base.specs.Outside.{Rose, ReadsToEnd, Gives}
use Rattle.jt_forms.specs.Built.{unbuilt}
use Rattle.jt_grammar.specs.Joined.{IsScriptOf, IsUnexpected, IsTooDeep}
use Rattle.jt_grammar.specs.Nesting.{TopsWithin}
use Rattle.jt_lexer.specs.declared.error.LexError.{LexError}
use Rattle.jt_lexer.specs.declared.error.LexError.TheVariants as lexical
use Rattle.jt_parser.specs.declared.error.ParseError.{ParseError}
use Rattle.jt_parser.specs.declared.error.ParseError.TheVariants as grammatical
use Rattle.jt_naming.specs.declared.error.NameError.{NameError}
use Rattle.jt_naming.specs.declared.error.NameError.TheVariants as naming
use Rattle.jt_naming.specs.declared.rules.Rule.TheVariants as rule
use Rattle.jt_naming.specs.Rules.{broken}
use Rattle.jt_naming.specs.Scripts.{Breaks}
use Rattle.jt_syntax.specs.Tree.{TopTree}
use Rattle.jt_syntax.specs.declared.token.Token.{Token}
use Rattle.jt_tool.specs.declared.command.RunCommand.{RunCommand}
use Rattle.jt_tool.specs.declared.reading.ReadError.{ReadError}
use Rattle.jt_tool.specs.declared.reading.ReadError.TheVariants as read_error
use Rattle.jt_tool.specs.declared.report.Refusal.TheVariants.{BadCharacter, OpenString, NumberTooLarge, Unexpected, TooDeep, NotBuilt, UnknownName, CapturedAssigned, AmbiguousGlobal, TwiceDefined, WrongCount, NoConstant, BadJump}
use Rattle.jt_tool.specs.declared.report.Status.{Status}
use Rattle.jt_tool.specs.declared.report.Status.TheVariants as status
use Rattle.jt_tool.specs.declared.stop.Stop.{Stop}
use Rattle.jt_tool.specs.declared.stop.Stop.TheVariants.{Usage, ReadFault, TooLarge, NotText, Refused, OutOfMemory}
use Rattle.jt_tool.specs.Scripts.{IsRefused}

-- as the caller is told it
abbrev pub status_of_stop : Stop → Status
status_of_stop Usage = status.Usage
status_of_stop ReadFault = status.ReadFault
status_of_stop TooLarge = status.TooLarge
status_of_stop NotText = status.NotText
status_of_stop (Refused kind at) = status.Refused kind at
status_of_stop OutOfMemory = status.OutOfMemory

-- ---- the errors of the crates below

abbrev pub stop_of_reading : ReadError → Stop
stop_of_reading read_error.Failed = ReadFault
stop_of_reading read_error.TooLarge = TooLarge
stop_of_reading read_error.OutOfMemory = OutOfMemory

abbrev pub stop_of_lexing : LexError → Stop
stop_of_lexing (lexical.BadCharacter at) = Refused BadCharacter at
stop_of_lexing (lexical.OpenString at) = Refused OpenString at
stop_of_lexing (lexical.NumberTooLarge at) = Refused NumberTooLarge at
stop_of_lexing lexical.OutOfMemory = OutOfMemory

abbrev pub stop_of_parsing : ParseError → Stop
stop_of_parsing (grammatical.Unexpected at) = Refused Unexpected at
stop_of_parsing (grammatical.TooDeep at) = Refused TooDeep at
stop_of_parsing grammatical.OutOfMemory = OutOfMemory

abbrev pub stop_of_naming : NameError → Stop
stop_of_naming (naming.UnknownName at) = Refused UnknownName at
stop_of_naming (naming.CapturedAssigned at) = Refused CapturedAssigned at
stop_of_naming (naming.AmbiguousGlobal at) = Refused AmbiguousGlobal at
stop_of_naming (naming.TwiceDefined at) = Refused TwiceDefined at
stop_of_naming (naming.WrongCount at) = Refused WrongCount at
stop_of_naming (naming.NoConstant at) = Refused NoConstant at
stop_of_naming (naming.BadJump at) = Refused BadJump at
stop_of_naming naming.OutOfMemory = OutOfMemory

-- ---- what they say

-- why these bytes have no program
abbrev pub Stops : List ℕ → Stop → Type 0
Stops bytes (Refused kind at) = IsUtf8 bytes × IsRefused bytes kind at
Stops bytes NotText = ¬ IsUtf8 bytes
Stops bytes OutOfMemory = Unit {0}
Stops bytes Usage = ⊥
Stops bytes ReadFault = ⊥
Stops bytes TooLarge = ⊥

-- why these tokens of a text have no program
abbrev pub StopsTokens : List Token → Stop → Type 0
StopsTokens tokens (Refused Unexpected at) = (t : Token) × IsUnexpected most_open tokens t × (at ≡ t.at)
StopsTokens tokens (Refused TooDeep at) = (t : Token) × IsTooDeep most_open tokens t × (at ≡ t.at)
StopsTokens tokens (Refused NotBuilt at) = (tops : List TopTree) × IsScriptOf tokens tops × TopsWithin most_open tops × (unbuilt tops ≡ Some at)
StopsTokens tokens OutOfMemory = Unit {0}
StopsTokens tokens stop = ⊥

-- why a script all of whose forms run has no program
abbrev pub StopsScript : List TopTree → Stop → Type 0
StopsScript tops (Refused UnknownName at) = Breaks tops (broken at rule.UnknownName)
StopsScript tops (Refused CapturedAssigned at) = Breaks tops (broken at rule.CapturedAssigned)
StopsScript tops (Refused AmbiguousGlobal at) = Breaks tops (broken at rule.AmbiguousGlobal)
StopsScript tops (Refused TwiceDefined at) = Breaks tops (broken at rule.TwiceDefined)
StopsScript tops (Refused WrongCount at) = Breaks tops (broken at rule.WrongCount)
StopsScript tops (Refused NoConstant at) = Breaks tops (broken at rule.NoConstant)
StopsScript tops (Refused BadJump at) = Breaks tops (broken at rule.BadJump)
StopsScript tops OutOfMemory = Unit {0}
StopsScript tops stop = ⊥

-- a source was read to its end, and its bytes, no more than a script may have, have no program for this reason
pub record GivesNone (before after : Option (List ℕ)) (stop : Stop) : Type 0 where
  pub bytes : List ℕ
  pub read : ReadsToEnd before after bytes
  pub short : length bytes ≤ most_script
  pub stops : Stops bytes stop

-- why a source gave no program. Its count of faults was and is
abbrev pub StopsSource : Option (List ℕ) → Option (List ℕ) → ℕ → ℕ → Stop → Type 0
StopsSource before after was is (Refused kind at) = GivesNone before after (Refused kind at)
StopsSource before after was is NotText = GivesNone before after NotText
StopsSource before after was is ReadFault = Rose was is
StopsSource before after was is TooLarge = Gives before after (most_script + 1)
StopsSource before after was is OutOfMemory = Unit {0}
StopsSource before after was is Usage = ⊥

-- why a command made no run: none was found in the words, for this reason, or the source gave no program
abbrev pub StopsCommand : Result RunCommand Stop → Option (List ℕ) → Option (List ℕ) → ℕ → ℕ → Stop → Type 0
StopsCommand (Err reason) before after was is stop = stop ≡ reason
StopsCommand (Ok command) before after was is stop = StopsSource before after was is stop
