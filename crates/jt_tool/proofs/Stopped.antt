-- What stops the tokens or the script of a text stops the text.
use Rattle.std.proofs.Common.{◌≡◌, ℕ, List, None, IsUtf8}
use Rattle.jt_forms.specs.Built.{unbuilt}
use Rattle.jt_lexer.specs.Tokens.{IsTokensOf}
use Rattle.jt_syntax.specs.Tree.{TopTree}
use Rattle.jt_syntax.specs.declared.token.Token.{Token}
use Rattle.jt_tool.specs.declared.report.Refusal.TheVariants.{BadCharacter, OpenString, NumberTooLarge, Unexpected, TooDeep, NotBuilt, UnknownName, CapturedAssigned, AmbiguousGlobal, TwiceDefined, WrongCount, NoConstant, BadJump}
use Rattle.jt_tool.specs.declared.stop.Stop.{Stop}
use Rattle.jt_tool.specs.declared.stop.Stop.TheVariants.{Usage, ReadFault, TooLarge, NotText, Refused, OutOfMemory}
use Rattle.jt_tool.specs.Scripts.{IsScriptText}
use Rattle.jt_tool.specs.Stops.{Stops, StopsTokens, StopsScript}

-- a refusal of the tokens of a text is one of the text
pub stop_of_text : (bytes : List ℕ) (tokens : List Token) (stop : Stop) → IsUtf8 bytes → IsTokensOf bytes tokens → StopsTokens tokens stop → Stops bytes stop
stop_of_text bytes tokens (Refused Unexpected at) text lexed s = (text, (tokens, s.0, lexed, s.1, s.2))
stop_of_text bytes tokens (Refused TooDeep at) text lexed s = (text, (tokens, s.0, lexed, s.1, s.2))
stop_of_text bytes tokens (Refused NotBuilt at) text lexed s = (text, (tokens, s.0, record { text = text; lexed = lexed; parsed = s.1; nested = s.2 }, s.3))
stop_of_text bytes tokens (Refused BadCharacter at) text lexed s = absurd s
stop_of_text bytes tokens (Refused OpenString at) text lexed s = absurd s
stop_of_text bytes tokens (Refused NumberTooLarge at) text lexed s = absurd s
stop_of_text bytes tokens (Refused UnknownName at) text lexed s = absurd s
stop_of_text bytes tokens (Refused CapturedAssigned at) text lexed s = absurd s
stop_of_text bytes tokens (Refused AmbiguousGlobal at) text lexed s = absurd s
stop_of_text bytes tokens (Refused TwiceDefined at) text lexed s = absurd s
stop_of_text bytes tokens (Refused WrongCount at) text lexed s = absurd s
stop_of_text bytes tokens (Refused NoConstant at) text lexed s = absurd s
stop_of_text bytes tokens (Refused BadJump at) text lexed s = absurd s
stop_of_text bytes tokens NotText text lexed s = absurd s
stop_of_text bytes tokens OutOfMemory text lexed s = tt
stop_of_text bytes tokens Usage text lexed s = absurd s
stop_of_text bytes tokens ReadFault text lexed s = absurd s
stop_of_text bytes tokens TooLarge text lexed s = absurd s

-- and so is one of the script
pub stop_of_script : (bytes : List ℕ) (tokens : List Token) (tops : List TopTree) (stop : Stop) → IsScriptText bytes tokens tops → unbuilt tops ≡ None → StopsScript tops stop → Stops bytes stop
stop_of_script bytes tokens tops (Refused UnknownName at) is built s = (is.text, (tokens, tops, is, built, s))
stop_of_script bytes tokens tops (Refused CapturedAssigned at) is built s = (is.text, (tokens, tops, is, built, s))
stop_of_script bytes tokens tops (Refused AmbiguousGlobal at) is built s = (is.text, (tokens, tops, is, built, s))
stop_of_script bytes tokens tops (Refused TwiceDefined at) is built s = (is.text, (tokens, tops, is, built, s))
stop_of_script bytes tokens tops (Refused WrongCount at) is built s = (is.text, (tokens, tops, is, built, s))
stop_of_script bytes tokens tops (Refused NoConstant at) is built s = (is.text, (tokens, tops, is, built, s))
stop_of_script bytes tokens tops (Refused BadJump at) is built s = (is.text, (tokens, tops, is, built, s))
stop_of_script bytes tokens tops (Refused Unexpected at) is built s = absurd s
stop_of_script bytes tokens tops (Refused TooDeep at) is built s = absurd s
stop_of_script bytes tokens tops (Refused NotBuilt at) is built s = absurd s
stop_of_script bytes tokens tops (Refused BadCharacter at) is built s = absurd s
stop_of_script bytes tokens tops (Refused OpenString at) is built s = absurd s
stop_of_script bytes tokens tops (Refused NumberTooLarge at) is built s = absurd s
stop_of_script bytes tokens tops NotText is built s = absurd s
stop_of_script bytes tokens tops OutOfMemory is built s = tt
stop_of_script bytes tokens tops Usage is built s = absurd s
stop_of_script bytes tokens tops ReadFault is built s = absurd s
stop_of_script bytes tokens tops TooLarge is built s = absurd s
