-- The exit status and the note of a status.
use Rattle.std.specs.Prelude.{ℕ, List, [], ◌++◌, codes}
use Rattle.std.specs.Fmt.{decimal}
use Rattle.jt_tool.specs.declared.report.Refusal.{Refusal}
use Rattle.jt_tool.specs.declared.report.Refusal.TheVariants.{BadCharacter, OpenString, NumberTooLarge, Unexpected, TooDeep, NotBuilt, UnknownName, CapturedAssigned, AmbiguousGlobal, TwiceDefined, WrongCount, NoConstant, BadJump}
use Rattle.jt_tool.specs.declared.report.Status.{Status}
use Rattle.jt_tool.specs.declared.report.Status.TheVariants.{Ok, MainFailed, Usage, Refused, ReadFault, WriteFault, Deadlock, EventLimit, OutOfMemory, TooLarge, NotText}
use Rattle.jt_tool.specs.Faults.{fault_text}

abbrev pub exit_status : Status → ℕ
exit_status Ok = 0
exit_status (MainFailed fault) = 1
exit_status Usage = 2
exit_status (Refused kind at) = 3
exit_status ReadFault = 4
exit_status WriteFault = 5
exit_status Deadlock = 6
exit_status EventLimit = 7
exit_status OutOfMemory = 8
exit_status TooLarge = 9
exit_status NotText = 10

abbrev pub refusal_word : Refusal → List ℕ
refusal_word BadCharacter = codes "bad-character"
refusal_word OpenString = codes "open-string"
refusal_word NumberTooLarge = codes "number-too-large"
refusal_word Unexpected = codes "unexpected"
refusal_word TooDeep = codes "too-deep"
refusal_word NotBuilt = codes "not-built"
refusal_word UnknownName = codes "unknown-name"
refusal_word CapturedAssigned = codes "captured-assigned"
refusal_word AmbiguousGlobal = codes "ambiguous-global"
refusal_word TwiceDefined = codes "twice-defined"
refusal_word WrongCount = codes "wrong-count"
refusal_word NoConstant = codes "no-constant"
refusal_word BadJump = codes "bad-jump"

-- one line that begins with the program's name
abbrev pub line : List ℕ → List ℕ
line text = codes "julia-tasks: " ++ text ++ codes "\n"

abbrev pub status_note : Status → List ℕ
status_note Ok = []
status_note (MainFailed fault) = line (codes "main failed: " ++ fault_text fault)
status_note Usage = line (codes "usage: run, trace, check, draws or gen with options")
status_note (Refused kind at) = line (codes "refused: " ++ refusal_word kind ++ codes " at " ++ decimal at)
status_note ReadFault = line (codes "reading failed")
status_note WriteFault = line (codes "writing failed")
status_note Deadlock = line (codes "deadlock")
status_note EventLimit = line (codes "event limit")
status_note OutOfMemory = line (codes "out of memory")
status_note TooLarge = line (codes "input too large")
status_note NotText = line (codes "not UTF-8")

-- a status whose note is short: no fault is told
abbrev pub IsBrief : Status → Type 0
IsBrief (MainFailed fault) = ⊥
IsBrief Ok = Unit {0}
IsBrief Usage = Unit {0}
IsBrief (Refused kind at) = Unit {0}
IsBrief ReadFault = Unit {0}
IsBrief WriteFault = Unit {0}
IsBrief Deadlock = Unit {0}
IsBrief EventLimit = Unit {0}
IsBrief OutOfMemory = Unit {0}
IsBrief TooLarge = Unit {0}
IsBrief NotText = Unit {0}
