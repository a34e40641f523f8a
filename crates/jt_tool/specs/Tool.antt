-- What the commands answer, by the words and by the bytes that they read.
use Rattle.std.specs.Prelude.{◌≡◌, ℕ, ◌+◌, ◌≤◌, ◌↔◌, List, [], Option, length, IsUtf8}
use Rattle.std.specs.Io.KnownBytes.{Appends}
use Rattle.jt_base.specs.declared.entry.Entry.{Entry}
use Rattle.jt_base.specs.Limits.{most_script}
use Rattle.jt_base.specs.Outside.{Rose, ReadsToEnd, Gives, WritesPrefix}
use Rattle.jt_laws.specs.Lines.{lines_of}
use Rattle.jt_machine.specs.declared.run.End.{End}
use Rattle.jt_machine.specs.declared.run.End.TheVariants as end
use Rattle.jt_machine.specs.Runs.{IsRun as IsRunOfProgram}
use Rattle.jt_meaning.specs.Run.{Run as RunOfTasks}
use Rattle.jt_program.specs.Plan.{ProgramPlan}
use Rattle.jt_tool.specs.declared.report.Status.{Status}
use Rattle.jt_tool.specs.declared.report.Status.TheVariants.{Ok, MainFailed, Usage, Refused, ReadFault, WriteFault, Deadlock, EventLimit, OutOfMemory, TooLarge, NotText}
use Rattle.jt_tool.specs.Scripts.{IsProgramOf, IsRefused, IsAccepted}
use Rattle.jt_tool.specs.Status.{status_note}
use Rattle.jt_trace_text.specs.Texts.{TraceValue}
use Rattle.jt_trace_text.specs.Written.{trace_text}
use Rattle.jt_words.specs.declared.command.Command.{Command}
use Rattle.jt_words.specs.declared.command.Command.TheVariants.{Run, Trace, Check, Draws, Gen}
use Rattle.jt_words.specs.declared.command.RunOptions.{RunOptions}

-- the tasks of a program that a command runs
abbrev pub run_with : RunOptions → ProgramPlan → RunOfTasks
run_with options program = record { program = program; sizes = options.sizes; limits = options.limits }

-- the bytes have a program, and the history is one of its runs by these options, which ends so
pub record IsRunOf (options : RunOptions) (bytes : List ℕ) (history : List Entry) (end : End) : Type 0 where
  pub program : ProgramPlan
  pub is : IsProgramOf bytes program
  pub run : IsRunOfProgram (run_with options program) options.seeds history end

-- the trace of a run: what it was given, the bytes of its script, and its history
abbrev pub trace_with : RunOptions → List ℕ → List Entry → TraceValue
trace_with options bytes history = record { sizes = options.sizes; seeds = options.seeds; limits = options.limits; script = bytes; entries = history }

-- the status of a run, by its end
abbrev pub status_of_end : End → Status
status_of_end end.Ok = Ok
status_of_end (end.MainFailed fault) = MainFailed fault
status_of_end end.Deadlock = Deadlock
status_of_end end.EventLimit = EventLimit

-- The answer to bytes that were read to their end, with the history and its text, and what was written before and after:
-- either the text was written, all of it or, where a write failed, a prefix; or the bytes are no text, or a text that is refused.
abbrev pub AnswersBytes : RunOptions → List ℕ → List ℕ → Status → List Entry → Option (List ℕ) → Option (List ℕ) → Type 0
AnswersBytes options text bytes Ok history before after = IsRunOf options bytes history end.Ok × Appends before after text
AnswersBytes options text bytes (MainFailed fault) history before after = IsRunOf options bytes history (end.MainFailed fault) × Appends before after text
AnswersBytes options text bytes Deadlock history before after = IsRunOf options bytes history end.Deadlock × Appends before after text
AnswersBytes options text bytes EventLimit history before after = IsRunOf options bytes history end.EventLimit × Appends before after text
AnswersBytes options text bytes WriteFault history before after = (e : End) × IsRunOf options bytes history e × WritesPrefix before after text
AnswersBytes options text bytes (Refused kind at) history before after = IsUtf8 bytes × IsRefused bytes kind at
AnswersBytes options text bytes NotText history before after = ¬ IsUtf8 bytes
AnswersBytes options text bytes Usage history before after = Unit {0}
AnswersBytes options text bytes ReadFault history before after = Unit {0}
AnswersBytes options text bytes OutOfMemory history before after = Unit {0}
AnswersBytes options text bytes TooLarge history before after = Unit {0}

-- The answer to what was read of a source, which is no longer than a script may be. text_of: what is written of a run, by
-- the script's bytes and the history
pub record AnswersSource (options : RunOptions) (text_of : List ℕ → List Entry → List ℕ) (left_before left_after : Option (List ℕ)) (status : Status) (history : List Entry) (before after : Option (List ℕ)) : Type 0 where
  pub bytes : List ℕ
  pub read : ReadsToEnd left_before left_after bytes
  pub short : length bytes ≤ most_script
  pub answers : AnswersBytes options (text_of bytes history) bytes status history before after

-- the answer to a command whose source was read to its end: `run` writes the lines of its run, `trace` the trace's text
abbrev pub AnswersCommand : Command → Option (List ℕ) → Option (List ℕ) → Status → List Entry → Option (List ℕ) → Option (List ℕ) → Type 0
AnswersCommand (Run options) left_before left_after status history before after =
    AnswersSource options (λ bytes history. lines_of history) left_before left_after status history before after
AnswersCommand (Trace options) left_before left_after status history before after =
    AnswersSource options (λ bytes history. trace_text (trace_with options bytes history)) left_before left_after status history before after
AnswersCommand Check left_before left_after status history before after = ⊥
AnswersCommand (Draws draws) left_before left_after status history before after = ⊥
AnswersCommand (Gen gen) left_before left_after status history before after = ⊥

-- a status of a script that was run to its end, or want of memory
abbrev pub IsOfRun : Status → Type 0
IsOfRun Ok = Unit {0}
IsOfRun (MainFailed fault) = Unit {0}
IsOfRun Deadlock = Unit {0}
IsOfRun EventLimit = Unit {0}
IsOfRun OutOfMemory = Unit {0}
IsOfRun Usage = ⊥
IsOfRun (Refused kind at) = ⊥
IsOfRun ReadFault = ⊥
IsOfRun WriteFault = ⊥
IsOfRun TooLarge = ⊥
IsOfRun NotText = ⊥

-- a status by which the whole source was read
abbrev pub ReadWhole : Status → Type 0
ReadWhole Ok = Unit {0}
ReadWhole (MainFailed fault) = Unit {0}
ReadWhole Deadlock = Unit {0}
ReadWhole EventLimit = Unit {0}
ReadWhole WriteFault = Unit {0}
ReadWhole (Refused kind at) = Unit {0}
ReadWhole NotText = Unit {0}
ReadWhole Usage = ⊥
ReadWhole ReadFault = ⊥
ReadWhole OutOfMemory = ⊥
ReadWhole TooLarge = ⊥

-- a status by which no run was made, so that nothing was to be written
abbrev pub WroteNothing : Status → Type 0
WroteNothing Ok = ⊥
WroteNothing (MainFailed fault) = ⊥
WroteNothing Deadlock = ⊥
WroteNothing EventLimit = ⊥
WroteNothing WriteFault = ⊥
WroteNothing (Refused kind at) = Unit {0}
WroteNothing NotText = Unit {0}
WroteNothing Usage = Unit {0}
WroteNothing ReadFault = Unit {0}
WroteNothing OutOfMemory = Unit {0}
WroteNothing TooLarge = Unit {0}

-- How words and a source were answered. asks: which command the words ask for; source, out: the streams before and
-- after, with the bytes that they tell (left, written) and their counts of faults.
pub record Answers {S O : Type 0} (left : S → Option (List ℕ)) (read_faults : S → ℕ) (written : O → Option (List ℕ)) (write_faults : O → ℕ)
    (asks : Command → Type 0) (source source_after : S) (out out_after : O) (status : Status) (history : List Entry) : Type 0 where
  -- Usage exactly where the words ask for no command, if there was memory to read them
  pub usage : ¬ (status ≡ OutOfMemory) → (status ≡ Usage ↔ ((command : Command) → asks command → ⊥))
  -- a read fault only where the source counted one
  pub read_fault : status ≡ ReadFault → Rose (read_faults source) (read_faults source_after)
  -- too large only where the source gave a byte more than a script may have
  pub too_large : status ≡ TooLarge → Gives (left source) (left source_after) (most_script + 1)
  -- where the source was read to its end, the answer is that to its bytes
  pub whole : (command : Command) → asks command → ReadWhole status → AnswersCommand command (left source) (left source_after) status history (written out) (written out_after)
  -- a write fault only where the output counted one
  pub write_fault : status ≡ WriteFault → Rose (write_faults out) (write_faults out_after)
  -- without a run nothing was written
  pub nothing : WroteNothing status → out_after ≡ out
  -- and the history is empty
  pub no_run : WroteNothing status → history ≡ []
  -- a command, an accepted script and no fault give the end of a run, or want of memory
  pub complete : (command : Command) → asks command → ¬ Rose (read_faults source) (read_faults source_after) → ¬ Rose (write_faults out) (write_faults out_after) → IsAccepted (left source) → IsOfRun status

-- where no fault was counted, the line of the status was added to the notes
abbrev pub IsNoted : {N : Type 0} → (N → Option (List ℕ)) → (N → ℕ) → N → N → Status → Type 0
IsNoted written faults notes notes_after status = ¬ Rose (faults notes) (faults notes_after) → Appends (written notes) (written notes_after) (status_note status)
