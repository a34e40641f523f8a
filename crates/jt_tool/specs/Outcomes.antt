-- What is kept of a run until it is told, and what becomes of it.
use Rattle.std.specs.Prelude.{◌≡◌, ℕ, ◌⊎◌, List, [], Option, Result, Ok, Err}
use Rattle.std.specs.Io.KnownBytes.{Appends}
use Rattle.jt_base.specs.declared.entry.Entry.{Entry}
use Rattle.jt_base.specs.Outside.{Rose, WritesPrefix}
use Rattle.jt_laws.specs.Lines.{lines_of}
use Rattle.jt_machine.specs.declared.run.End.{End}
use Rattle.jt_machine.specs.Runs.{IsRun as IsRunOfProgram}
use Rattle.jt_program.specs.Plan.{ProgramPlan}
use Rattle.jt_tool.specs.Asked.{command_of}
use Rattle.jt_tool.specs.declared.command.Output.{Output}
use Rattle.jt_tool.specs.declared.command.Output.TheVariants.{Lines, Trace}
use Rattle.jt_tool.specs.declared.command.RunCommand.{RunCommand}
use Rattle.jt_tool.specs.declared.report.Status.{Status}
use Rattle.jt_tool.specs.declared.report.Status.TheVariants.{Ok, MainFailed, Usage, Refused, ReadFault, WriteFault, Deadlock, EventLimit, OutOfMemory, TooLarge, NotText}
use Rattle.jt_tool.specs.declared.stop.Stop.{Stop}
use Rattle.jt_tool.specs.Scripts.{GivesProgram}
use Rattle.jt_tool.specs.Status.{status_note}
use Rattle.jt_tool.specs.Stops.{status_of_stop}
use Rattle.jt_tool.specs.Tool.{Answers, run_with, trace_with}
use Rattle.jt_trace_text.specs.Written.{trace_text}
use Rattle.jt_words.specs.declared.command.RunOptions.{RunOptions}

-- what is written of a run
abbrev pub told_by : Output → RunOptions → List ℕ → List Entry → List ℕ
told_by Lines options bytes history = lines_of history
told_by Trace options bytes history = trace_text (trace_with options bytes history)

-- the command that was found ran the program of the script that its source gave, with this history, this end and this text
pub record RunsSource (asked : Result RunCommand Stop) (before after : Option (List ℕ)) (history : List Entry) (end : End) (text : List ℕ) : Type 0 where
  pub command : RunCommand
  pub found : asked ≡ Ok command
  pub bytes : List ℕ
  pub program : ProgramPlan
  pub given : GivesProgram before after bytes program
  pub run : IsRunOfProgram (run_with command.options program) command.options.seeds history end
  pub told : text ≡ told_by command.output command.options bytes history

-- the note of a failed main task; of another status nothing is said
abbrev pub TellsFailure : Status → List ℕ → Type 0
TellsFailure (MainFailed fault) note = note ≡ status_note (MainFailed fault)
TellsFailure Ok note = Unit {0}
TellsFailure Usage note = Unit {0}
TellsFailure (Refused kind at) note = Unit {0}
TellsFailure ReadFault note = Unit {0}
TellsFailure WriteFault note = Unit {0}
TellsFailure Deadlock note = Unit {0}
TellsFailure EventLimit note = Unit {0}
TellsFailure OutOfMemory note = Unit {0}
TellsFailure TooLarge note = Unit {0}
TellsFailure NotText note = Unit {0}

-- what was written of this text, and the status after it: the run's where all of it was added, else a write fault that
-- was counted
abbrev pub EndsAs : Status → List ℕ → Option (List ℕ) → Option (List ℕ) → ℕ → ℕ → Status → Type 0
EndsAs status text before after faults_before faults_after found =
    ((found ≡ status) × Appends before after text) ⊎ ((found ≡ WriteFault) × WritesPrefix before after text × Rose faults_before faults_after)

-- how a command was answered that was found in the words, or not
abbrev pub AnswersAsked : {S O : Type 0} → (S → Option (List ℕ)) → (S → ℕ) → (O → Option (List ℕ)) → (O → ℕ) → Result RunCommand Stop → S → S → O → O → Status → List Entry → Type 0
AnswersAsked left read_faults written write_faults (Ok found) source source_after out out_after status history =
    Answers left read_faults written write_faults (λ command. command ≡ command_of found.output found.options) source source_after out out_after status history
AnswersAsked left read_faults written write_faults (Err stop) source source_after out out_after status history =
    (status ≡ status_of_stop stop) × (out_after ≡ out) × (history ≡ [])
