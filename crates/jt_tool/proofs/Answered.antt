-- What a command that stopped, and what a run that was written, answers.
use Rattle.std.proofs.Common.{◌≡◌, ℕ, inl, inr, List, [], Option, Result, Ok, Err, refl, sym, subst, ap}
use Rattle.std.specs.Io.KnownBytes.{Appends}
use Rattle.jt_base.specs.declared.entry.Entry.{Entry}
use Rattle.jt_base.specs.Outside.{Rose, WritesPrefix}
use Rattle.jt_machine.specs.declared.run.End.{End}
use Rattle.jt_machine.specs.declared.run.End.TheVariants as end
use Rattle.jt_machine.specs.Runs.{IsRun as IsRunOfProgram}
use Rattle.jt_program.specs.Plan.{ProgramPlan}
use Rattle.jt_tool.proofs.Complete.{not_too_many, not_refused_source, text_source}
use Rattle.jt_tool.specs.Asked.{IsAsked, command_of}
use Rattle.jt_tool.specs.declared.command.Output.{Output}
use Rattle.jt_tool.specs.declared.command.Output.TheVariants as output
use Rattle.jt_tool.specs.declared.command.RunCommand.{RunCommand}
use Rattle.jt_tool.specs.declared.report.Status.{Status}
use Rattle.jt_tool.specs.declared.report.Status.TheVariants as status
use Rattle.jt_tool.specs.declared.stop.Stop.{Stop}
use Rattle.jt_tool.specs.declared.stop.Stop.TheVariants.{Usage, ReadFault, TooLarge, NotText, Refused, OutOfMemory}
use Rattle.jt_tool.specs.Outcomes.{AnswersAsked, EndsAs, RunsSource, told_by}
use Rattle.jt_tool.specs.Scripts.{GivesProgram, IsAccepted}
use Rattle.jt_tool.specs.Stops.{StopsSource, StopsCommand, status_of_stop}
use Rattle.jt_tool.specs.Tool.{Answers, AnswersCommand, AnswersSource, IsOfRun, IsRunOf, ReadWhole, WroteNothing, run_with, status_of_end}
use Rattle.jt_words.specs.declared.command.Command.{Command}
use Rattle.jt_words.specs.declared.command.RunOptions.{RunOptions}

-- an answer to what the source gave is one to the command
to_command : (o : Output) (run : RunOptions) (left_before left_after : Option (List ℕ)) (found : Status) (history : List Entry) (before after : Option (List ℕ))
    → AnswersSource run (told_by o run) left_before left_after found history before after
    → AnswersCommand (command_of o run) left_before left_after found history before after
to_command output.Lines run left_before left_after found history before after answers = answers
to_command output.Trace run left_before left_after found history before after answers = answers

module _ {S O : Type 0} (left : S → Option (List ℕ)) (read_faults : S → ℕ) (written : O → Option (List ℕ)) (write_faults : O → ℕ) where
  -- what is answered to this command
  abbrev AnswersThis : RunCommand → S → S → O → O → Status → List Entry → Type 0
  AnswersThis command s t o p found history = Answers left read_faults written write_faults (λ c. c ≡ command_of command.output command.options) s t o p found history

  -- it is asked for
  asked_for : (command : RunCommand) → ((c : Command) → c ≡ command_of command.output command.options → ⊥) → ⊥
  asked_for command none = none (command_of command.output command.options) refl

  -- a status by which the whole source was read
  of_whole : (command : RunCommand) (s t : S) (o p : O) (found : Status) (history : List Entry)
      → ReadWhole found → AnswersSource command.options (told_by command.output command.options) (left s) (left t) found history (written o) (written p)
      → (found ≡ status.WriteFault → Rose (write_faults o) (write_faults p)) → (WroteNothing found → p ≡ o) → (WroteNothing found → history ≡ [])
      → ((Rose (write_faults o) (write_faults p) → ⊥) → IsAccepted (left s) → IsOfRun found)
      → AnswersThis command s t o p found history
  of_whole command s t o p found history whole answers write nothing no_run complete = record {
    usage = λ memory. (λ e. absurd (subst ReadWhole e whole), λ none. absurd (asked_for command none));
    read_fault = λ e. absurd (subst ReadWhole e whole);
    too_large = λ e. absurd (subst ReadWhole e whole);
    whole = λ chosen is w. subst (λ (c : Command). AnswersCommand c (left s) (left t) found history (written o) (written p)) (sym is) (to_command command.output command.options (left s) (left t) found history (written o) (written p) answers);
    write_fault = write;
    nothing = nothing;
    no_run = no_run;
    complete = λ chosen is no_read no_write accepted. complete no_write accepted;
  }

  -- a source that gave no program
  no_program : (command : RunCommand) (s t : S) (o : O) (stop : Stop) → StopsSource (left s) (left t) (read_faults s) (read_faults t) stop
      → AnswersThis command s t o o (status_of_stop stop) []
  no_program command s t o Usage h = absurd h
  no_program command s t o ReadFault h = record {
    usage = λ memory. (λ e. absurd (cc), λ none. absurd (asked_for command none));
    read_fault = λ e. h;
    too_large = λ e. absurd (cc);
    whole = λ chosen is whole. absurd whole;
    write_fault = λ e. absurd (cc);
    nothing = λ n. refl;
    no_run = λ n. refl;
    complete = λ chosen is no_read no_write accepted. absurd (no_read h);
  }
  no_program command s t o TooLarge h = record {
    usage = λ memory. (λ e. absurd (cc), λ none. absurd (asked_for command none));
    read_fault = λ e. absurd (cc);
    too_large = λ e. h;
    whole = λ chosen is whole. absurd whole;
    write_fault = λ e. absurd (cc);
    nothing = λ n. refl;
    no_run = λ n. refl;
    complete = λ chosen is no_read no_write accepted. absurd (not_too_many (left s) (left t) accepted h);
  }
  no_program command s t o OutOfMemory h = record {
    usage = λ memory. (λ e. absurd (cc), λ none. absurd (asked_for command none));
    read_fault = λ e. absurd (cc);
    too_large = λ e. absurd (cc);
    whole = λ chosen is whole. absurd whole;
    write_fault = λ e. absurd (cc);
    nothing = λ n. refl;
    no_run = λ n. refl;
    complete = λ chosen is no_read no_write accepted. tt;
  }
  no_program command s t o (Refused kind at) h =
      of_whole command s t o o (status.Refused kind at) [] tt (record { bytes = h.bytes; read = h.read; short = h.short; answers = h.stops }) (λ e. absurd (cc)) (λ n. refl) (λ n. refl)
      (λ no_write accepted. absurd (not_refused_source (left s) (left t) h.bytes kind at accepted h.read h.stops.1))
  no_program command s t o NotText h =
      of_whole command s t o o status.NotText [] tt (record { bytes = h.bytes; read = h.read; short = h.short; answers = h.stops }) (λ e. absurd (cc)) (λ n. refl) (λ n. refl)
      (λ no_write accepted. absurd (text_source (left s) (left t) h.bytes accepted h.read h.stops))

  -- a command that stopped before its run
  pub stopped : (asked : Result RunCommand Stop) (s t : S) (o : O) (stop : Stop) → StopsCommand asked (left s) (left t) (read_faults s) (read_faults t) stop
      → AnswersAsked left read_faults written write_faults asked s t o o (status_of_stop stop) []
  stopped (Ok command) s t o stop h = no_program command s t o stop h
  stopped (Err reason) s t o stop h = (ap status_of_stop h, refl, refl)

  -- a run of a source's program is one of its bytes
  is_run : (command : RunCommand) (s t : S) (bytes : List ℕ) (program : ProgramPlan) (history : List Entry) (end : End) → (given : GivesProgram (left s) (left t) bytes program)
      → IsRunOfProgram (run_with command.options program) command.options.seeds history end → IsRunOf command.options bytes history end
  is_run command s t bytes program history end given run = record { program = program; is = given.is; run = run }

  -- a run all of whose text was written
  all_written : (command : RunCommand) (s t : S) (o p : O) (bytes : List ℕ) (program : ProgramPlan) (history : List Entry) (end : End) → GivesProgram (left s) (left t) bytes program
      → IsRunOfProgram (run_with command.options program) command.options.seeds history end → Appends (written o) (written p) (told_by command.output command.options bytes history)
      → AnswersThis command s t o p (status_of_end end) history
  all_written command s t o p bytes program history end.Ok given run text =
      of_whole command s t o p status.Ok history tt (record { bytes = bytes; read = given.read; short = given.short; answers = (is_run command s t bytes program history end.Ok given run, text) })
      (λ e. absurd (cc)) (λ n. absurd n) (λ n. absurd n) (λ no_write accepted. tt)
  all_written command s t o p bytes program history (end.MainFailed fault) given run text =
      of_whole command s t o p (status.MainFailed fault) history tt (record { bytes = bytes; read = given.read; short = given.short; answers = (is_run command s t bytes program history (end.MainFailed fault) given run, text) })
      (λ e. absurd (cc)) (λ n. absurd n) (λ n. absurd n) (λ no_write accepted. tt)
  all_written command s t o p bytes program history end.Deadlock given run text =
      of_whole command s t o p status.Deadlock history tt (record { bytes = bytes; read = given.read; short = given.short; answers = (is_run command s t bytes program history end.Deadlock given run, text) })
      (λ e. absurd (cc)) (λ n. absurd n) (λ n. absurd n) (λ no_write accepted. tt)
  all_written command s t o p bytes program history end.EventLimit given run text =
      of_whole command s t o p status.EventLimit history tt (record { bytes = bytes; read = given.read; short = given.short; answers = (is_run command s t bytes program history end.EventLimit given run, text) })
      (λ e. absurd (cc)) (λ n. absurd n) (λ n. absurd n) (λ no_write accepted. tt)

  -- a run of whose text a prefix was written
  cut_off : (command : RunCommand) (s t : S) (o p : O) (bytes : List ℕ) (program : ProgramPlan) (history : List Entry) (end : End) → GivesProgram (left s) (left t) bytes program
      → IsRunOfProgram (run_with command.options program) command.options.seeds history end → WritesPrefix (written o) (written p) (told_by command.output command.options bytes history)
      → Rose (write_faults o) (write_faults p)
      → AnswersThis command s t o p status.WriteFault history
  cut_off command s t o p bytes program history end given run text rose =
      of_whole command s t o p status.WriteFault history tt (record { bytes = bytes; read = given.read; short = given.short; answers = (end, is_run command s t bytes program history end given run, text) })
      (λ e. rose) (λ n. absurd n) (λ n. absurd n) (λ no_write accepted. absurd (no_write rose))

  by_end : (command : RunCommand) (s t : S) (o p : O) (bytes : List ℕ) (program : ProgramPlan) (history : List Entry) (end : End) (found : Status) → GivesProgram (left s) (left t) bytes program
      → IsRunOfProgram (run_with command.options program) command.options.seeds history end
      → EndsAs (status_of_end end) (told_by command.output command.options bytes history) (written o) (written p) (write_faults o) (write_faults p) found
      → AnswersThis command s t o p found history
  by_end command s t o p bytes program history end found given run (inl e) =
      subst (λ (x : Status). AnswersThis command s t o p x history) (sym e.0) (all_written command s t o p bytes program history end given run e.1)
  by_end command s t o p bytes program history end found given run (inr e) =
      subst (λ (x : Status). AnswersThis command s t o p x history) (sym e.0) (cut_off command s t o p bytes program history end given run e.1 e.2)

  -- a run that was written
  pub ran : (asked : Result RunCommand Stop) (s t : S) (o p : O) (history : List Entry) (end : End) (text : List ℕ) (found : Status)
      → RunsSource asked (left s) (left t) history end text
      → EndsAs (status_of_end end) text (written o) (written p) (write_faults o) (write_faults p) found
      → AnswersAsked left read_faults written write_faults asked s t o p found history
  ran asked s t o p history end text found r ends =
      let told = subst (λ (x : List ℕ). EndsAs (status_of_end end) x (written o) (written p) (write_faults o) (write_faults p) found) r.told ends in
      subst (λ (c : Result RunCommand Stop). AnswersAsked left read_faults written write_faults c s t o p found history) (sym r.found) (by_end r.command s t o p r.bytes r.program history end found r.given r.run told)

  -- ---- what the words ask for

  module _ (asks : Command → Type 0) where
    -- words that ask for no command
    no_command : (s t : S) (o : O) → ((c : Command) → asks c → ⊥) → Answers left read_faults written write_faults asks s t o o status.Usage []
    no_command s t o none = record {
      usage = λ memory. (λ e. none, λ n. refl);
      read_fault = λ e. absurd (cc);
      too_large = λ e. absurd (cc);
      whole = λ chosen is whole. absurd whole;
      write_fault = λ e. absurd (cc);
      nothing = λ n. refl;
      no_run = λ n. refl;
      complete = λ chosen is no_read no_write accepted. absurd (none chosen is);
    }

    -- words that memory was wanting for
    no_memory : (s t : S) (o : O) → Answers left read_faults written write_faults asks s t o o status.OutOfMemory []
    no_memory s t o = record {
      usage = λ memory. absurd (memory refl);
      read_fault = λ e. absurd (cc);
      too_large = λ e. absurd (cc);
      whole = λ chosen is whole. absurd whole;
      write_fault = λ e. absurd (cc);
      nothing = λ n. refl;
      no_run = λ n. refl;
      complete = λ chosen is no_read no_write accepted. tt;
    }

    no_run_made : (s t : S) (o : O) (stop : Stop) → IsAsked asks (Err stop) → Answers left read_faults written write_faults asks s t o o (status_of_stop stop) []
    no_run_made s t o Usage none = no_command s t o none
    no_run_made s t o OutOfMemory none = no_memory s t o
    no_run_made s t o ReadFault none = absurd none
    no_run_made s t o TooLarge none = absurd none
    no_run_made s t o NotText none = absurd none
    no_run_made s t o (Refused kind at) none = absurd none

    -- what is answered to the command that the words ask for is answered to the words
    pub answered : (asked : Result RunCommand Stop) (s t : S) (o p : O) (found : Status) (history : List Entry) → IsAsked asks asked
        → AnswersAsked left read_faults written write_faults asked s t o p found history → Answers left read_faults written write_faults asks s t o p found history
    answered (Ok command) s t o p found history is answers = record {
      usage = λ memory. (λ e. absurd (asked_for command ((answers.usage memory).0 e)), λ none. absurd (none (command_of command.output command.options) is.0));
      read_fault = answers.read_fault;
      too_large = answers.too_large;
      whole = λ chosen asks_it whole. answers.whole chosen (is.1 chosen asks_it) whole;
      write_fault = answers.write_fault;
      nothing = answers.nothing;
      no_run = answers.no_run;
      complete = λ chosen asks_it no_read no_write accepted. answers.complete chosen (is.1 chosen asks_it) no_read no_write accepted;
    }
    answered (Err stop) s t o p found history is answers =
        subst (λ (x : O). Answers left read_faults written write_faults asks s t o x found history) (sym answers.1)
        (subst (λ (x : Status). Answers left read_faults written write_faults asks s t o o x history) (sym answers.0)
        (subst (λ (x : List Entry). Answers left read_faults written write_faults asks s t o o (status_of_stop stop) x) (sym answers.2) (no_run_made s t o stop is)))
