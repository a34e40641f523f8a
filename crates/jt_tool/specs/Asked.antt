-- What the words of the command line ask for.
use Rattle.std.specs.Prelude.{◌≡◌, ⊤, ℕ, List, Result, Ok, Err}
use Rattle.jt_tool.specs.declared.command.Output.{Output}
use Rattle.jt_tool.specs.declared.command.Output.TheVariants as output
use Rattle.jt_tool.specs.declared.command.RunCommand.{RunCommand}
use Rattle.jt_tool.specs.declared.stop.Stop.{Stop}
use Rattle.jt_tool.specs.declared.stop.Stop.TheVariants.{Usage, OutOfMemory}
use Rattle.jt_words.specs.Commands.{IsCommand}
use Rattle.jt_words.specs.Values.{one_worker}
use Rattle.jt_words.specs.declared.command.Command.{Command}
use Rattle.jt_words.specs.declared.command.Command.TheVariants.{Run, Trace, Check, Draws, Gen}
use Rattle.jt_words.specs.declared.command.RunOptions.{RunOptions}

-- the commands that are built so far
abbrev pub IsBuilt : Command → Type 0
IsBuilt (Run run) = ⊤
IsBuilt (Trace run) = ⊤
IsBuilt Check = ⊥
IsBuilt (Draws draws) = ⊥
IsBuilt (Gen gen) = ⊥

-- the words are this command, and it is built
abbrev pub Asks : List (List ℕ) → Command → Type 0
Asks words command = IsCommand words command × IsBuilt command

-- a run with one default worker alone
abbrev pub IsOnOneWorker : Command → Type 0
IsOnOneWorker (Run run) = run.sizes ≡ one_worker
IsOnOneWorker (Trace run) = run.sizes ≡ one_worker
IsOnOneWorker Check = ⊥
IsOnOneWorker (Draws draws) = ⊥
IsOnOneWorker (Gen gen) = ⊥

-- the words are a built command with one default worker alone
abbrev pub AsksPlain : List (List ℕ) → Command → Type 0
AsksPlain words command = Asks words command × IsOnOneWorker command

-- ---- what the code keeps of it

-- the command that writes this of its run
abbrev pub command_of : Output → RunOptions → Command
command_of output.Lines run = Run run
command_of output.Trace run = Trace run

-- the one command that is asked for, or why none was found: none is asked for, or memory was wanting
abbrev pub IsAsked : (Command → Type 0) → Result RunCommand Stop → Type 0
IsAsked asks (Ok found) = asks (command_of found.output found.options) × ((command : Command) → asks command → command ≡ command_of found.output found.options)
IsAsked asks (Err Usage) = (command : Command) → asks command → ⊥
IsAsked asks (Err OutOfMemory) = ⊤
IsAsked asks (Err stop) = ⊥
