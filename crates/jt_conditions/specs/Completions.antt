-- What a list of a task's entries leaves: how far the task has come.
use Rattle.std.specs.Prelude.{ℕ, List, [], ◌∷◌, Option, Some, None, Bool, true, false, ◌&&◌, ◌||◌, if◌then◌else◌, find}
use Rattle.jt_base.specs.declared.operation.Op.{Op}
use Rattle.jt_base.specs.declared.operation.Op.TheVariants.{End}
use Rattle.jt_base.specs.declared.entry.Entry.{Entry}
use Rattle.jt_laws.specs.Entries.{spawns, ends}
use Rattle.jt_laws.specs.Tasks.{is_main, is_begin, has_begun}
use Rattle.jt_conditions.specs.declared.completion.Completion.{Completion}
use Rattle.jt_conditions.specs.declared.completion.Completion.TheVariants.{Spawned, Running, Ended, Failed}

-- what a task's last operation leaves
abbrev pub outcome_of : Op → Completion
outcome_of (End value) = Ended value
outcome_of op = Failed

-- by the entry that ends the task, if there is one, and else by whether it has begun
abbrev pub stage_by : Option Entry → Bool → Completion
stage_by (Some e) begun = outcome_of e.op
stage_by None true = Running
stage_by None false = Spawned

abbrev pub stage_of : List Entry → Completion
stage_of own = stage_by (find (λ e. ends e.op) own) (has_begun own)

-- a list of entries of the task of this path begins with its Spawn, or with its Begin where it is the main task
abbrev pub makes_task : List ℕ → Op → Bool
makes_task path op = spawns op path || (is_main path && is_begin op)

abbrev pub is_there : List ℕ → List Entry → Bool
is_there path [] = is_main path
is_there path (e ∷ es) = makes_task path e.op

abbrev pub completion_left_by : List ℕ → List Entry → Option Completion
completion_left_by path own = if is_there path own then Some (stage_of own) else None
