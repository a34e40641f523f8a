-- What comes next for a task after the replies so far.
use Rattle.std.specs.Prelude.{ℕ, List, [], ◌∷◌, Option, Some, None, true}
use Rattle.jt_base.specs.declared.operation.How.TheVariants.{Default}
use Rattle.jt_base.specs.declared.operation.Op.{Op}
use Rattle.jt_base.specs.declared.operation.Op.TheVariants.{End, Fail, Spawn, Fetch, Wait, Yield, Print}
use Rattle.jt_base.specs.declared.operation.Reply.{Reply}
use Rattle.jt_base.specs.declared.run.Seeds.{Seeds}
use Rattle.jt_base.specs.Coming.{Next, Needs, Spawns, Over}
use Rattle.jt_meaning.specs.declared.start.Start.{Start}
use Rattle.jt_meaning.specs.Run.{Run}
use Rattle.jt_meaning.specs.State.{Out, Gave, Returned, Broke, Continued, Faulted, Asks, Unfit}
use Rattle.jt_meaning.specs.Meaning.{task}

abbrev pub over_with : List Reply → Option (Next Start)
over_with [] = Some Over
over_with (r ∷ rs) = None

abbrev pub next_of : Out → Option (Next Start)
next_of (Gave v s) = over_with s.replies
next_of (Asks op None s) = Some (Needs op)
next_of (Asks op (Some start) s) = Some (Spawns op start)
next_of (Returned v s) = None
next_of (Broke s) = None
next_of (Continued s) = None
next_of (Faulted f s) = None
next_of Unfit = None

-- what comes next in a run for a path, a start and the replies so far; nothing where a reply is none
-- that its operation can have, or where replies are left behind the task's end
abbrev pub next_operation : Run → List ℕ → Start → List Reply → Option (Next Start)
next_operation run path start replies = next_of (task run path start replies)

-- the main task's start: its stream is the seed words
abbrev pub main_start : Seeds → Start
main_start seeds = record { code = 0; captured = []; constants = []; home = true; stream = seeds.words; how = Default }

-- an operation that comes once the task has begun; a task is made for the default pool
abbrev pub IsLater : Op → Type 0
IsLater (Print text) = Unit {0}
IsLater (Spawn path Default) = Unit {0}
IsLater (Fetch path) = Unit {0}
IsLater (Wait path) = Unit {0}
IsLater Yield = Unit {0}
IsLater (End value) = Unit {0}
IsLater (Fail fault) = Unit {0}
IsLater op = ⊥
