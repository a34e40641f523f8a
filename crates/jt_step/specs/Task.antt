-- A task's run and the meaning.
use Rattle.std.specs.Prelude.{◌≡◌, ◌-◌, ◌≤◌, List, ◌++◌, Option, Some, None, map, length, vec_capacity, false}
use denote.Bor.{Bor}
use Rattle.jt_base.specs.declared.operation.Op.TheVariants as op
use Rattle.jt_base.specs.declared.operation.Reply.{Reply}
use Rattle.jt_base.specs.declared.value.Value.TheVariants.{Int}
use Rattle.jt_base.specs.Coming.{Next}
use Rattle.jt_base.specs.Jobs.{note_reply}
use Rattle.jt_base.specs.Coming as next
use Rattle.jt_program.specs.declared.code.Code.{Code}
use Rattle.jt_program.specs.View.{program_plan}
use Rattle.jt_step.specs.declared.frame.Loop.{Loop}
use Rattle.jt_step.specs.declared.frame.Loop.TheVariants as loop
use Rattle.jt_step.specs.declared.mode.Mode.{Mode}
use Rattle.jt_step.specs.declared.mode.Mode.TheVariants as mode
use Rattle.jt_meaning.specs.declared.start.Start.{Start}
use Rattle.jt_step.specs.declared.task.TaskState.{TaskState}
use Rattle.jt_meaning.specs.Run.{Run}
use Rattle.jt_meaning.specs.State.{State, renew, renew_with}
use Rattle.jt_meaning.specs.Meaning.{task}
use Rattle.jt_step.specs.Stack.{at, unused}
use Rattle.jt_step.specs.Tasks.{Task}

-- ---- turns

-- the body of a loop
abbrev pub body_in : Loop → Bor Code
body_in (loop.While first count c b) = b
body_in (loop.Range first count b i last) = b

-- the state in which a turn of a loop begins
abbrev pub turned : Loop → State → State
turned (loop.While first count c b) s = renew first count s
turned (loop.Range first count b i last) s = renew_with first count (Int i) s

-- ---- tasks

-- what an advance that stops here tells
abbrev pub mode_tells : Mode → Option (Next Start)
mode_tells (mode.Begins e) = Some (next.Needs op.Begin)
mode_tells (mode.Waits o None) = Some (next.Needs o)
mode_tells (mode.Waits o (Some start)) = Some (next.Spawns o start)
mode_tells (mode.Ending v) = Some (next.Needs (op.End v))
mode_tells (mode.Failing f) = Some (next.Needs (op.Fail f))
mode_tells mode.Over = Some next.Over
mode_tells _ = None

-- its run
abbrev pub run_of : TaskState → Run
run_of t = record { program = program_plan t.program.now; sizes = t.sizes; limits = t.limits }

abbrev pub seen : TaskState → Task
seen t = record {
  run = run_of t;
  path = t.path;
  start = t.start;
  seat = record { pool = t.pool; bound = t.bound };
  log = t.log.items;
  room = vec_capacity t.log - length t.log.items;
  taken = t.limits.turns - t.evaluator.turns;
  failed = t.failed;
}

-- the evaluator is where the meaning is after the notes that it has had
pub record IsCurrent (t : TaskState) : Type 0 where
  pub same : t.failed ≡ false → (rs : List Reply) → at (program_plan t.program.now) t.evaluator t.mode (unused t.log.items t.used ++ rs) ≡ task (run_of t) t.path t.start (map note_reply t.log.items ++ rs)
  pub within : t.used ≤ length t.log.items
  pub few : t.failed ≡ false → t.evaluator.turns ≤ t.limits.turns
