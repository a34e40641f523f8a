-- A task as its evaluator shows it.
use Rattle.std.specs.Prelude.{◌≡◌, ◌⊎◌, ℕ, ◌+◌, ◌-◌, ◌<◌, ◌≤◌, List, [], ◌∷◌, ◌++◌, Bool, true, false, Option, Some, None, map, length, if◌then◌else◌}
use Rattle.jt_base.specs.declared.entry.Note.{Note}
use Rattle.jt_base.specs.declared.operation.How.{How}
use Rattle.jt_base.specs.declared.operation.How.TheVariants.{Default, Interactive, Async, Chunk}
use Rattle.jt_base.specs.declared.operation.Op.{Op}
use Rattle.jt_base.specs.declared.operation.Op.TheVariants.{Begin, Spawn}
use Rattle.jt_base.specs.declared.operation.Reply.{Reply}
use Rattle.jt_base.specs.declared.run.Pool.{Pool}
use Rattle.jt_base.specs.declared.run.Pool.TheVariants as pool
use Rattle.jt_base.specs.declared.run.Sizes.{Sizes}
use Rattle.jt_base.specs.Jobs.{Seat, Held, note_reply}
use Rattle.jt_base.specs.Coming.{Next}
use Rattle.jt_base.specs.Coming as next
use Rattle.jt_laws.specs.Entries.{ends}
use Rattle.jt_laws.specs.Replies.{can_reply}
use Rattle.jt_laws.specs.Seats.{main_seat, interactive_pool}
use Rattle.jt_laws.specs.Tasks.{is_main}
use Rattle.jt_meaning.specs.declared.start.Start.{Start}
use Rattle.jt_step.specs.declared.task.Advance.{Advance}
use Rattle.jt_step.specs.declared.task.Advance.TheVariants.{More, Needs, Spawns, Over}
use Rattle.jt_meaning.specs.State.{Out, turns_of}
use Rattle.jt_meaning.specs.Meaning.{task}
use Rattle.jt_meaning.specs.Run.{Run}
use Rattle.jt_meaning.specs.Next.{next_of, next_operation, IsLater}

-- the run, the task's path, start and seat, its notes so far and how many more it has room for, the
-- turns that it has taken, and whether memory was refused in an advance
pub record Task : Type 0 where
  pub run : Run
  pub path : List ℕ
  pub start : Start
  pub seat : Seat
  pub log : List Note
  pub room : ℕ
  pub taken : ℕ
  pub failed : Bool

-- its description
abbrev pub told_of : Task → Held Start
told_of t = record { path = t.path; start = t.start; seat = t.seat; log = t.log }

-- the seat at a task's beginning, where `parent` is the pool of the task that makes it
abbrev pub seat_by_how : Sizes → How → Pool → Seat
seat_by_how sizes Default parent = record { pool = pool.Default; bound = None }
seat_by_how sizes Interactive parent = record { pool = interactive_pool sizes; bound = None }
seat_by_how sizes Async parent = record { pool = parent; bound = None }
seat_by_how sizes (Chunk k) parent = record { pool = pool.Default; bound = Some k }

abbrev pub seat_at : Sizes → List ℕ → How → Pool → Seat
seat_at sizes path how parent = if is_main path then main_seat else seat_by_how sizes how parent

-- a task at its beginning
abbrev pub new_task : Run → List ℕ → Start → Pool → Task
new_task run path start parent = record {
  run = run;
  path = path;
  start = start;
  seat = seat_at run.sizes path start.how parent;
  log = [];
  room = 0;
  taken = 0;
  failed = false;
}

-- what comes of the task after its notes
abbrev pub out_of : Task → Out
out_of t = task t.run t.path t.start (map note_reply t.log)

-- what comes next for it
abbrev pub coming : Task → Option (Next Start)
coming t = next_of (out_of t)

-- how many turns begin before the next operation; one that a limit refuses is not among them
abbrev pub needed : Task → ℕ
needed t = t.run.limits.turns - turns_of (out_of t)

-- what an answer says of what comes next
abbrev pub said : Advance → Option (Next Start)
said More = None
said (Needs op) = Some (next.Needs op)
said (Spawns op start) = Some (next.Spawns op start)
said Over = Some next.Over

-- after at most so many turns: what comes next; or `More`, and all these turns were taken, where more
-- turns begin before it
pub record Says (t : Task) (turns : ℕ) (a : Advance) (taken : ℕ) : Type 0 where
  pub more : (n : Next Start) → coming t ≡ Some n → t.taken + turns < needed t → (said a ≡ None) × (taken ≡ t.taken + turns)
  pub stops : (n : Next Start) → coming t ≡ Some n → needed t ≤ t.taken + turns → (said a ≡ Some n) × (taken ≡ needed t)

-- an advance changes nothing but the turns that were taken
pub record Advances (old : Task) (turns : ℕ) (a : Advance) (new : Task) : Type 0 where
  pub kept : new ≡ record old { taken = new.taken }
  pub says : Says old turns a new.taken

-- what comes next after one reply more
abbrev pub coming_with : Task → Reply → Option (Next Start)
coming_with t r = next_operation t.run t.path t.start (map note_reply t.log ++ r ∷ [])

-- what comes after an operation's reply: nothing after the end of the task, else a further operation
abbrev pub ComesAfter : Bool → Option (Next Start) → Type 0
ComesAfter true n = n ≡ Some next.Over
ComesAfter false n = (op : Op) × (next.op_of n ≡ Some op)

-- what comes after each reply that the needed operation can have
abbrev pub GoesOn : Task → Advance → Type 0
GoesOn t a = (op : Op) (r : Reply) → next.op_of (said a) ≡ Some op → can_reply op r ≡ true → ComesAfter (ends op) (coming_with t r)

-- an operation that comes is Begin, or one that comes once the task has begun
abbrev pub IsTaskOp : Op → Type 0
IsTaskOp op = (op ≡ Begin) ⊎ IsLater op

-- what an advance may ask: an operation on tasks or a print; and a task that it makes has a body, and is
-- made as its start says
pub record AsksWell (t : Task) (a : Advance) : Type 0 where
  pub asks : (op : Op) → next.op_of (said a) ≡ Some op → IsTaskOp op
  pub body : (op : Op) (start : Start) → said a ≡ Some (next.Spawns op start) → start.code < length t.run.program.tasks
  pub how : (op : Op) (start : Start) → said a ≡ Some (next.Spawns op start) → (path : List ℕ) × (op ≡ Spawn path start.how)
