-- What an operation of a job asks of the machine, and what it leaves.
use Rattle.std.specs.Prelude.{◌≡◌, ℕ, ◌<◌, List, [], ◌∷◌, ◌++◌, Some, true, Bool, cond, map, length, slice_get, slice_set}
use Rattle.std.specs.List.Sorted.{IsPermutation}
use Rattle.jt_base.specs.declared.operation.How.TheVariants.{Default}
use Rattle.jt_base.specs.declared.operation.Op.{Op}
use Rattle.jt_base.specs.declared.operation.Op.TheVariants as op
use Rattle.jt_base.specs.declared.operation.Reply.{Reply}
use Rattle.jt_base.specs.declared.run.Seeds.{Seeds}
use Rattle.jt_base.specs.Coming.{Needs, Spawns}
use Rattle.jt_laws.specs.Entries.{ends}
use Rattle.jt_laws.specs.Replies.{can_reply}
use Rattle.jt_laws.specs.Tasks.{is_main}
use Rattle.jt_shard.specs.Shards.{ShardState, IsSettled}
use Rattle.jt_meaning.specs.declared.start.Start.{Start}
use Rattle.jt_meaning.specs.Run.{Run}
use Rattle.jt_step.specs.Tasks.{Task, told_of, coming, coming_with, new_task, ComesAfter}
use Rattle.jt_machine.specs.declared.run.End.TheVariants as end
use Rattle.jt_machine.specs.declared.progress.Follows.{Follows}
use Rattle.jt_machine.specs.declared.progress.Follows.TheVariants as follows
use Rattle.jt_machine.specs.declared.progress.Progress.{Progress}
use Rattle.jt_machine.specs.declared.progress.Progress.TheVariants as progress
use Rattle.jt_machine.specs.Machines.{logs_of, Runs, AreSettled, Ended, stamps_left, jobs_in}

-- ---- what follows an operation

-- after the reply to an operation that makes no task
abbrev pub follows_by : Bool → Op → Follows
follows_by main (op.End value) = cond main (follows.Ends end.Ok) follows.Over
follows_by main (op.Fail fault) = cond main (follows.Ends (end.MainFailed fault)) follows.Over
follows_by main op.Yield = follows.Yields
follows_by main o = follows.GoesOn

abbrev pub follows_of : List ℕ → Op → Follows
follows_of path o = follows_by (is_main path) o

-- the child of a job's spawn, at its beginning
pub record IsChild (run : Run) (job : Task) (o : Op) (child : Task) : Type 0 where
  pub path : List ℕ
  pub start : Start
  pub spawn : o ≡ op.Spawn path Default
  pub comes : coming job ≡ Some (Spawns o start)
  pub made : child ≡ new_task run path start job.seat.pool
  pub how : start.how ≡ Default
  pub body : start.code < length run.program.tasks

abbrev pub IsNext : Run → Task → Op → Follows → Type 0
IsNext run job o (follows.Makes child) = IsChild run job o child
IsNext run job o f = (coming job ≡ Some (Needs o)) × (f ≡ follows_of job.path o)

-- a job asks an operation, and after its reply this follows
pub record Asks (run : Run) (job : Task) (o : Op) (f : Follows) : Type 0 where
  pub follows : IsNext run job o f
  pub goes_on : (r : Reply) → can_reply o r ≡ true → ComesAfter (ends o) (coming_with job r)

-- ---- what an operation leaves

-- the job and its child, where they go on
abbrev pub left_by : Task → Follows → List Task
left_by job (follows.Ends e) = []
left_by job follows.Over = []
left_by job follows.Yields = job ∷ []
left_by job follows.GoesOn = job ∷ []
left_by job (follows.Makes child) = job ∷ child ∷ []

-- a job's operation has its reply, and the jobs that wait at shard k may be woken
abbrev pub Replied : Run → Seeds → List (ShardState Task) → List Task → Task → Follows → Type 0
Replied run seeds shards ready job (follows.Ends e) = Ended run seeds shards e
Replied run seeds shards ready job f = Runs run seeds shards (left_by job f ++ ready)

-- jobs that waited at shard k have joined those that are ready
pub record WakesSome (k : ℕ) (shards : List (ShardState Task)) (ready : List Task) (shards' : List (ShardState Task)) (ready' : List Task) : Type 0 where
  pub before : ShardState Task
  pub after : ShardState Task
  pub woken : List (Task × Op)
  pub there : slice_get shards k ≡ Some before
  pub set : shards' ≡ slice_set shards k after
  pub kept : after ≡ record before { waiting = after.waiting; reserved = after.reserved }
  pub waiting : IsPermutation before.waiting (woken ++ after.waiting)
  pub joined : ready' ≡ ready ++ map (λ w. w.0) woken

-- all those whose operations are allowed
pub record WakesAll (k : ℕ) (shards : List (ShardState Task)) (ready : List Task) (shards' : List (ShardState Task)) (ready' : List Task) : Type 0 where
  pub some : WakesSome k shards ready shards' ready'
  pub settled : IsSettled told_of some.after

-- from the shards and the jobs right after a reply, once the waiting jobs were woken
pub record GoesAfter (run : Run) (seeds : Seeds) (shards : List (ShardState Task)) (jobs : List Task) (shards' : List (ShardState Task)) (jobs' : List Task) : Type 0 where
  pub runs : Runs run seeds shards' jobs'
  pub settled : AreSettled shards'
  pub logs : logs_of shards' ≡ logs_of shards
  pub stamps : stamps_left shards' ≡ stamps_left shards
  pub count : jobs_in shards' jobs' ≡ jobs_in shards jobs

abbrev pub Followed : Run → Seeds → List (ShardState Task) → List Task → Task → Follows → Progress → List (ShardState Task) → List Task → Type 0
Followed run seeds shards ready job f (progress.GoesOn job') shards' ready' = (job' ≡ job) × GoesAfter run seeds shards (left_by job f ++ ready) shards' (job' ∷ ready')
Followed run seeds shards ready job f progress.Left shards' ready' = GoesAfter run seeds shards (left_by job f ++ ready) shards' ready'
Followed run seeds shards ready job f (progress.Ended e) shards' ready' = Ended run seeds shards' e × (logs_of shards' ≡ logs_of shards)
