-- A run of a program: its history, and why it ends.
use Rattle.std.specs.Prelude.{◌≡◌, ℕ, List, [], ◌++◌, Option, Some, None, get_or}
use Rattle.jt_base.specs.declared.entry.Entry.{Entry}
use Rattle.jt_base.specs.declared.operation.Op.TheVariants as op
use Rattle.jt_base.specs.declared.run.Pool.{Pool}
use Rattle.jt_base.specs.declared.run.Pool.TheVariants as pool
use Rattle.jt_base.specs.declared.run.Seeds.{Seeds}
use Rattle.jt_base.specs.declared.run.Sizes.{Sizes}
use Rattle.jt_base.specs.declared.value.Value.{Value}
use Rattle.jt_base.specs.Jobs.{Seat}
use Rattle.jt_histories.specs.Merges.{IsMerge}
use Rattle.jt_histories.specs.Rest.{AtRest, MeetsLimit}
use Rattle.jt_laws.specs.Entries.{shard, of_task, of_shard, below, In}
use Rattle.jt_laws.specs.Seats.{seat_of}
use Rattle.jt_laws.specs.Histories.{World, Birth, birth_of, IsLegalHistory}
use Rattle.jt_laws.specs.Lines.{main_end, cut_at_main_end}
use Rattle.jt_meaning.specs.declared.start.Start.{Start}
use Rattle.jt_meaning.specs.Run as task
use Rattle.jt_meaning.specs.Next.{main_start, next_operation}
use Rattle.jt_machine.specs.declared.run.End.{End}
use Rattle.jt_machine.specs.declared.run.End.TheVariants.{Ok, MainFailed, Deadlock, EventLimit}

-- one default worker, and no interactive one
abbrev pub one_worker : Sizes
one_worker = record { default = 1; interactive = 0 }

-- what comes next for the tasks of a run, main's start, the workers and the limit on stamps
abbrev pub world_of : task.Run → Seeds → World Start
world_of run seeds = record {
  next = next_operation run;
  main = main_start seeds;
  sizes = run.sizes;
  events = run.limits.events;
}

-- why a run ends: main has ended, has failed, or hasn't ended while no task can move or an entry meets
-- the limit on stamps
abbrev pub IsEnd : World Start → List Entry → End → Type 0
IsEnd world h Ok = (value : Value) × (main_end h ≡ Some (op.End value))
IsEnd world h (MainFailed fault) = main_end h ≡ Some (op.Fail fault)
IsEnd world h Deadlock = (main_end h ≡ None) × AtRest Start world h
IsEnd world h EventLimit = (main_end h ≡ None) × MeetsLimit Start world h

-- a legal history that goes no further than main's end, and why it ends there
pub record IsRun (run : task.Run) (seeds : Seeds) (h : List Entry) (end : End) : Type 0 where
  pub legal : IsLegalHistory Start (world_of run seeds) h
  pub whole : cut_at_main_end h ≡ h
  pub ended : IsEnd (world_of run seeds) h end

-- ---- the workers

-- where one worker of each pool works: a task that is bound to a worker has that one, and another task the
-- first one of its pool
abbrev pub worker_by : Sizes → Pool → Option ℕ → ℕ
worker_by sizes p (Some k) = k
worker_by sizes pool.Default None = 0
worker_by sizes pool.Interactive None = sizes.default

abbrev pub worker_of : Sizes → Seat → ℕ
worker_of sizes seat = worker_by sizes seat.pool seat.bound

module _ (S : Type 0) (world : World S) where
  -- an entry of a history is made by the worker of its task's seat, which the task has by its birth and by
  -- its entries before
  pub record IsByItsWorker (h : List Entry) (e : Entry) : Type 0 where
    pub birth : Birth S
    pub born : birth_of S world h e.task ≡ Some birth
    pub worker : e.worker ≡ worker_of world.sizes (seat_of world.sizes birth.maker (of_task e.task (below e.stamp h)))

  -- each entry
  abbrev pub AllByWorkers : List Entry → Type 0
  AllByWorkers h = (e : Entry) → In e h → IsByItsWorker h e

  -- each entry beyond those of these logs
  abbrev pub FurtherByWorkers : List (List Entry) → List Entry → Type 0
  FurtherByWorkers logs h = (e : Entry) → In e h → (In e (get_or logs (shard e) []) → ⊥) → IsByItsWorker h e

  -- logs that have grown from these: each begins with what it was, and each further entry is made by its
  -- task's worker
  pub record GrownByWorkers (logs grown : List (List Entry)) : Type 0 where
    pub begins : (k : ℕ) → (more : List Entry) × (get_or grown k [] ≡ get_or logs k [] ++ more)
    pub workers : (h : List Entry) → IsMerge grown h → FurtherByWorkers logs h

-- ---- a run that goes on

-- the cut of a legal history in which the entries of each shard begin with its log here, and each further one
-- is made by its task's worker
pub record GoesOnFrom (run : task.Run) (seeds : Seeds) (logs : List (List Entry)) (h : List Entry) : Type 0 where
  pub all : List Entry
  pub legal : IsLegalHistory Start (world_of run seeds) all
  pub cut : h ≡ cut_at_main_end all
  pub begins : (k : ℕ) → (more : List Entry) × (of_shard k all ≡ get_or logs k [] ++ more)
  pub workers : FurtherByWorkers Start (world_of run seeds) logs h
