-- The machine: the shards with the jobs that wait, and the jobs that don't.
use Rattle.std.specs.Prelude.{◌≡◌, ℕ, zero, suc, ◌+◌, ◌-◌, ◌<◌, ◌≤◌, ◌⊎◌, List, [], ◌∷◌, ◌++◌, Option, Some, None, map, length, get_or, slice_get}
use Rattle.std.specs.List.{All}
use Rattle.jt_base.specs.declared.entry.Entry.{Entry}
use Rattle.jt_base.specs.declared.operation.Op.{Op}
use Rattle.jt_base.specs.declared.operation.Op.TheVariants as op
use Rattle.jt_base.specs.declared.run.Seeds.{Seeds}
use Rattle.jt_base.specs.declared.value.Value.{Value}
use Rattle.jt_base.specs.Jobs.{Held}
use Rattle.jt_base.specs.Names as names
use Rattle.jt_laws.specs.Entries.{shard}
use Rattle.jt_laws.specs.Lines.{main_end}
use Rattle.jt_laws.specs.Histories.{World}
use Rattle.jt_histories.specs.Jobs.{Has, Holds, last_entry}
use Rattle.jt_histories.specs.Rest.{AllStuck, AtLimit}
use Rattle.jt_program.specs.View.{program_plan}
use Rattle.jt_shard.specs.Runs as of
use Rattle.jt_shard.specs.Shards.{ShardState, empty_shard, IsSettled}
use Rattle.jt_meaning.specs.declared.start.Start.{Start}
use Rattle.jt_meaning.specs.Run.{Run}
use Rattle.jt_meaning.specs.Next.{next_operation}
use Rattle.jt_step.specs.Tasks.{Task, told_of}
use Rattle.jt_machine.specs.declared.run.End.{End}
use Rattle.jt_machine.specs.declared.run.End.TheVariants.{Ok, MainFailed, Deadlock, EventLimit}
use Rattle.jt_machine.specs.declared.setting.Setting.{Setting}
use Rattle.jt_machine.specs.Runs.{world_of, GrownByWorkers}

-- what the tasks have in common
abbrev pub run_of : Setting → Run
run_of s = record { program = program_plan s.program.now; sizes = s.sizes; limits = s.limits }

-- ---- the shards

-- the first n of them, without entries
abbrev pub first_shards : ℕ → ℕ → List (ShardState Task)
first_shards zero events = []
first_shards (suc n) events = first_shards n events ++ empty_shard n events ∷ []

abbrev pub logs_of : List (ShardState Task) → List (List Entry)
logs_of shards = map (λ s. s.log) shards

-- the jobs that wait
abbrev pub waiting_in : List (ShardState Task) → List Task
waiting_in [] = []
waiting_in (s ∷ ss) = map (λ w. w.0) s.waiting ++ waiting_in ss

-- no waiting job's operation is allowed, at any shard, or at any but one
abbrev pub AreSettled : List (ShardState Task) → Type 0
AreSettled shards = (k : ℕ) (s : ShardState Task) → slice_get shards k ≡ Some s → IsSettled told_of s

abbrev pub SettledBut : ℕ → List (ShardState Task) → Type 0
SettledBut n shards = (k : ℕ) (s : ShardState Task) → slice_get shards k ≡ Some s → (k ≡ n → ⊥) → IsSettled told_of s

-- ---- the jobs

abbrev pub run_of_job : Task → Run
run_of_job t = t.run

-- a job of the run, for which an operation comes next
abbrev pub IsJob : Run → Task → Type 0
IsJob = of.IsJob told_of run_of_job next_operation

-- it waits with the operation that comes next, at the shard of the operation's object
abbrev pub IsWaiting : Run → ℕ → Task × Op → Type 0
IsWaiting = of.IsWaiting told_of run_of_job next_operation

-- a shard of the run
abbrev pub IsShard : Run → ℕ → ShardState Task → Type 0
IsShard run = of.IsShard told_of run_of_job next_operation run run.limits.events

-- ---- a run at one moment

-- what it is given, its shards with the jobs that wait, and the jobs that are ready, in their order
pub record RunState : Type 0 where
  pub run : Run
  pub seeds : Seeds
  pub shards : List (ShardState Task)
  pub ready : List Task

-- ---- main's end

-- it stands in shard 0
abbrev pub main_end_in : List (List Entry) → Option Op
main_end_in logs = main_end (get_or logs 0 [])

-- ---- the whole

-- where a run may go on: its shards are settled, the ready jobs are of the run, and the shards' logs belong
-- together with these and with those that wait
pub record Resumes (run : Run) (seeds : Seeds) (shards : List (ShardState Task)) (ready : List Task) : Type 0 where
  pub sixteen : length shards ≡ names.shards
  pub each_shard : (k : ℕ) (s : ShardState Task) → slice_get shards k ≡ Some s → of.IsSettledShard told_of run_of_job next_operation run run.limits.events k s
  pub each_job : All (IsJob run) ready
  pub holds : Holds Start (world_of run seeds) (logs_of shards) (map told_of (ready ++ waiting_in shards))

-- why a run ends by main's last operation
abbrev pub end_by : Option Op → Option End
end_by (Some (op.End value)) = Some Ok
end_by (Some (op.Fail fault)) = Some (MainFailed fault)
end_by o = None

-- amid the run, while main goes on; `jobs` are those that don't wait
pub record Runs (run : Run) (seeds : Seeds) (shards : List (ShardState Task)) (jobs : List Task) : Type 0 where
  pub sixteen : length shards ≡ names.shards
  pub worker : 1 ≤ run.sizes.default
  pub each_shard : (k : ℕ) (s : ShardState Task) → slice_get shards k ≡ Some s → IsShard run k s
  pub each_job : All (IsJob run) jobs
  pub holds : Holds Start (world_of run seeds) (logs_of shards) (map told_of (jobs ++ waiting_in shards))
  pub goes_on : main_end_in (logs_of shards) ≡ None

-- why it ends, said of the shards' logs and of the jobs
abbrev pub EndsBy : World Start → List (List Entry) → List (Held Start) → End → Type 0
EndsBy world logs jobs Ok = (value : Value) × (main_end_in logs ≡ Some (op.End value))
EndsBy world logs jobs (MainFailed fault) = main_end_in logs ≡ Some (op.Fail fault)
EndsBy world logs jobs Deadlock = (main_end_in logs ≡ None) × AllStuck Start world logs jobs
EndsBy world logs jobs EventLimit =
    (main_end_in logs ≡ None) × (j : Held Start) × (e : Entry) × Has Start j jobs × AtLimit Start world (get_or logs (shard e) []) j e

-- at the end of the run
pub record Ended (run : Run) (seeds : Seeds) (shards : List (ShardState Task)) (end : End) : Type 0 where
  pub jobs : List (Held Start)
  pub holds : Holds Start (world_of run seeds) (logs_of shards) jobs
  pub ends : EndsBy (world_of run seeds) (logs_of shards) jobs end

-- ---- what is left to do

-- how many stamps may still be given
abbrev pub stamps_left : List (ShardState Task) → ℕ
stamps_left [] = 0
stamps_left (s ∷ ss) = (s.events - last_entry s.log) + stamps_left ss

abbrev pub jobs_in : List (ShardState Task) → List Task → ℕ
jobs_in shards jobs = length (jobs ++ waiting_in shards)

-- From these shards, these jobs and so many that are ready: as many jobs came as stamps were given or
-- fewer; and stamps were given, or no more jobs are ready than before.
pub record Falls (shards : List (ShardState Task)) (jobs : List Task) (ready : ℕ) (shards' : List (ShardState Task)) (jobs' : List Task) (ready' : ℕ) : Type 0 where
  pub total : stamps_left shards' + jobs_in shards' jobs' ≤ stamps_left shards + jobs_in shards jobs
  pub fewer : (stamps_left shards' < stamps_left shards) ⊎ ((stamps_left shards' ≡ stamps_left shards) × (ready' ≤ ready))

-- ---- what the logs keep

-- whatever logs those of the first shards have grown from, those of the others have too
abbrev pub Grows : Run → Seeds → List (ShardState Task) → List (ShardState Task) → Type 0
Grows run seeds shards shards' =
    (logs : List (List Entry)) → GrownByWorkers Start (world_of run seeds) logs (logs_of shards) → GrownByWorkers Start (world_of run seeds) logs (logs_of shards')
