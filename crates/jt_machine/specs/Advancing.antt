-- What one step of a job's slice leaves.
use Rattle.std.specs.Prelude.{◌≡◌, ℕ, ◌-◌, ◌<◌, ◌⊎◌, List, ◌∷◌, length}
use Rattle.jt_base.specs.declared.run.Seeds.{Seeds}
use Rattle.jt_shard.specs.Shards.{ShardState}
use Rattle.jt_meaning.specs.Run.{Run}
use Rattle.jt_step.specs.Tasks.{Task}
use Rattle.jt_machine.specs.declared.progress.Progress.{Progress}
use Rattle.jt_machine.specs.declared.progress.Progress.TheVariants as progress
use Rattle.jt_machine.specs.Machines.{Runs, AreSettled, Ended, Falls, Grows, stamps_left}

-- the shards and the jobs after a step of this job, of which so many are ready
pub record Leaves (run : Run) (seeds : Seeds) (shards : List (ShardState Task)) (ready : List Task) (job : Task) (shards' : List (ShardState Task)) (jobs' : List Task) (ready' : ℕ) : Type 0 where
  pub runs : Runs run seeds shards' jobs'
  pub settled : AreSettled shards'
  pub grows : Grows run seeds shards shards'
  pub falls : Falls shards (job ∷ ready) (length ready) shards' jobs' ready'

-- stamps were given, or the job took turns
abbrev pub Further : Run → List (ShardState Task) → Task → List (ShardState Task) → Task → Type 0
Further run shards job shards' job' =
    (stamps_left shards' < stamps_left shards) ⊎ ((stamps_left shards' ≡ stamps_left shards) × (run.limits.turns - job'.taken < run.limits.turns - job.taken))

-- after one advance of a job and its operation, if it needs one
abbrev pub CarriesOn : Run → Seeds → List (ShardState Task) → List Task → Task → Progress → List (ShardState Task) → List Task → Type 0
CarriesOn run seeds shards ready job (progress.GoesOn job') shards' ready' = Leaves run seeds shards ready job shards' (job' ∷ ready') (length ready') × Further run shards job shards' job'
CarriesOn run seeds shards ready job progress.Left shards' ready' = Leaves run seeds shards ready job shards' ready' (length ready')
CarriesOn run seeds shards ready job (progress.Ended e) shards' ready' = Ended run seeds shards' e × Grows run seeds shards shards'

-- after one operation of a job
abbrev pub Serves : Run → Seeds → List (ShardState Task) → List Task → Task → Progress → List (ShardState Task) → List Task → Type 0
Serves run seeds shards ready job (progress.GoesOn job') shards' ready' = Leaves run seeds shards ready job shards' (job' ∷ ready') (length ready') × (stamps_left shards' < stamps_left shards)
Serves run seeds shards ready job progress.Left shards' ready' = Leaves run seeds shards ready job shards' ready' (length ready')
Serves run seeds shards ready job (progress.Ended e) shards' ready' = Ended run seeds shards' e × Grows run seeds shards shards'
