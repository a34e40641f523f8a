-- Jobs that move between one shard's line and those that don't wait.
use Rattle.std.proofs.Common.{◌≡◌, ℕ, List, ◌∷◌, ◌++◌, Some, refl, sym, ap, ◌∙◌, subst, map, set}
use Rattle.std.specs.Prelude.{slice_get}
use Rattle.std.specs.List.{All}
use Rattle.std.specs.List.Sorted.{IsPermutation}
use Rattle.std.proofs.lemmas.List.{length-set}
use Rattle.std.proofs.lemmas.List.Elements.{All-cons, All-tail}
use Rattle.std.proofs.lemmas.List.Sorted.{IsPermutation-map, length_permutation}
use Rattle.jt_base.specs.declared.run.Seeds.{Seeds}
use Rattle.jt_base.specs.Jobs.{Held}
use Rattle.jt_histories.specs.Jobs.{Holds}
use Rattle.jt_histories.proofs.Turning.{moved_keeps}
use Rattle.jt_shard.specs.Shards.{ShardState, IsSettled}
use Rattle.jt_meaning.specs.declared.start.Start.{Start}
use Rattle.jt_meaning.specs.Run.{Run}
use Rattle.jt_step.specs.Tasks.{Task, told_of}
use Rattle.jt_machine.specs.Machines.{logs_of, waiting_in, AreSettled, SettledBut, IsJob, IsWaiting, IsShard, main_end_in, Runs, jobs_in}
use Rattle.jt_machine.specs.Runs.{world_of}
use Rattle.jt_machine.proofs.Shelf.{jobs_of, set_each, logs_same, jobs_moved}

-- a shard's line and the other jobs change places, and its entries stay
pub record Moves (run : Run) (k : ℕ) (s : ShardState Task) (jobs : List Task) (s' : ShardState Task) (jobs' : List Task) : Type 0 where
  pub number : s'.number ≡ s.number
  pub events : s'.events ≡ s.events
  pub log : s'.log ≡ s.log
  pub waiting : All (IsWaiting run k) s'.waiting
  pub each_job : All (IsJob run) jobs'
  pub moved : IsPermutation (jobs ++ jobs_of s.waiting) (jobs' ++ jobs_of s'.waiting)

module _ (run : Run) (seeds : Seeds) (shards : List (ShardState Task)) (k : ℕ) (s s' : ShardState Task) (jobs jobs' : List Task) where
  pub moved_runs : Runs run seeds shards jobs → slice_get shards k ≡ Some s → Moves run k s jobs s' jobs' → Runs run seeds (set shards k s') jobs'
  moved_runs r e m =
      let own = r.each_shard k s e in
      let logs : logs_of (set shards k s') ≡ logs_of shards = logs_same shards k s s' e m.log in
      let moved : IsPermutation (map told_of (jobs ++ waiting_in shards)) (map told_of (jobs' ++ waiting_in (set shards k s'))) =
      IsPermutation-map told_of (jobs ++ waiting_in shards) (jobs' ++ waiting_in (set shards k s')) (jobs_moved shards k s s' jobs jobs' e m.moved) in
      record {
        sixteen = length-set shards k s' ∙ r.sixteen;
        worker = r.worker;
        each_shard = set_each shards k s' (λ j t. IsShard run j t) (λ j t f n. r.each_shard j t f)
            (record { number = m.number ∙ own.number; events = m.events ∙ own.events; waiting = m.waiting });
        each_job = m.each_job;
        holds = subst (λ ls. Holds Start (world_of run seeds) ls (map told_of (jobs' ++ waiting_in (set shards k s')))) (sym logs)
            (moved_keeps Start (world_of run seeds) (logs_of shards) (map told_of (jobs ++ waiting_in shards)) (map told_of (jobs' ++ waiting_in (set shards k s'))) moved r.holds);
        goes_on = ap main_end_in logs ∙ r.goes_on;
      }

  -- no job came or went
  pub moved_count : slice_get shards k ≡ Some s → Moves run k s jobs s' jobs' → jobs_in (set shards k s') jobs' ≡ jobs_in shards jobs
  moved_count e m = length_permutation (jobs ++ waiting_in shards) (jobs' ++ waiting_in (set shards k s')) (jobs_moved shards k s s' jobs jobs' e m.moved)

pub settled_set : (shards : List (ShardState Task)) (k : ℕ) (s : ShardState Task) → SettledBut k shards → IsSettled told_of s → AreSettled (set shards k s)
settled_set shards k s b own j t e = set_each shards k s (λ i u. IsSettled told_of u) (λ i u f n. b i u f n) own j t e

pub settled_but : (shards : List (ShardState Task)) (k : ℕ) (s : ShardState Task) → AreSettled shards → SettledBut k (set shards k s)
settled_but shards k s a j t e n = set_each shards k s (λ i u. (i ≡ k → ⊥) → IsSettled told_of u) (λ i u f m l. a i u f) (λ l. absurd (l refl)) j t e n

-- a job that was changed, but neither by its description nor by its run
pub job_replaced : (run : Run) (seeds : Seeds) (shards : List (ShardState Task)) (t u : Task) (rest : List Task) → told_of u ≡ told_of t → IsJob run u → Runs run seeds shards (t ∷ rest) → Runs run seeds shards (u ∷ rest)
job_replaced run seeds shards t u rest e j r = record {
  sixteen = r.sixteen;
  worker = r.worker;
  each_shard = r.each_shard;
  each_job = All-cons (IsJob run) u rest j (All-tail (IsJob run) t rest r.each_job);
  holds = subst (λ (d : Held Start). Holds Start (world_of run seeds) (logs_of shards) (d ∷ map told_of (rest ++ waiting_in shards))) (sym e) r.holds;
  goes_on = r.goes_on;
}
