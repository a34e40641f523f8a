-- The machine at the beginning.
use Rattle.std.proofs.Common.{◌≡◌, ℕ, zero, suc, ◌<◌, ◌⊎◌, inl, inr, List, [], ◌∷◌, ◌++◌, Some, refl, sym, ap, ◌∙◌, subst, arith, length, get_or, replicate}
use Rattle.std.specs.Prelude.{slice_get}
use Rattle.std.proofs.lemmas.List.{length_push}
use Rattle.std.proofs.lemmas.List.Elements.{All-nil, All-cons}
use Rattle.jt_base.specs.declared.entry.Entry.{Entry}
use Rattle.jt_base.specs.declared.operation.Op.TheVariants as op
use Rattle.jt_base.specs.declared.run.Pool.TheVariants as pool
use Rattle.jt_base.specs.declared.run.Seeds.{Seeds}
use Rattle.jt_base.specs.Coming.{op_of}
use Rattle.jt_laws.specs.Entries.{In}
use Rattle.jt_histories.proofs.Start.{holds_start}
use Rattle.jt_histories.proofs.Lists.{or_else}
use Rattle.jt_shard.specs.Shards.{ShardState, empty_shard, MustWait}
use Rattle.jt_shard.specs.Runs as of
use Rattle.jt_meaning.specs.declared.start.Start.{Start}
use Rattle.jt_step.specs.Laws as law
use Rattle.jt_meaning.specs.Run.{Run}
use Rattle.jt_meaning.specs.Next.{next_operation, main_start}
use Rattle.jt_step.specs.Tasks.{Task, told_of, new_task}
use Rattle.jt_machine.specs.Machines.{first_shards, logs_of, IsJob, IsWaiting, run_of_job, Resumes}
use Rattle.jt_machine.specs.Runs.{world_of}
use Rattle.jt_machine.proofs.Entering.{body_at}

get_push : {X : Type 0} (xs : List X) (x : X) (k : ℕ) (y : X) → slice_get (xs ++ x ∷ []) k ≡ Some y → (slice_get xs k ≡ Some y) ⊎ ((k ≡ length xs) × (x ≡ y))
get_push [] x zero y e = inr (refl, cc)
get_push [] x (suc k) y e = absurd (cc)
get_push (z ∷ zs) x zero y e = inl e
get_push (z ∷ zs) x (suc k) y e = or_else (get_push zs x k y e) (λ p. inl p) (λ p. let q = p.0 in inr (omega (arith, q), p.1))

first_length : (n events : ℕ) → length (first_shards n events) ≡ n
first_length zero events = refl
first_length (suc n) events = let l = length_push (first_shards n events) (empty_shard n events) in let i = first_length n events in omega (arith, l, i)

first_at : (n events k : ℕ) (s : ShardState Task) → slice_get (first_shards n events) k ≡ Some s → empty_shard k events ≡ s
first_at zero events k s e = absurd (cc)
first_at (suc n) events k s e = or_else (get_push (first_shards n events) (empty_shard n events) k s e)
    (λ p. first_at n events k s p)
    (λ p. ap (λ i. empty_shard i events) (p.0 ∙ first_length n events) ∙ p.1)

none_in : (n k : ℕ) (x : Entry) → In x (get_or (replicate n []) k []) → ⊥
none_in zero k x i = i
none_in (suc n) zero x i = i
none_in (suc n) (suc k) x i = none_in n k x i

pub none_begun : (events k : ℕ) (x : Entry) → In x (get_or (logs_of (first_shards 16 events)) k []) → ⊥
none_begun events k x i = none_in 16 k x i

module _ (run : Run) (seeds : Seeds) (main : Task) (made : main ≡ new_task run [] (main_start seeds) pool.Default) (bodies : 0 < length run.program.tasks) where
  main_job : IsJob run (new_task run [] (main_start seeds) pool.Default)
  main_job = let b = body_at run.program.tasks 0 bodies in record {
    of_run = refl;
    comes = (op.Begin, ap op_of (law.begins run [] (main_start seeds) b.0 b.1));
  }

  pub begun_resumes : Resumes run seeds (first_shards 16 run.limits.events) (main ∷ [])
  begun_resumes = subst (λ t. Resumes run seeds (first_shards 16 run.limits.events) (t ∷ [])) (sym made) (record {
    sixteen = refl;
    each_shard = λ k s e. subst (of.IsSettledShard told_of run_of_job next_operation run run.limits.events k) (first_at 16 run.limits.events k s e) (record { shard = record { number = refl; events = refl; waiting = All-nil (IsWaiting run k) }; settled = All-nil (MustWait told_of []) });
    each_job = All-cons (IsJob run) (new_task run [] (main_start seeds) pool.Default) [] main_job (All-nil (IsJob run));
    holds = holds_start Start (world_of run seeds);
  })

-- as the code finds it
pub begun : (run : Run) (seeds : Seeds) (shards : List (ShardState Task)) (ready : List Task) (main : Task) → main ≡ new_task run [] (main_start seeds) pool.Default → 0 < length run.program.tasks
    → shards ≡ first_shards 16 run.limits.events → ready ≡ main ∷ [] → Resumes run seeds shards ready
begun run seeds shards ready main made bodies s r =
    subst (λ l. Resumes run seeds l ready) (sym s) (subst (Resumes run seeds (first_shards 16 run.limits.events)) (sym r) (begun_resumes run seeds main made bodies))
