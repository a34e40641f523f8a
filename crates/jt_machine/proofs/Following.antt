-- A job goes on after its operation was answered.
use Rattle.std.proofs.Common.{◌≡◌, ℕ, List, [], ◌∷◌, ◌++◌, refl, sym, ap, ◌∙◌, subst, map}
use Rattle.std.specs.List.Sorted.{IsPermutation}
use Rattle.std.proofs.lemmas.List.Sorted.{IsPermutation-sym, IsPermutation-to_front, IsPermutation-cons, IsPermutation-append_left, IsPermutation-map, All-permutation, length_permutation}
use Rattle.jt_base.specs.declared.run.Seeds.{Seeds}
use Rattle.jt_histories.specs.Jobs.{Holds}
use Rattle.jt_histories.proofs.Turning.{moved_keeps}
use Rattle.jt_shard.specs.Shards.{ShardState}
use Rattle.jt_meaning.specs.declared.start.Start.{Start}
use Rattle.jt_meaning.specs.Run.{Run}
use Rattle.jt_step.specs.Tasks.{Task, told_of}
use Rattle.jt_machine.specs.declared.run.End.{End}
use Rattle.jt_machine.specs.declared.progress.Follows.{Follows}
use Rattle.jt_machine.specs.declared.progress.Follows.TheVariants as follows
use Rattle.jt_machine.specs.declared.progress.Progress.TheVariants as progress
use Rattle.jt_machine.specs.Machines.{logs_of, waiting_in, SettledBut, IsJob, Runs, EndsBy}
use Rattle.jt_machine.specs.Runs.{world_of}
use Rattle.jt_machine.specs.Operations.{Replied, WakesAll, GoesAfter, Followed}
use Rattle.jt_machine.proofs.Shelf.{logs_same}
use Rattle.jt_machine.proofs.Waking.{woken_after}

pub runs_permuted : (run : Run) (seeds : Seeds) (shards : List (ShardState Task)) (jobs jobs' : List Task) → IsPermutation jobs jobs' → Runs run seeds shards jobs → Runs run seeds shards jobs'
runs_permuted run seeds shards jobs jobs' p r = record {
  sixteen = r.sixteen;
  worker = r.worker;
  each_shard = r.each_shard;
  each_job = All-permutation (IsJob run) jobs jobs' p r.each_job;
  holds = moved_keeps Start (world_of run seeds) (logs_of shards) (map told_of (jobs ++ waiting_in shards)) (map told_of (jobs' ++ waiting_in shards))
      (IsPermutation-map told_of (jobs ++ waiting_in shards) (jobs' ++ waiting_in shards) (IsPermutation-append_left (waiting_in shards) jobs jobs' p)) r.holds;
  goes_on = r.goes_on;
}

after_permuted : (run : Run) (seeds : Seeds) (shards : List (ShardState Task)) (jobs : List Task) (shards' : List (ShardState Task)) (left right : List Task) → IsPermutation left right → GoesAfter run seeds shards jobs shards' left → GoesAfter run seeds shards jobs shards' right
after_permuted run seeds shards jobs shards' left right p g = record {
  runs = runs_permuted run seeds shards' left right p g.runs;
  settled = g.settled;
  logs = g.logs;
  stamps = g.stamps;
  count = length_permutation (left ++ waiting_in shards') (right ++ waiting_in shards') (IsPermutation-append_left (waiting_in shards') left right p) ∙ g.count;
}

module _ (run : Run) (seeds : Seeds) (shards : List (ShardState Task)) (k : ℕ) (ready : List Task) (shards' : List (ShardState Task)) (ready' : List Task) (job : Task) (settled : SettledBut k shards) (w : WakesAll k shards ready shards' ready') where
  pub ended_follows : (e : End) → Replied run seeds shards ready job (follows.Ends e) → Followed run seeds shards ready job (follows.Ends e) (progress.Ended e) shards' ready'
  ended_follows e r =
      let some = w.some in
      let logs : logs_of shards' ≡ logs_of shards = ap logs_of some.set ∙ logs_same shards k some.before some.after some.there (ap (λ (t : ShardState Task). t.log) some.kept) in (
        record {
          jobs = r.jobs;
          holds = subst (λ ls. Holds Start (world_of run seeds) ls r.jobs) (sym logs) r.holds;
          ends = subst (λ ls. EndsBy (world_of run seeds) ls r.jobs e) (sym logs) r.ends;
        },
        logs,
      )

  pub over_follows : Replied run seeds shards ready job follows.Over → Followed run seeds shards ready job follows.Over progress.Left shards' ready'
  over_follows r = woken_after run seeds shards k [] ready shards' ready' r settled w

  pub yield_follows : (ready2 : List Task) → ready2 ≡ ready' ++ job ∷ [] → Replied run seeds shards ready job follows.Yields → Followed run seeds shards ready job follows.Yields progress.Left shards' ready2
  yield_follows ready2 e r =
      after_permuted run seeds shards (job ∷ ready) shards' (job ∷ ready') ready2
      (subst (IsPermutation (job ∷ ready')) (sym e) (IsPermutation-sym (ready' ++ job ∷ []) (job ∷ ready') (IsPermutation-to_front ready' job)))
      (woken_after run seeds shards k (job ∷ []) ready shards' ready' r settled w)

  pub on_follows : Replied run seeds shards ready job follows.GoesOn → Followed run seeds shards ready job follows.GoesOn (progress.GoesOn job) shards' ready'
  on_follows r = (refl, woken_after run seeds shards k (job ∷ []) ready shards' ready' r settled w)

  pub make_follows : (child : Task) (ready2 : List Task) → ready2 ≡ ready' ++ child ∷ [] → Replied run seeds shards ready job (follows.Makes child) → Followed run seeds shards ready job (follows.Makes child) (progress.GoesOn job) shards' ready2
  make_follows child ready2 e r = (
    refl,
    after_permuted run seeds shards (job ∷ child ∷ ready) shards' (job ∷ child ∷ ready') (job ∷ ready2)
        (IsPermutation-cons job (child ∷ ready') ready2
        (subst (IsPermutation (child ∷ ready')) (sym e) (IsPermutation-sym (ready' ++ child ∷ []) (child ∷ ready') (IsPermutation-to_front ready' child))))
        (woken_after run seeds shards k (job ∷ child ∷ []) ready shards' ready' r settled w),
  )

  -- ---- as the code finds what follows

  module _ (f : Follows) (r : Replied run seeds shards ready job f) where
    pub ended_by : (e : End) → f ≡ follows.Ends e → Followed run seeds shards ready job f (progress.Ended e) shards' ready'
    ended_by e q = subst (λ g. Followed run seeds shards ready job g (progress.Ended e) shards' ready') (sym q) (ended_follows e (subst (Replied run seeds shards ready job) q r))

    pub over_by : f ≡ follows.Over → Followed run seeds shards ready job f progress.Left shards' ready'
    over_by q = subst (λ g. Followed run seeds shards ready job g progress.Left shards' ready') (sym q) (over_follows (subst (Replied run seeds shards ready job) q r))

    pub yields_by : (ready2 : List Task) → ready2 ≡ ready' ++ job ∷ [] → f ≡ follows.Yields → Followed run seeds shards ready job f progress.Left shards' ready2
    yields_by ready2 e q = subst (λ g. Followed run seeds shards ready job g progress.Left shards' ready2) (sym q) (yield_follows ready2 e (subst (Replied run seeds shards ready job) q r))

    pub goes_on_by : f ≡ follows.GoesOn → Followed run seeds shards ready job f (progress.GoesOn job) shards' ready'
    goes_on_by q = subst (λ g. Followed run seeds shards ready job g (progress.GoesOn job) shards' ready') (sym q) (on_follows (subst (Replied run seeds shards ready job) q r))

    pub makes_by : (child : Task) (ready2 : List Task) → ready2 ≡ ready' ++ child ∷ [] → f ≡ follows.Makes child → Followed run seeds shards ready job f (progress.GoesOn job) shards' ready2
    makes_by child ready2 e q = subst (λ g. Followed run seeds shards ready job g (progress.GoesOn job) shards' ready2) (sym q) (make_follows child ready2 e (subst (Replied run seeds shards ready job) q r))
