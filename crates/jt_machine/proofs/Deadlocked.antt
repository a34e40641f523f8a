-- No job is ready, and each waiting job's operation isn't allowed.
use Rattle.std.proofs.Common.{◌≡◌, ℕ, zero, suc, ◌⊎◌, inl, inr, List, [], ◌∷◌, ◌++◌, Some, None, refl, sym, ap, ◌∙◌, subst, map, get_or}
use Rattle.std.specs.Prelude.{slice_get}
use Rattle.std.specs.List.{All}
use Rattle.std.proofs.lemmas.List.{map-append}
use Rattle.std.proofs.lemmas.List.Elements.{All-head, All-tail}
use Rattle.jt_base.specs.declared.operation.Op.{Op}
use Rattle.jt_base.specs.declared.run.Seeds.{Seeds}
use Rattle.jt_base.specs.Coming.{op_of}
use Rattle.jt_base.specs.Jobs.{Held, note_reply}
use Rattle.jt_base.specs.Objects.{object_of, shard_of_object}
use Rattle.jt_laws.specs.Entries.{of_object}
use Rattle.jt_laws.specs.Objects.{reply_after}
use Rattle.jt_histories.specs.Jobs.{Has}
use Rattle.jt_histories.specs.Rest.{AllStuck}
use Rattle.jt_histories.proofs.Lists.{or_else}
use Rattle.jt_shard.specs.Shards.{ShardState, MustWait, object_for}
use Rattle.jt_meaning.specs.declared.start.Start.{Start}
use Rattle.jt_meaning.specs.Run.{Run}
use Rattle.jt_meaning.specs.Next.{next_operation}
use Rattle.jt_step.specs.Tasks.{Task, told_of, coming}
use Rattle.jt_machine.specs.declared.run.End.TheVariants as end
use Rattle.jt_machine.specs.Machines.{logs_of, waiting_in, AreSettled, IsWaiting, Runs, Ended}
use Rattle.jt_machine.specs.Runs.{world_of}
use Rattle.jt_machine.proofs.Shelf.{jobs_of, log_at}

has_either : (j : Held Start) (xs ys : List (Held Start)) → Has Start j (xs ++ ys) → Has Start j xs ⊎ Has Start j ys
has_either j [] ys h = inr h
has_either j (x ∷ xs) ys h = or_else h (λ p. inl (inl p)) (λ q. or_else (has_either j xs ys q) (λ z. inl (inr z)) (λ z. inr z))

-- a job of a line, with what holds of the line
has_waiting : (P : Task × Op → Type 0) (ws : List (Task × Op)) (j : Held Start) → All P ws → Has Start j (map told_of (jobs_of ws)) → (w : Task × Op) × P w × (told_of w.0 ≡ j)
has_waiting P [] j a h = absurd h
has_waiting P (w ∷ ws) j a h = or_else h (λ p. (w, All-head P w ws a, p)) (λ q. has_waiting P ws j (All-tail P w ws a) q)

-- a job that waits, with what holds of its shard
found : (P : ℕ → ShardState Task → Type 0) (shards : List (ShardState Task)) (j : Held Start) → ((k : ℕ) (s : ShardState Task) → slice_get shards k ≡ Some s → P k s) → Has Start j (map told_of (waiting_in shards))
    → (k : ℕ) × (s : ShardState Task) × (slice_get shards k ≡ Some s) × P k s × Has Start j (map told_of (jobs_of s.waiting))
found P [] j a h = absurd h
found P (s ∷ ss) j a h = or_else (has_either j (map told_of (jobs_of s.waiting)) (map told_of (waiting_in ss)) (subst (Has Start j) (map-append told_of (jobs_of s.waiting) (waiting_in ss)) h))
    (λ x. (zero, s, refl, a zero s refl, x))
    (λ x. let r = found (λ k t. P (suc k) t) ss j (λ k t e. a (suc k) t e) x in (suc r.0, r.1, r.2, r.3, r.4))

module _ (run : Run) (seeds : Seeds) (shards : List (ShardState Task)) (runs : Runs run seeds shards []) (settled : AreSettled shards) where
  stuck : AllStuck Start (world_of run seeds) (logs_of shards) (map told_of (waiting_in shards))
  stuck j h o e =
      let f = found (λ k s. All (λ w. IsWaiting run k w × MustWait told_of s.log w) s.waiting) shards j (λ k s at i d l. ((runs.each_shard k s at).waiting i d l, settled k s at i d l)) h in
      let k = f.0 in let s = f.1 in
      let g = has_waiting (λ w. IsWaiting run k w × MustWait told_of s.log w) s.waiting j f.3 f.4 in
      let w = g.0 in
      let waits = g.1.0 in
      let here : coming w.0 ≡ next_operation run w.0.path w.0.start (map note_reply w.0.log) = ap (λ r. next_operation r w.0.path w.0.start (map note_reply w.0.log)) waits.job.of_run in
      let there : op_of (next_operation run w.0.path w.0.start (map note_reply w.0.log)) ≡ Some o = ap (λ (d : Held Start). op_of (next_operation run d.path d.start (map note_reply d.log))) g.2 ∙ e in
      let both : Some w.1 ≡ Some o = sym waits.comes ∙ ap op_of here ∙ there in
      let one : w.1 ≡ o = cc in
      let log : get_or (logs_of shards) k [] ≡ s.log = log_at shards k s f.2 in
      let at : get_or (logs_of shards) (shard_of_object (object_for told_of w.0 w.1)) [] ≡ s.log = ap (λ n. get_or (logs_of shards) n []) waits.here ∙ log in
      let now : reply_after (of_object (object_of w.0.path w.1) (get_or (logs_of shards) (shard_of_object (object_of w.0.path w.1)) [])) w.0.path w.1 ≡ None =
      ap (λ l. reply_after (of_object (object_of w.0.path w.1) l) w.0.path w.1) at ∙ g.1.1 in
      subst (λ (d : Held Start). reply_after (of_object (object_of d.path o) (get_or (logs_of shards) (shard_of_object (object_of d.path o)) [])) d.path o ≡ None) g.2
      (subst (λ x. reply_after (of_object (object_of w.0.path x) (get_or (logs_of shards) (shard_of_object (object_of w.0.path x)) [])) w.0.path x ≡ None) one now)

  nothing_ready : Ended run seeds shards end.Deadlock
  nothing_ready = record { jobs = map told_of (waiting_in shards); holds = runs.holds; ends = (runs.goes_on, stuck) }

-- as the code finds it
pub deadlocked : (run : Run) (seeds : Seeds) (shards shards1 : List (ShardState Task)) (ready : List Task) → shards1 ≡ shards → ready ≡ [] → Runs run seeds shards ready → AreSettled shards → Ended run seeds shards1 end.Deadlock
deadlocked run seeds shards shards1 ready q e r s = subst (λ l. Ended run seeds l end.Deadlock) (sym q) (nothing_ready run seeds shards (subst (Runs run seeds shards) e r) s)
