-- An operation of a job has its entry.
use Rattle.std.proofs.Common.{◌≡◌, ℕ, zero, suc, ◌+◌, ◌-◌, ◌<◌, ◌≤◌, inl, List, [], ◌∷◌, ◌++◌, Option, Some, None, Bool, true, false, ◌&&◌, not, cond, max, refl, sym, ap, ◌∙◌, subst, arith, length, map, get_or, set, append_assoc}
use Rattle.std.specs.Prelude.{slice_get, if◌then◌else◌}
use Rattle.std.specs.List.{All}
use Rattle.std.proofs.lemmas.Bool.{false≢true, and_parts}
use Rattle.std.proofs.lemmas.List.{length-set, length-map, map_push, map-append, length-append}
use Rattle.std.proofs.lemmas.Option.{slice_get_within}
use Rattle.std.proofs.lemmas.List.Elements.{All-cons, All-head, All-tail}
use Rattle.jt_base.specs.declared.entry.Entry.{Entry}
use Rattle.jt_base.specs.declared.operation.Op.{Op}
use Rattle.jt_base.specs.declared.operation.Op.TheVariants as op
use Rattle.jt_base.specs.declared.operation.Reply.{Reply}
use Rattle.jt_base.specs.declared.run.Pool.TheVariants as pool
use Rattle.jt_base.specs.declared.run.Seeds.{Seeds}
use Rattle.jt_base.specs.Coming.{Next, Needs, Spawns, op_of}
use Rattle.jt_base.specs.Jobs.{Seat, Held, note_reply, last_note}
use Rattle.jt_base.specs.declared.object.Object.TheVariants as object_kind
use Rattle.jt_base.specs.Objects.{object_of, shard_of_object}
use Rattle.jt_laws.specs.Entries.{object, shard, of_object, ends}
use Rattle.jt_laws.specs.Lines.{is_main_end, main_end}
use Rattle.jt_laws.specs.Objects.{reply_after}
use Rattle.jt_laws.specs.Seats.{may_work, main_seat, seat_by}
use Rattle.jt_laws.specs.Tasks.{is_main, is_new, ok_if}
use Rattle.jt_laws.specs.Histories.{World}
use Rattle.jt_laws.proofs.Paths.{same_equal}
use Rattle.jt_laws.proofs.Possible.{possible}
use Rattle.jt_histories.specs.Jobs.{Makes, Holds, note_of, last_entry, last_entry_from, child_job, left_after, coming}
use Rattle.jt_histories.specs.Kept.{Laws, made_path}
use Rattle.jt_histories.proofs.Keeps.{entry_keeps}
use Rattle.jt_histories.proofs.Lists.{by_test}
use Rattle.jt_program.specs.Plan.{BodyPlan}
use Rattle.jt_shard.specs.Calls.{Enters}
use Rattle.jt_shard.specs.Shards.{ShardState, object_for, next_entry, next_stamp}
use Rattle.jt_shard.proofs.RunLaws.{laws_of}
use Rattle.jt_meaning.specs.declared.start.Start.{Start}
use Rattle.jt_step.specs.Laws as law
use Rattle.jt_meaning.specs.Run.{Run}
use Rattle.jt_meaning.specs.Next.{next_operation}
use Rattle.jt_step.specs.Tasks.{Task, told_of, coming_with, new_task, seat_at, ComesAfter}
use Rattle.jt_step.specs.Tasks as task
use Rattle.jt_machine.specs.declared.run.End.{End}
use Rattle.jt_machine.specs.declared.run.End.TheVariants as end
use Rattle.jt_machine.specs.declared.progress.Follows.{Follows}
use Rattle.jt_machine.specs.declared.progress.Follows.TheVariants as follows
use Rattle.jt_machine.specs.Machines.{logs_of, waiting_in, IsJob, IsWaiting, IsShard, main_end_in, Runs, EndsBy, Ended, Grows, stamps_left, jobs_in}
use Rattle.jt_machine.specs.Runs.{world_of, worker_of, GrownByWorkers}
use Rattle.jt_machine.specs.Operations.{follows_by, IsChild, IsNext, Asks, left_by, Replied}
use Rattle.jt_machine.proofs.Seated.{job_works}
use Rattle.jt_machine.proofs.Workers.{grown_more}
use Rattle.jt_machine.proofs.Shelf.{log_at, logs_set, set_each, waiting_same, stamps_set}

-- ---- the laws of a run's world

pub run_laws : (run : Run) (seeds : Seeds) → Laws Start (world_of run seeds)
run_laws run seeds = laws_of Start (world_of run seeds)
    (λ path start n. law.first_operation run path start n)
    (λ path start rs o. law.needs_no_spawn run path start rs o)
    (λ path start rs o t. law.spawns_next_child run path start rs o t)

-- ---- what comes next

none_comes : (n : Option (Next Start)) (o : Op) → n ≡ None → op_of n ≡ Some o → ⊥
none_comes n o e q = let z : None ≡ Some o = ap op_of (sym e) ∙ q in absurd (cc)

-- the operation that follows is the one that comes
pub asked : (run : Run) (t : Task) (o : Op) (f : Follows) → IsNext run t o f → op_of (task.coming t) ≡ Some o
asked run t o (follows.Ends e) n = ap op_of n.0
asked run t o follows.Over n = ap op_of n.0
asked run t o follows.Yields n = ap op_of n.0
asked run t o follows.GoesOn n = ap op_of n.0
asked run t o (follows.Makes child) n = ap op_of n.comes

-- ---- main's end

main_end_not : (o : Op) (path : List ℕ) → ends o ≡ false → ends o && is_main path ≡ false
main_end_not o path n = ap (λ b. b && is_main path) n

other_end_not : (o : Op) (path : List ℕ) → is_main path ≡ false → ends o && is_main path ≡ false
other_end_not o path n = ap (λ b. ends o && b) n ∙ either (ends o)
  where
    either : (b : Bool) → b && false ≡ false
    either true = refl
    either false = refl

end_push : (log : List Entry) (e : Entry) → main_end log ≡ None → main_end (log ++ e ∷ []) ≡ cond (is_main_end e) (Some e.op) None
end_push [] e n = refl
end_push (x ∷ xs) e n = by_test (is_main_end x)
    (λ y. absurd (let z : Some x.op ≡ None = sym (ap (λ b. cond b (Some x.op) (main_end xs)) y) ∙ n in cc))
    (λ y. ap (λ b. cond b (Some x.op) (main_end (xs ++ e ∷ []))) y ∙ end_push xs e (sym (ap (λ b. cond b (Some x.op) (main_end xs)) y) ∙ n))

-- an end of main stands in shard 0
pub end_shard : (e : Entry) → is_main_end e ≡ true → shard e ≡ 0
end_shard e y =
    let b = and_parts (ends e.op) (is_main e.task) y in
    let path : e.task ≡ [] = same_equal e.task [] b.1 in
    own e.op b.0 ∙ ap (λ p. shard_of_object (object_kind.Task p)) path
  where
    own : (o : Op) → ends o ≡ true → shard_of_object (object_of e.task o) ≡ shard_of_object (object_kind.Task e.task)
    own (op.End value) t = refl
    own (op.Fail fault) t = refl
    own o t = absurd (false≢true t)

still_goes_on : (logs : List (List Entry)) (k : ℕ) (log : List Entry) (e : Entry) → get_or logs k [] ≡ log → main_end_in logs ≡ None → is_main_end e ≡ false → main_end_in (set logs k (log ++ e ∷ [])) ≡ None
still_goes_on [] k log e q g n = g
still_goes_on (l ∷ ls) zero log e q g n = end_push log e (ap main_end (sym q) ∙ g) ∙ ap (λ b. cond b (Some e.op) None) n
still_goes_on (l ∷ ls) (suc k) log e q g n = g

main_ends : (logs : List (List Entry)) (k : ℕ) (log : List Entry) (e : Entry) → get_or logs k [] ≡ log → k < length logs → shard e ≡ k → main_end_in logs ≡ None → is_main_end e ≡ true → main_end_in (set logs k (log ++ e ∷ [])) ≡ Some e.op
main_ends [] k log e q h at g y = absurd (omega (arith, h))
main_ends (l ∷ ls) zero log e q h at g y = end_push log e (ap main_end (sym q) ∙ g) ∙ ap (λ b. cond b (Some e.op) None) y
main_ends (l ∷ ls) (suc k) log e q h at g y = let z = end_shard e y in absurd (omega (arith, z, at))

-- ---- the last stamp

last_from_push : (n : ℕ) (log : List Entry) (e : Entry) → last_entry_from n (log ++ e ∷ []) ≡ e.stamp
last_from_push n [] e = refl
last_from_push n (x ∷ xs) e = last_from_push x.stamp xs e

pub last_push : (log : List Entry) (e : Entry) → last_entry (log ++ e ∷ []) ≡ e.stamp
last_push log e = last_from_push 0 log e

pub body_at : (bodies : List BodyPlan) (i : ℕ) → i < length bodies → (b : BodyPlan) × (slice_get bodies i ≡ Some b)
body_at [] i h = absurd (omega (arith, h))
body_at (b ∷ bs) zero h = (b, refl)
body_at (b ∷ bs) (suc i) h = body_at bs i (omega (arith, h))

-- ---- one entry

module _ (run : Run) (seeds : Seeds) (shards : List (ShardState Task)) (ready : List Task) (job : Task) (o : Op) (f : Follows) (k : ℕ) (s s' : ShardState Task) (job' : Task) (reply : Reply)
    (runs : Runs run seeds shards (job ∷ ready)) (asks : Asks run job o f) (at : slice_get shards k ≡ Some s) (here : shard_of_object (object_for told_of job o) ≡ k)
    (worker : ℕ) (by : worker ≡ worker_of run.sizes job.seat) (enters : Enters told_of s job o worker reply s' job') (same_run : job'.run ≡ job.run) where
  abbrev entry : Entry
  entry = next_entry told_of s.log job o worker reply

  abbrev world : World Start
  world = world_of run seeds

  abbrev rest : List (Held Start)
  rest = map told_of (ready ++ waiting_in shards)

  own_job : IsJob run job
  own_job = All-head (IsJob run) job ready runs.each_job

  log_here : get_or (logs_of shards) k [] ≡ s.log
  log_here = log_at shards k s at

  made : Makes Start world (get_or (logs_of shards) (shard entry) []) (told_of job) entry
  made = record {
    task = refl;
    comes = subst (λ r. op_of (next_operation r job.path job.start (map note_reply job.log)) ≡ Some o) own_job.of_run (asked run job o f asks.follows);
    allowed = ap (λ l. reply_after (of_object (object entry) l) job.path o) (ap (λ n. get_or (logs_of shards) n []) here ∙ log_here) ∙ enters.allowed;
    works = ap (may_work run.sizes job.seat) by ∙ job_works run seeds (logs_of shards) (map told_of ((job ∷ ready) ++ waiting_in shards)) runs.worker runs.holds (told_of job) (inl refl);
    stamped = ap (λ l. max (last_note job.log) (last_entry l) + 1) (sym (ap (λ n. get_or (logs_of shards) n []) here ∙ log_here));
    within = subst (λ n. next_stamp told_of s.log job ≤ n) (runs.each_shard k s at).events enters.within;
  }

  -- the jobs after the entry
  kept : Holds Start world (set (logs_of shards) k (s.log ++ entry ∷ [])) (left_after Start world (told_of job) entry (coming Start world (told_of job)) ++ rest)
  kept =
      subst (λ l. Holds Start world (set (logs_of shards) k (l ++ entry ∷ [])) (left_after Start world (told_of job) entry (coming Start world (told_of job)) ++ rest)) log_here
      (subst (λ n. Holds Start world (set (logs_of shards) n (get_or (logs_of shards) n [] ++ entry ∷ [])) (left_after Start world (told_of job) entry (coming Start world (told_of job)) ++ rest)) here
      (entry_keeps Start world (run_laws run seeds) (logs_of shards) (told_of job) rest entry runs.holds made))

  comes_next : (n : Next Start) → task.coming job ≡ Some n → coming Start world (told_of job) ≡ Some n
  comes_next n e = subst (λ r. next_operation r job.path job.start (map note_reply job.log) ≡ Some n) own_job.of_run e

  log_after : s'.log ≡ s.log ++ entry ∷ []
  log_after = ap (λ (t : ShardState Task). t.log) enters.shard

  logs_after : logs_of (set shards k s') ≡ set (logs_of shards) k (s.log ++ entry ∷ [])
  logs_after = logs_set shards k s' ∙ ap (λ l. set (logs_of shards) k l) log_after

  waiting_after : waiting_in (set shards k s') ≡ waiting_in shards
  waiting_after = waiting_same shards k s s' at (ap (λ (t : ShardState Task). t.waiting) enters.shard)

  -- the same of the shards and of other lists of jobs that are equal
  holds_now : (left : List (Held Start)) (jobs : List Task) → Holds Start world (set (logs_of shards) k (s.log ++ entry ∷ [])) (left ++ rest) → map told_of jobs ≡ left → Holds Start world (logs_of (set shards k s')) (map told_of ((jobs ++ ready) ++ waiting_in (set shards k s')))
  holds_now left jobs h e =
      subst (λ ls. Holds Start world ls (map told_of ((jobs ++ ready) ++ waiting_in (set shards k s')))) (sym logs_after)
      (subst (λ js. Holds Start world (set (logs_of shards) k (s.log ++ entry ∷ [])) js) (jobs_now left jobs e) h)
    where
      jobs_now : (left : List (Held Start)) (jobs : List Task) → map told_of jobs ≡ left → left ++ rest ≡ map told_of ((jobs ++ ready) ++ waiting_in (set shards k s'))
      jobs_now left jobs e =
          ap (λ l. l ++ rest) (sym e) ∙ sym (map-append told_of jobs (ready ++ waiting_in shards))
          ∙ ap (map told_of) (sym (append_assoc jobs ready (waiting_in shards))) ∙ ap (λ l. map told_of ((jobs ++ ready) ++ l)) (sym waiting_after)

  shard_after : IsShard run k s'
  shard_after =
      let own = runs.each_shard k s at in
      record {
        number = ap (λ (t : ShardState Task). t.number) enters.shard ∙ own.number;
        events = ap (λ (t : ShardState Task). t.events) enters.shard ∙ own.events;
        waiting = subst (All (IsWaiting run k)) (sym (ap (λ (t : ShardState Task). t.waiting) enters.shard)) own.waiting;
      }

  goes_on_now : is_main_end entry ≡ false → main_end_in (logs_of (set shards k s')) ≡ None
  goes_on_now n = ap main_end_in logs_after ∙ (still_goes_on (logs_of shards) k s.log entry log_here runs.goes_on n)

  -- with these jobs in the place of the job
  runs_now : (jobs : List Task) → All (IsJob run) (jobs ++ ready) → Holds Start world (logs_of (set shards k s')) (map told_of ((jobs ++ ready) ++ waiting_in (set shards k s'))) → is_main_end entry ≡ false → Runs run seeds (set shards k s') (jobs ++ ready)
  runs_now jobs each h n = record {
    sixteen = length-set shards k s' ∙ runs.sixteen;
    worker = runs.worker;
    each_shard = set_each shards k s' (λ j t. IsShard run j t) (λ j t g m. runs.each_shard j t g) shard_after;
    each_job = each;
    holds = h;
    goes_on = goes_on_now n;
  }

  -- the job goes on
  job_after : ends o ≡ false → IsJob run job'
  job_after n =
      let now : (q : Op) × (op_of (coming_with job reply) ≡ Some q) = subst (λ b. ComesAfter b (coming_with job reply)) n (asks.goes_on reply (possible (of_object (object_for told_of job o) s.log) job.path o reply enters.allowed)) in
      let path : job'.path ≡ job.path = ap (λ (d : Held Start). d.path) enters.job in
      let start : job'.start ≡ job.start = ap (λ (d : Held Start). d.start) enters.job in
      let notes : job'.log ≡ job.log ++ note_of entry ∷ [] = ap (λ (d : Held Start). d.log) enters.job in
      let same : task.coming job' ≡ coming_with job reply =
      ap (λ r. next_operation r job'.path job'.start (map note_reply job'.log)) same_run
      ∙ ap (λ p. next_operation job.run p job'.start (map note_reply job'.log)) path
      ∙ ap (λ t. next_operation job.run job.path t (map note_reply job'.log)) start
      ∙ ap (λ l. next_operation job.run job.path job.start (map note_reply l)) notes
      ∙ ap (λ l. next_operation job.run job.path job.start l) (map_push note_reply job.log (note_of entry)) in
      record {
        of_run = same_run ∙ own_job.of_run;
        comes = (now.0, ap op_of same ∙ now.1);
      }

  ready_jobs : All (IsJob run) ready
  ready_jobs = All-tail (IsJob run) job ready runs.each_job

  -- after an operation that makes no task
  needs_left : task.coming job ≡ Some (Needs o) → Holds Start world (set (logs_of shards) k (s.log ++ entry ∷ [])) (cond (ends o) [] (told_of job' ∷ []) ++ rest)
  needs_left n =
      subst (λ d. Holds Start world (set (logs_of shards) k (s.log ++ entry ∷ [])) (cond (ends o) [] (d ∷ []) ++ rest)) (sym enters.job)
      (subst (λ m. Holds Start world (set (logs_of shards) k (s.log ++ entry ∷ [])) (left_after Start world (told_of job) entry m ++ rest)) (comes_next (Needs o) n) kept)

  over_left : task.coming job ≡ Some (Needs o) → ends o ≡ true → Holds Start world (logs_of (set shards k s')) (map told_of (([] ++ ready) ++ waiting_in (set shards k s')))
  over_left n y = holds_now [] [] (subst (λ b. Holds Start world (set (logs_of shards) k (s.log ++ entry ∷ [])) (cond b [] (told_of job' ∷ []) ++ rest)) y (needs_left n)) refl

  on_left : task.coming job ≡ Some (Needs o) → ends o ≡ false → Runs run seeds (set shards k s') (job' ∷ ready)
  on_left n y = runs_now (job' ∷ []) (All-cons (IsJob run) job' ready (job_after y) ready_jobs)
      (holds_now (told_of job' ∷ []) (job' ∷ []) (subst (λ b. Holds Start world (set (logs_of shards) k (s.log ++ entry ∷ [])) (cond b [] (told_of job' ∷ []) ++ rest)) y (needs_left n)) refl)
      (main_end_not o job.path y)

  -- main has ended by this entry
  ends_by : (x : Op) → o ≡ x → ends x ≡ true → is_main job.path ≡ true → main_end_in (logs_of (set shards k s')) ≡ Some x
  ends_by x e y q =
      ap main_end_in logs_after
      ∙ main_ends (logs_of shards) k s.log entry log_here (within_logs k s at) here runs.goes_on (ap (λ b. b && is_main job.path) (ap ends e ∙ y) ∙ q)
      ∙ ap (λ z. Some z) e
    where
      within_logs : (i : ℕ) (t : ShardState Task) → slice_get shards i ≡ Some t → i < length (logs_of shards)
      within_logs i t f = let l = length-map shards (λ (u : ShardState Task). u.log) in let w = slice_get_within shards i t f in omega (arith, l, w)

  ended_now : (x : Op) → o ≡ x → task.coming job ≡ Some (Needs o) → is_main job.path ≡ true → ends x ≡ true → (e : End) → EndsBy world (logs_of (set shards k s')) (map told_of (([] ++ ready) ++ waiting_in (set shards k s'))) e → Ended run seeds (set shards k s') e
  ended_now x e n q y t w = record { jobs = map told_of (([] ++ ready) ++ waiting_in (set shards k s')); holds = over_left n (ap ends e ∙ y); ends = w }

  over_now : (x : Op) → o ≡ x → task.coming job ≡ Some (Needs o) → is_main job.path ≡ false → ends x ≡ true → Runs run seeds (set shards k s') ready
  over_now x e n q y = runs_now [] ready_jobs (over_left n (ap ends e ∙ y)) (other_end_not o job.path q)

  -- ---- by what follows

  replied_needs : (x : Op) → o ≡ x → task.coming job ≡ Some (Needs o) → (m : Bool) → is_main job.path ≡ m → Replied run seeds (set shards k s') ready job' (follows_by m x)
  replied_needs (op.End value) e n true q = ended_now (op.End value) e n q refl end.Ok (value, ends_by (op.End value) e refl q)
  replied_needs (op.End value) e n false q = over_now (op.End value) e n q refl
  replied_needs (op.Fail fault) e n true q = ended_now (op.Fail fault) e n q refl (end.MainFailed fault) (ends_by (op.Fail fault) e refl q)
  replied_needs (op.Fail fault) e n false q = over_now (op.Fail fault) e n q refl
  replied_needs op.Yield e n m q = on_left n (ap ends e)
  replied_needs x e n m q = on_left n (ap ends e)

  -- ---- a task is made

  child_path : (c : Task) (n : IsChild run job o c) → is_main n.path ≡ false
  child_path c n =
      not_main (is_new (of_object (object_for told_of job o) s.log)) (is_main n.path) reply
      (ap (λ x. reply_after (of_object (object_for told_of job o) s.log) job.path x) (sym n.spawn) ∙ enters.allowed)
    where
      not_main : (a m : Bool) (r : Reply) → ok_if (a && not m) ≡ Some r → m ≡ false
      not_main a false r e = refl
      not_main true true r e = absurd (cc)
      not_main false true r e = absurd (cc)

  child_seat : (c : Task) (n : IsChild run job o c) → seat_at run.sizes n.path n.start.how job.seat.pool ≡ record { pool = pool.Default; bound = None }
  child_seat c n =
      ap (λ h. seat_at run.sizes n.path h job.seat.pool) n.how
      ∙ ap (λ b. if b then main_seat else record { pool = pool.Default; bound = None }) (child_path c n)

  child_told : (c : Task) (n : IsChild run job o c) → told_of c ≡ child_job Start world entry n.start
  child_told c n =
      ap told_of n.made
      ∙ ap (λ (t : Seat). record { path = n.path; start = n.start; seat = t; log = [] }) (child_seat c n ∙ sym (ap (λ x. seat_by run.sizes x worker) n.spawn))
      ∙ ap (λ p. record { path = p; start = n.start; seat = seat_by run.sizes o worker; log = [] }) (sym (ap made_path n.spawn))

  child_is_job : (c : Task) → IsChild run job o c → IsJob run c
  child_is_job c n =
      let b = body_at run.program.tasks n.start.code n.body in
      record {
        of_run = ap (λ (t : Task). t.run) n.made;
        comes = (op.Begin, ap (λ (t : Task). op_of (task.coming t)) n.made ∙ ap op_of (law.begins run n.path n.start b.0 b.1));
      }

  replied_spawn : (c : Task) → IsChild run job o c → Runs run seeds (set shards k s') (job' ∷ c ∷ ready)
  replied_spawn c n =
      let goes : ends o ≡ false = ap ends n.spawn in
      runs_now (job' ∷ c ∷ []) (All-cons (IsJob run) job' (c ∷ ready) (job_after goes) (All-cons (IsJob run) c ready (child_is_job c n) ready_jobs))
      (holds_now (told_of job' ∷ told_of c ∷ []) (job' ∷ c ∷ [])
      (subst (λ d. Holds Start world (set (logs_of shards) k (s.log ++ entry ∷ [])) (told_of job' ∷ d ∷ rest)) (sym (child_told c n))
      (subst (λ d. Holds Start world (set (logs_of shards) k (s.log ++ entry ∷ [])) (d ∷ child_job Start world entry n.start ∷ rest)) (sym enters.job)
      (subst (λ m. Holds Start world (set (logs_of shards) k (s.log ++ entry ∷ [])) (left_after Start world (told_of job) entry m ++ rest)) (comes_next (Spawns o n.start) n.comes) kept))) refl)
      (main_end_not o job.path goes)

  pub replied : Replied run seeds (set shards k s') ready job' f
  replied = by_next f asks.follows
    where
      by_next : (g : Follows) → IsNext run job o g → Replied run seeds (set shards k s') ready job' g
      by_next (follows.Ends e) n = subst (Replied run seeds (set shards k s') ready job') (sym n.1) (replied_needs o refl n.0 (is_main job.path) refl)
      by_next follows.Over n = subst (Replied run seeds (set shards k s') ready job') (sym n.1) (replied_needs o refl n.0 (is_main job.path) refl)
      by_next follows.Yields n = subst (Replied run seeds (set shards k s') ready job') (sym n.1) (replied_needs o refl n.0 (is_main job.path) refl)
      by_next follows.GoesOn n = subst (Replied run seeds (set shards k s') ready job') (sym n.1) (replied_needs o refl n.0 (is_main job.path) refl)
      by_next (follows.Makes c) n = replied_spawn c n

  -- ---- what is left

  pub stamps_fall : stamps_left (set shards k s') < stamps_left shards
  stamps_fall =
      let set_stamps = stamps_set shards k s s' at in
      let same : s'.events ≡ s.events = ap (λ (t : ShardState Task). t.events) enters.shard in
      let last : last_entry s'.log ≡ next_stamp told_of s.log job = ap last_entry log_after ∙ last_push s.log entry in
      let within = enters.within in
      falls (stamps_left (set shards k s')) (stamps_left shards) s.events s'.events (last_entry s.log) (last_entry s'.log) (last_note job.log) set_stamps same last within
    where
      falls : (a b x y l m n : ℕ) → a + (x - l) ≡ b + (y - m) → y ≡ x → m ≡ max n l + 1 → max n l + 1 ≤ x → a < b
      falls a b x y l m n e p q w = omega (arith, e, p, q, w)

  pub entry_grows : Grows run seeds shards (set shards k s')
  entry_grows from g =
      subst (λ ls. GrownByWorkers Start world from ls) (sym logs_after)
      (subst (λ l. GrownByWorkers Start world from (set (logs_of shards) k (l ++ entry ∷ []))) log_here
      (subst (λ n. GrownByWorkers Start world from (set (logs_of shards) n (get_or (logs_of shards) n [] ++ entry ∷ []))) here
      (grown_more Start world (run_laws run seeds) (logs_of shards) (told_of job) rest entry runs.holds made by from g)))

  pub count_after : jobs_in (set shards k s') (left_by job' f ++ ready) ≤ jobs_in shards (job ∷ ready) + 1
  count_after =
      let a = ap (λ l. length ((left_by job' f ++ ready) ++ l)) waiting_after in
      let b = length-append (left_by job' f ++ ready) (waiting_in shards) in
      let c = length-append (left_by job' f) ready in
      let d = length-append (job ∷ ready) (waiting_in shards) in
      let few = at_most f in
      omega (arith, a, b, c, d, few)
    where
      at_most : (g : Follows) → length (left_by job' g) ≤ 2
      at_most (follows.Ends e) = omega arith
      at_most follows.Over = omega arith
      at_most follows.Yields = omega arith
      at_most follows.GoesOn = omega arith
      at_most (follows.Makes c) = omega arith
