-- A shard is asked a job's operation.
use Rattle.std.proofs.Common.{◌≡◌, ℕ, ◌+◌, ◌<◌, inl, inr, List, [], ◌∷◌, ◌++◌, Some, None, false, max, refl, sym, ap, ◌∙◌, subst, arith, length, map, get_or, set}
use Rattle.std.specs.Prelude.{slice_get}
use Rattle.std.specs.List.{All}
use Rattle.std.specs.List.Sorted.{IsPermutation}
use Rattle.std.proofs.lemmas.List.{length-set}
use Rattle.std.proofs.lemmas.List.Elements.{All-cons, All-head, All-tail}
use Rattle.std.proofs.lemmas.List.Sorted.{IsPermutation-refl, IsPermutation-trans, IsPermutation-sym, IsPermutation-middle, IsPermutation-append_right, IsPermutation-map, All-permutation}
use Rattle.jt_base.specs.declared.operation.Op.{Op}
use Rattle.jt_base.specs.declared.operation.Reply.{Reply}
use Rattle.jt_base.specs.declared.run.Seeds.{Seeds}
use Rattle.jt_base.specs.Coming.{op_of}
use Rattle.jt_base.specs.Jobs.{Held, note_reply, last_note}
use Rattle.jt_base.specs.Objects.{object_of, shard_of_object}
use Rattle.jt_laws.specs.Entries.{of_object, ends}
use Rattle.jt_laws.specs.Objects.{reply_after}
use Rattle.jt_laws.specs.Seats.{may_work}
use Rattle.jt_histories.specs.Jobs.{last_entry}
use Rattle.jt_histories.proofs.Orders.{shard_small}
use Rattle.jt_shard.specs.Calls.{Enters, IsAtStampLimit, Parks}
use Rattle.jt_shard.specs.Shards.{ShardState, object_for, reply_now, next_entry, next_stamp, MustWait, IsSettled, HasRoom}
use Rattle.jt_meaning.specs.declared.start.Start.{Start}
use Rattle.jt_meaning.specs.Run.{Run}
use Rattle.jt_meaning.specs.Next.{next_operation}
use Rattle.jt_step.specs.Tasks.{Task, ComesAfter, told_of, coming, coming_with}
use Rattle.jt_machine.specs.declared.run.End.TheVariants as end
use Rattle.jt_machine.specs.declared.progress.Follows.{Follows}
use Rattle.jt_machine.specs.declared.progress.Follows.TheVariants as follows
use Rattle.jt_machine.specs.declared.progress.Progress.{Progress}
use Rattle.jt_machine.specs.declared.progress.Progress.TheVariants as progress
use Rattle.jt_machine.specs.Machines.{logs_of, waiting_in, AreSettled, SettledBut, IsJob, IsWaiting, Runs, Ended, Falls, Grows, stamps_left, jobs_in}
use Rattle.jt_machine.specs.Runs.{world_of, worker_of, GrownByWorkers}
use Rattle.jt_machine.specs.Operations.{IsNext, Asks, left_by, Replied, Followed}
use Rattle.jt_machine.specs.Advancing.{Leaves, Serves}
use Rattle.jt_machine.proofs.Shelf.{jobs_of, get_set_same, set_twice, log_at, logs_same, waiting_same, stamps_set, room_of}
use Rattle.jt_machine.proofs.Moving.{Moves, moved_runs, moved_count, settled_set, settled_but, job_replaced}
use Rattle.jt_machine.proofs.Waking.{shard_read}
use Rattle.jt_machine.proofs.Entering.{asked, replied, stamps_fall, count_after, entry_grows}
use Rattle.jt_machine.proofs.Seated.{job_works}

-- ---- what is known of a job by its run and its description

abbrev bare : Run → Held Start → Task
bare run d = record { run = run; path = d.path; start = d.start; seat = d.seat; log = d.log; room = 0; taken = 0; failed = false }

module _ (run : Run) (o : Op) where
  bare_next : (t : Task) (f : Follows) → IsNext run t o f → IsNext run (bare t.run (told_of t)) o f
  bare_next t (follows.Ends e) n = n
  bare_next t follows.Over n = n
  bare_next t follows.Yields n = n
  bare_next t follows.GoesOn n = n
  bare_next t (follows.Makes c) n = record { path = n.path; start = n.start; spawn = n.spawn; comes = n.comes; made = n.made; how = n.how; body = n.body }

  next_bare : (t : Task) (f : Follows) → IsNext run (bare t.run (told_of t)) o f → IsNext run t o f
  next_bare t (follows.Ends e) n = n
  next_bare t follows.Over n = n
  next_bare t follows.Yields n = n
  next_bare t follows.GoesOn n = n
  next_bare t (follows.Makes c) n = record { path = n.path; start = n.start; spawn = n.spawn; comes = n.comes; made = n.made; how = n.how; body = n.body }

module _ (run : Run) (t u : Task) (told : told_of u ≡ told_of t) (same_run : u.run ≡ t.run) where
  same_bare : bare u.run (told_of u) ≡ bare t.run (told_of t)
  same_bare = ap (λ r. bare r (told_of u)) same_run ∙ ap (λ (d : Held Start). bare t.run d) told

  pub job_same : IsJob run t → IsJob run u
  job_same j =
      let k = subst (λ (v : Task). (v.run ≡ run) × (op_of (coming v) ≡ Some j.comes.0)) (sym same_bare) (j.of_run, j.comes.1) in
      record { of_run = k.0; comes = (j.comes.0, k.1) }

  pub asks_same : (o : Op) (f : Follows) → Asks run t o f → Asks run u o f
  asks_same o f a =
      record {
        follows = next_bare run o u f (subst (λ v. IsNext run v o f) (sym same_bare) (bare_next run o t f a.follows));
        goes_on = λ r c. subst (λ (v : Task). ComesAfter (ends o) (coming_with v r)) (sym same_bare) (a.goes_on r c);
      }

-- ---- one step

module _ (run : Run) (seeds : Seeds) (shards : List (ShardState Task)) (ready : List Task) (job : Task) (o : Op) (f : Follows) (k : ℕ)
    (runs : Runs run seeds shards (job ∷ ready)) (settled : AreSettled shards) (asks : Asks run job o f) (here : k ≡ shard_of_object (object_for told_of job o))
    (worker : ℕ) (by : worker ≡ worker_of run.sizes job.seat) where
  pub within : k < length shards
  within = let s = shard_small (object_for told_of job o) in let l = runs.sixteen in omega (arith, s, l, here)

  module _ (s0 : ShardState Task) (read : s0 ≡ get_or shards k s0) (s1 : ShardState Task) (kept : s1 ≡ record s0 { reserved = s1.reserved }) (job1 : Task) (told : told_of job1 ≡ told_of job) (same_run : job1.run ≡ job.run) where
    at0 : slice_get shards k ≡ Some s0
    at0 = shard_read shards k s0 within read

    at1 : slice_get (set shards k s1) k ≡ Some s1
    at1 = get_set_same shards k s0 s1 at0

    pub within1 : k < length (set shards k s1)
    within1 = let l = length-set shards k s1 in let w = within in omega (arith, l, w)

    by_now : worker ≡ worker_of run.sizes job1.seat
    by_now = by ∙ ap (λ (d : Held Start). worker_of run.sizes d.seat) (sym told)

    job_now : IsJob run job1
    job_now = job_same run job job1 told same_run (All-head (IsJob run) job ready runs.each_job)

    asks_now : Asks run job1 o f
    asks_now = asks_same run job job1 told same_run o f asks

    runs_now : Runs run seeds (set shards k s1) (job1 ∷ ready)
    runs_now =
        job_replaced run seeds (set shards k s1) job job1 ready told job_now
        (moved_runs run seeds shards k s0 s1 (job ∷ ready) (job ∷ ready) runs at0 (record {
          number = ap (λ (t : ShardState Task). t.number) kept;
          events = ap (λ (t : ShardState Task). t.events) kept;
          log = ap (λ (t : ShardState Task). t.log) kept;
          waiting = subst (All (IsWaiting run k)) (sym (ap (λ (t : ShardState Task). t.waiting) kept)) (runs.each_shard k s0 at0).waiting;
          each_job = runs.each_job;
          moved = subst (λ ws. IsPermutation ((job ∷ ready) ++ jobs_of s0.waiting) ((job ∷ ready) ++ jobs_of ws)) (sym (ap (λ (t : ShardState Task). t.waiting) kept)) (IsPermutation-refl ((job ∷ ready) ++ jobs_of s0.waiting));
        }))

    own_settled : IsSettled told_of s1
    own_settled = subst (IsSettled told_of) (sym kept) (settled k s0 at0)

    settled_now : AreSettled (set shards k s1)
    settled_now = settled_set shards k s1 (λ j t e n. settled j t e) own_settled

    stamps_now : stamps_left (set shards k s1) ≡ stamps_left shards
    stamps_now =
        let rooms : room_of s1 ≡ room_of s0 = ap room_of kept in
        let sums = stamps_set shards k s0 s1 at0 in omega (arith, rooms, sums)

    count_now : jobs_in (set shards k s1) (job1 ∷ ready) ≡ jobs_in shards (job ∷ ready)
    count_now = ap (λ l. length ((job1 ∷ ready) ++ l)) (waiting_same shards k s0 s1 at0 (ap (λ (t : ShardState Task). t.waiting) kept))

    grows_now : Grows run seeds shards (set shards k s1)
    grows_now from g = subst (GrownByWorkers Start (world_of run seeds) from) (sym (logs_same shards k s0 s1 at0 (ap (λ (t : ShardState Task). t.log) kept))) g

    here_now : shard_of_object (object_for told_of job1 o) ≡ k
    here_now = ap (λ (d : Held Start). shard_of_object (object_of d.path o)) told ∙ sym here

    module _ (s : ShardState Task) (read1 : s ≡ get_or (set shards k s1) k s) where
      same : s ≡ s1
      same = let both : Some s ≡ Some s1 = sym (shard_read (set shards k s1) k s within1 read1) ∙ at1 in cc

      pub asks_here : shard_of_object (object_for told_of job1 o) ≡ s.number
      asks_here = here_now ∙ sym (runs_now.each_shard k s1 at1).number ∙ sym (ap (λ (t : ShardState Task). t.number) same)

      pub asks_room : HasRoom told_of (λ (t : Task). t.room) s1 job1 o → HasRoom told_of (λ (t : Task). t.room) s job1 o
      asks_room r = subst (λ t. HasRoom told_of (λ (t : Task). t.room) t job1 o) (sym same) r

      pub asks_settled : IsSettled told_of s
      asks_settled = subst (IsSettled told_of) (sym same) own_settled

      module _ (s2 : ShardState Task) (job2 : Task) where
        -- ---- it is answered

        module _ (reply : Reply) (enters : Enters told_of s job1 o worker reply s2 job2) (run2 : job2.run ≡ job1.run) where
          enters_now : Enters told_of s1 job1 o worker reply s2 job2
          enters_now = subst (λ t. Enters told_of t job1 o worker reply s2 job2) same enters

          pub done_replied : Replied run seeds (set (set shards k s1) k s2) ready job2 f
          done_replied = replied run seeds (set shards k s1) ready job1 o f k s1 s2 job2 reply runs_now asks_now at1 here_now worker by_now enters_now run2

          pub done_settled : SettledBut k (set (set shards k s1) k s2)
          done_settled = settled_but (set shards k s1) k s2 settled_now

          pub done_within : k < length (set (set shards k s1) k s2)
          done_within = let l = length-set (set shards k s1) k s2 in let w = within1 in omega (arith, l, w)

          further : (shards3 : List (ShardState Task)) (jobs3 : List Task) → stamps_left shards3 ≡ stamps_left (set (set shards k s1) k s2) → stamps_left shards3 < stamps_left shards
          further shards3 jobs3 e = let a = stamps_fall run seeds (set shards k s1) ready job1 o f k s1 s2 job2 reply runs_now asks_now at1 here_now worker by_now enters_now run2 in let b = stamps_now in omega (arith, a, b, e)

          falls : (shards3 : List (ShardState Task)) (jobs3 : List Task) (ready3 : ℕ) → stamps_left shards3 ≡ stamps_left (set (set shards k s1) k s2) → jobs_in shards3 jobs3 ≡ jobs_in (set (set shards k s1) k s2) (left_by job2 f ++ ready) → Falls shards (job ∷ ready) (length ready) shards3 jobs3 ready3
          falls shards3 jobs3 ready3 e c =
              let a = further shards3 jobs3 e in
              let n = count_after run seeds (set shards k s1) ready job1 o f k s1 s2 job2 reply runs_now asks_now at1 here_now worker by_now enters_now run2 in
              let m = count_now in
              record { total = omega (arith, a, n, m, c); fewer = inl a }

          done_grows : (shards3 : List (ShardState Task)) → logs_of shards3 ≡ logs_of (set (set shards k s1) k s2) → Grows run seeds shards shards3
          done_grows shards3 e from g =
              subst (GrownByWorkers Start (world_of run seeds) from) (sym e)
              (entry_grows run seeds (set shards k s1) ready job1 o f k s1 s2 job2 reply runs_now asks_now at1 here_now worker by_now enters_now run2 from (grows_now from g))

          pub done_serves : (t : Progress) (shards3 : List (ShardState Task)) (ready3 : List Task) → Followed run seeds (set (set shards k s1) k s2) ready job2 f t shards3 ready3 → Serves run seeds shards ready job t shards3 ready3
          done_serves (progress.GoesOn job3) shards3 ready3 g = (
            record { runs = g.1.runs; settled = g.1.settled; grows = done_grows shards3 g.1.logs; falls = falls shards3 (job3 ∷ ready3) (length ready3) g.1.stamps g.1.count },
            further shards3 (job3 ∷ ready3) g.1.stamps,
          )
          done_serves progress.Left shards3 ready3 g = record { runs = g.runs; settled = g.settled; grows = done_grows shards3 g.logs; falls = falls shards3 ready3 (length ready3) g.stamps g.count }
          done_serves (progress.Ended e) shards3 ready3 g = (g.0, done_grows shards3 g.1)

        -- ---- it isn't, and nothing changed

        module _ (shard2 : s2 ≡ s) (same2 : job2 ≡ job1) where
          pub still : set (set shards k s1) k s2 ≡ set shards k s1
          still = set_twice shards k s1 s2 ∙ ap (λ t. set shards k t) (shard2 ∙ same)

          -- the limit on stamps
          limit_ends : (given : Op) → IsAtStampLimit told_of s job1 o given s2 job2 → Ended run seeds (set (set shards k s1) k s2) end.EventLimit
          limit_ends given m = subst (λ l. Ended run seeds l end.EventLimit) (sym still) (record {
            jobs = map told_of ((job1 ∷ ready) ++ waiting_in (set shards k s1));
            holds = runs_now.holds;
            ends = (
              runs_now.goes_on,
              told_of job1,
              next_entry told_of s1.log job1 o worker m.allowed.0,
              inl refl,
              record {
                task = refl;
                comes = subst (λ r. op_of (next_operation r job1.path job1.start (map note_reply job1.log)) ≡ Some o) job_now.of_run (asked run job1 o f asks_now.follows);
                allowed = ap (λ l. reply_after (of_object (object_for told_of job1 o) l) job1.path o) (log_here ∙ sym (ap (λ (t : ShardState Task). t.log) same)) ∙ m.allowed.1;
                works = ap (may_work run.sizes job1.seat) by_now ∙ job_works run seeds (logs_of (set shards k s1)) (map told_of ((job1 ∷ ready) ++ waiting_in (set shards k s1))) runs.worker runs_now.holds (told_of job1) (inl refl);
                beyond = beyond m;
              },
            );
          })
            where
              log_here : get_or (logs_of (set shards k s1)) (shard_of_object (object_for told_of job1 o)) [] ≡ s1.log
              log_here = ap (λ n. get_or (logs_of (set shards k s1)) n []) here_now ∙ log_at (set shards k s1) k s1 at1

              beyond : IsAtStampLimit told_of s job1 o given s2 job2 → run.limits.events < max (last_note job1.log) (last_entry (get_or (logs_of (set shards k s1)) (shard_of_object (object_for told_of job1 o)) [])) + 1
              beyond m =
                  subst (λ l. run.limits.events < max (last_note job1.log) (last_entry l) + 1) (sym log_here)
                  (subst (λ n. n < next_stamp told_of s1.log job1) (runs_now.each_shard k s1 at1).events
                  (subst (λ (t : ShardState Task). t.events < next_stamp told_of t.log job1) same m.beyond))

          pub limit_serves : (given : Op) → IsAtStampLimit told_of s job1 o given s2 job2 → Ended run seeds (set (set shards k s1) k s2) end.EventLimit × Grows run seeds shards (set (set shards k s1) k s2)
          limit_serves given m = (limit_ends given m, subst (Grows run seeds shards) (sym still) grows_now)

          -- the job waits
          module _ (given : Op) (op_same : given ≡ o) (s3 : ShardState Task) (parks : Parks told_of s1 job1 o s3) (settled3 : IsSettled told_of s3) where
            waits : IsWaiting run k (job1, o)
            waits = record { job = job_now; comes = asked run job1 o f asks_now.follows; here = here_now }

            moves : Moves run k s1 (job1 ∷ ready) s3 ready
            moves =
                let own = runs_now.each_shard k s1 at1 in
                record {
                  number = ap (λ (t : ShardState Task). t.number) parks.kept;
                  events = ap (λ (t : ShardState Task). t.events) parks.kept;
                  log = ap (λ (t : ShardState Task). t.log) parks.kept;
                  waiting = All-permutation (IsWaiting run k) ((job1, o) ∷ s1.waiting) s3.waiting parks.waiting (All-cons (IsWaiting run k) (job1, o) s1.waiting waits own.waiting);
                  each_job = All-tail (IsJob run) job1 ready runs_now.each_job;
                  moved = IsPermutation-trans ((job1 ∷ ready) ++ jobs_of s1.waiting) (ready ++ job1 ∷ jobs_of s1.waiting) (ready ++ jobs_of s3.waiting)
                      (IsPermutation-sym (ready ++ job1 ∷ jobs_of s1.waiting) (job1 ∷ (ready ++ jobs_of s1.waiting)) (IsPermutation-middle ready job1 (jobs_of s1.waiting)))
                      (IsPermutation-append_right ready (job1 ∷ jobs_of s1.waiting) (jobs_of s3.waiting) (IsPermutation-map (λ (v : Task × Op). v.0) ((job1, o) ∷ s1.waiting) s3.waiting parks.waiting));
                }

            pub park_leaves : Leaves run seeds shards ready job (set (set (set shards k s1) k s2) k s3) ready (length ready)
            park_leaves =
                let now : set (set (set shards k s1) k s2) k s3 ≡ set (set shards k s1) k s3 = ap (λ l. set l k s3) still in
                let rooms : room_of s3 ≡ room_of s1 = ap room_of parks.kept in
                let sums = stamps_set (set shards k s1) k s1 s3 at1 in
                let before = stamps_now in
                let stamps : stamps_left (set (set shards k s1) k s3) ≡ stamps_left shards = omega (arith, rooms, sums, before) in
                let count = moved_count run seeds (set shards k s1) k s1 s3 (job1 ∷ ready) ready at1 moves ∙ count_now in
                subst (λ l. Leaves run seeds shards ready job l ready (length ready)) (sym now) (record {
                  runs = moved_runs run seeds (set shards k s1) k s1 s3 (job1 ∷ ready) ready runs_now at1 moves;
                  settled = settled_set (set shards k s1) k s3 (λ j t e n. settled_now j t e) settled3;
                  grows = λ from g. subst (GrownByWorkers Start (world_of run seeds) from) (sym (logs_same (set shards k s1) k s1 s3 at1 (ap (λ (t : ShardState Task). t.log) parks.kept))) (grows_now from g);
                  falls = record { total = omega (arith, stamps, count); fewer = inr (stamps, omega arith) };
                })

          -- as the code reads the shard again
          module _ (given : Op) (op_same : given ≡ o) (s4 : ShardState Task) (read4 : s4 ≡ get_or (set (set shards k s1) k s2) k s4) where
            same4 : s4 ≡ s1
            same4 =
                let w = within1 in let l = length-set (set shards k s1) k s2 in
                let inside : k < length (set (set shards k s1) k s2) = omega (arith, w, l) in
                let there = get_set_same (set shards k s1) k s1 s2 at1 in
                let both : Some s4 ≡ Some s2 = sym (shard_read (set (set shards k s1) k s2) k s4 inside read4) ∙ there in
                let one : s4 ≡ s2 = cc in one ∙ shard2 ∙ same

            pub park_here : shard_of_object (object_for told_of job2 given) ≡ s4.number
            park_here =
                ap (λ (t : Task). shard_of_object (object_for told_of t given)) same2 ∙ ap (λ x. shard_of_object (object_for told_of job1 x)) op_same
                ∙ here_now ∙ sym (runs_now.each_shard k s1 at1).number ∙ sym (ap (λ (t : ShardState Task). t.number) same4)

            pub park_waits : reply_now told_of s.log job1 o ≡ None → MustWait told_of s4.log (job2, given)
            park_waits n =
                ap (λ (t : Task). reply_now told_of s4.log t given) same2 ∙ ap (λ x. reply_now told_of s4.log job1 x) op_same
                ∙ ap (λ (t : ShardState Task). reply_now told_of t.log job1 o) (same4 ∙ sym same) ∙ n

            pub park_room : HasRoom told_of (λ (t : Task). t.room) s1 job1 o → HasRoom told_of (λ (t : Task). t.room) s4 job2 given
            park_room r =
                subst (λ t. HasRoom told_of (λ (t : Task). t.room) t job2 given) (sym same4)
                (subst (λ t. HasRoom told_of (λ (t : Task). t.room) s1 t given) (sym same2)
                (subst (λ x. HasRoom told_of (λ (t : Task). t.room) s1 job1 x) (sym op_same) r))

            pub park_by : (s3 : ShardState Task) → Parks told_of s4 job2 given s3 → (IsSettled told_of s4 → IsSettled told_of s3) → Leaves run seeds shards ready job (set (set (set shards k s1) k s2) k s3) ready (length ready)
            park_by s3 p w =
                park_leaves given op_same s3
                (subst (λ t. Parks told_of t job1 o s3) same4 (subst (λ t. Parks told_of s4 t o s3) same2 (subst (λ x. Parks told_of s4 job2 x s3) op_same p)))
                (w (subst (IsSettled told_of) (sym same4) own_settled))
