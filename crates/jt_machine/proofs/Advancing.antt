-- A job goes on up to its next operation.
use Rattle.std.proofs.Common.{◌≡◌, ℕ, ◌+◌, ◌-◌, ◌<◌, ◌≤◌, ◌⊎◌, inl, inr, List, [], ◌∷◌, Option, Some, None, Bool, true, false, cond, nat_eq, refl, sym, ap, ◌∙◌, subst, arith, length}
use Rattle.std.proofs.lemmas.List.{length-map}
use Rattle.std.proofs.lemmas.List.Elements.{All-head}
use Rattle.std.proofs.lemmas.Bool.{cases_lt}
use Rattle.jt_base.specs.declared.operation.Fault.{Fault}
use Rattle.jt_base.specs.declared.operation.How.{How}
use Rattle.jt_base.specs.declared.operation.How.TheVariants.{Default, Interactive, Async, Chunk}
use Rattle.jt_base.specs.declared.operation.Op.{Op}
use Rattle.jt_base.specs.declared.operation.Op.TheVariants as op
use Rattle.jt_base.specs.declared.run.Seeds.{Seeds}
use Rattle.jt_base.specs.declared.value.Value.{Value}
use Rattle.jt_base.specs.Coming.{Next, Needs, Spawns, Over, op_of, is_spawn}
use Rattle.jt_laws.specs.Tasks.{is_main}
use Rattle.jt_histories.specs.Kept.{made_path}
use Rattle.jt_program.specs.declared.program.Program.{Program}
use Rattle.jt_program.specs.View.{program_plan, body_plan}
use Rattle.jt_shard.specs.Shards.{ShardState}
use Rattle.jt_meaning.specs.declared.start.Start.{Start}
use Rattle.jt_step.specs.declared.task.Advance.{Advance}
use Rattle.jt_step.specs.declared.task.Advance.TheVariants as advance
use Rattle.jt_meaning.specs.Run.{Run}
use Rattle.jt_step.specs.Tasks.{Task, told_of, coming, needed, new_task, said, Says, Advances, GoesOn, AsksWell, IsTaskOp}
use Rattle.jt_machine.specs.declared.run.End.TheVariants as end
use Rattle.jt_machine.specs.declared.progress.Follows.{Follows}
use Rattle.jt_machine.specs.declared.progress.Follows.TheVariants as follows
use Rattle.jt_machine.specs.declared.progress.Progress.{Progress}
use Rattle.jt_machine.specs.declared.progress.Progress.TheVariants as progress
use Rattle.jt_machine.specs.Machines.{AreSettled, IsJob, Runs}
use Rattle.jt_machine.specs.Operations.{follows_by, follows_of, IsNext, Asks}
use Rattle.jt_machine.specs.Advancing.{CarriesOn, Serves}
use Rattle.jt_machine.proofs.Moving.{job_replaced}
use Rattle.jt_machine.proofs.Serving.{job_same}

-- ---- what an advance may ask

default_spawn : (path : List ℕ) (how : How) → IsTaskOp (op.Spawn path how) → how ≡ Default
default_spawn path how (inl e) = absurd (cc)
default_spawn path Default (inr l) = refl
default_spawn path Interactive (inr l) = absurd l
default_spawn path Async (inr l) = absurd l
default_spawn path (Chunk k) (inr l) = absurd l

no_makes : (m : Bool) (o : Op) (c : Task) → follows.Makes c ≡ follows_by m o → ⊥
no_makes true (op.End value) c e = cc
no_makes false (op.End value) c e = cc
no_makes true (op.Fail fault) c e = cc
no_makes false (op.Fail fault) c e = cc
no_makes m op.Yield c e = cc
no_makes m o c e = cc

needs_next : (run : Run) (t : Task) (o : Op) (f : Follows) → coming t ≡ Some (Needs o) → f ≡ follows_of t.path o → IsNext run t o f
needs_next run t o (follows.Ends e) n q = (n, q)
needs_next run t o follows.Over n q = (n, q)
needs_next run t o follows.Yields n q = (n, q)
needs_next run t o follows.GoesOn n q = (n, q)
needs_next run t o (follows.Makes c) n q = absurd (no_makes (is_main t.path) o c q)

-- ---- what an answer says where an operation comes next

pub data Answered (t : Task) (turns : ℕ) (a : Advance) (taken : ℕ) : Type 0 where
  goes : said a ≡ None → taken ≡ t.taken + turns → t.taken + turns < needed t → Answered t turns a taken
  stops : coming t ≡ said a → Answered t turns a taken

coming_some : (n : Option (Next Start)) (o : Op) → op_of n ≡ Some o → (m : Next Start) × (n ≡ Some m)
coming_some None o e = absurd (cc)
coming_some (Some m) o e = (m, refl)

answered : (t : Task) (turns : ℕ) (a : Advance) (taken : ℕ) (o : Op) → op_of (coming t) ≡ Some o → Says t turns a taken → Answered t turns a taken
answered t turns a taken o c s = by_turns (coming_some (coming t) o c) (cases_lt (t.taken + turns) (needed t))
  where
    by_turns : ((n : Next Start) × (coming t ≡ Some n)) → (t.taken + turns < needed t) ⊎ (needed t ≤ t.taken + turns) → Answered t turns a taken
    by_turns n (inl h) = goes (s.more n.0 n.1 h).0 (s.more n.0 n.1 h).1 h
    by_turns n (inr h) = stops (n.1 ∙ sym (s.stops n.0 n.1 h).0)

module _ (run : Run) (seeds : Seeds) (shards : List (ShardState Task)) (ready : List Task) (job job1 : Task) (turns : ℕ) (a : Advance)
    (runs : Runs run seeds shards (job ∷ ready)) (settled : AreSettled shards) (adv : Advances job turns a job1) where
  own : IsJob run job
  own = All-head (IsJob run) job ready runs.each_job

  same_told : told_of job1 ≡ told_of job
  same_told = ap told_of adv.kept

  same_run : job1.run ≡ job.run
  same_run = ap (λ (t : Task). t.run) adv.kept

  same_coming : coming job1 ≡ coming job
  same_coming = ap coming adv.kept

  pub advanced_runs : Runs run seeds shards (job1 ∷ ready)
  advanced_runs = job_replaced run seeds shards job job1 ready same_told (job_same run job job1 same_told same_run own) runs

  says : Answered job turns a job1.taken
  says = answered job turns a job1.taken own.comes.0 own.comes.1 adv.says

  -- it asks what comes next
  said_coming : (n : Next Start) → said a ≡ Some n → coming job1 ≡ Some n
  said_coming n e = by_answer says e
    where
      by_answer : Answered job turns a job1.taken → said a ≡ Some n → coming job1 ≡ Some n
      by_answer (goes m k h) q = absurd (let z = sym m ∙ q in cc)
      by_answer (stops k) q = same_coming ∙ k ∙ q

  pub never_over : a ≡ advance.Over → ⊥
  never_over e =
      let c = said_coming Over (ap said e) in
      let n : Some own.comes.0 ≡ None = sym own.comes.1 ∙ ap op_of (sym same_coming ∙ c) in cc

  -- more turns begin first
  pub more_turns : 0 < turns → a ≡ advance.More → CarriesOn run seeds shards ready job (progress.GoesOn job1) shards ready
  more_turns p e = (
    record { runs = advanced_runs; settled = settled; grows = λ l g. g; falls = record { total = omega arith; fewer = inr (refl, omega arith) } },
    inr (refl, by_answer says (ap said e)),
  )
    where
      by_answer : Answered job turns a job1.taken → said a ≡ None → run.limits.turns - job1.taken < run.limits.turns - job.taken
      by_answer (goes m k h) q = subst (λ (r : Run). r.limits.turns - job1.taken < r.limits.turns - job.taken) own.of_run (omega (arith, p, k, h))
      by_answer (stops k) q = let z : Some own.comes.0 ≡ None = sym own.comes.1 ∙ ap op_of (k ∙ q) in absurd (cc)

  -- an operation that makes no task
  pub needs_asks : (o : Op) (f : Follows) → GoesOn job1 a → a ≡ advance.Needs o → f ≡ follows_of job1.path o → Asks run job1 o f
  needs_asks o f g e q = record {
    follows = needs_next run job1 o f (said_coming (Needs o) (ap said e)) q;
    goes_on = λ r c. g o r (ap (λ x. op_of (said x)) e) c;
  }

  -- a spawn
  spawn_how : (o : Op) (start : Start) → AsksWell job1 a → a ≡ advance.Spawns o start → (path : List ℕ) × (o ≡ op.Spawn path Default) × (start.how ≡ Default)
  spawn_how o start w e =
      let h = w.how o start (ap said e) in
      let d : start.how ≡ Default = default_spawn h.0 start.how (subst IsTaskOp h.1 (w.asks o (ap (λ x. op_of (said x)) e))) in
      (h.0, h.1 ∙ ap (λ x. op.Spawn h.0 x) d, d)

  pub spawn_is : (o : Op) (start : Start) → AsksWell job1 a → a ≡ advance.Spawns o start → is_spawn o ≡ true
  spawn_is o start w e = ap is_spawn (spawn_how o start w e).1

  pub spawn_body : (o : Op) (start : Start) → AsksWell job1 a → a ≡ advance.Spawns o start → start.code < length run.program.tasks
  spawn_body o start w e = subst (λ (r : Run). start.code < length r.program.tasks) (same_run ∙ own.of_run) (w.body o start (ap said e))

  pub spawn_asks : (o : Op) (start : Start) (child : Task) → GoesOn job1 a → AsksWell job1 a → a ≡ advance.Spawns o start → child ≡ new_task run (made_path o) start job1.seat.pool → Asks run job1 o (follows.Makes child)
  spawn_asks o start child g w e q =
      let h = spawn_how o start w e in
      record {
        follows = record {
          path = h.0;
          start = start;
          spawn = h.1;
          comes = said_coming (Spawns o start) (ap said e);
          made = q ∙ ap (λ x. new_task run (made_path x) start job1.seat.pool) h.1;
          how = h.2;
          body = spawn_body o start w e;
        };
        goes_on = λ r c. g o r (ap (λ x. op_of (said x)) e) c;
      }

  -- what an operation of the job that was advanced leaves is left by the job
  pub served_carries : (t : Progress) (shards' : List (ShardState Task)) (ready' : List Task) → Serves run seeds shards ready job1 t shards' ready' → CarriesOn run seeds shards ready job t shards' ready'
  served_carries (progress.GoesOn job2) shards' ready' s = (record { runs = s.0.runs; settled = s.0.settled; grows = s.0.grows; falls = record { total = s.0.falls.total; fewer = s.0.falls.fewer } }, inl s.1)
  served_carries progress.Left shards' ready' s = record { runs = s.runs; settled = s.settled; grows = s.grows; falls = record { total = s.falls.total; fewer = s.falls.fewer } }
  served_carries (progress.Ended e) shards' ready' s = s

-- a program has as many bodies as its plan
pub many_bodies : (p : Program) → length (program_plan p).tasks ≡ length p.tasks
many_bodies p = length-map p.tasks body_plan

-- ---- what follows an operation

pub not_main : (p : List ℕ) → nat_eq (length p) 0 ≡ false → is_main p ≡ false
not_main [] e = absurd (cc)
not_main (x ∷ xs) e = refl

pub over_after_end : (p : List ℕ) (o : Op) (v : Value) → o ≡ op.End v → nat_eq (length p) 0 ≡ false → follows.Over ≡ follows_of p o
over_after_end p o v e n = sym (ap (follows_of p) e ∙ ap (λ b. cond b (follows.Ends end.Ok) follows.Over) (not_main p n))

pub over_after_fail : (p : List ℕ) (o : Op) (v : Fault) → o ≡ op.Fail v → nat_eq (length p) 0 ≡ false → follows.Over ≡ follows_of p o
over_after_fail p o v e n = sym (ap (follows_of p) e ∙ ap (λ b. cond b (follows.Ends (end.MainFailed v)) follows.Over) (not_main p n))
