-- A task's seat: main is bound to worker 0, and another task may go to each worker of the default pool.
use Rattle.std.proofs.Common.{◌≡◌, ℕ, ◌≤◌, ◌⊎◌, inl, inr, List, [], ◌∷◌, ◌++◌, Option, Some, None, true, ◌&&◌, cond, refl, sym, ap, ◌∙◌, subst, reverse, map}
use Rattle.std.proofs.lemmas.Bool.{lt-ltb}
use Rattle.jt_base.specs.declared.entry.Entry.{Entry}
use Rattle.jt_base.specs.declared.operation.How.TheVariants.{Default, Interactive, Async, Chunk}
use Rattle.jt_base.specs.declared.operation.Op.{Op}
use Rattle.jt_base.specs.declared.operation.Op.TheVariants as op
use Rattle.jt_base.specs.declared.operation.Reply.{Reply}
use Rattle.jt_base.specs.declared.run.Pool.TheVariants as pool
use Rattle.jt_base.specs.declared.run.Seeds.{Seeds}
use Rattle.jt_base.specs.declared.run.Sizes.{Sizes}
use Rattle.jt_base.specs.Coming.{Next, Needs, Spawns, Over}
use Rattle.jt_base.specs.Jobs.{Seat, Held}
use Rattle.jt_laws.specs.Entries.{spawns, of_task, below, reply_of, In}
use Rattle.jt_laws.specs.Histories.{World, Birth, birth_from, born_in, born_of, birth_at, birth_of, IsLegalHistory}
use Rattle.jt_laws.specs.Seats.{main_seat, seat_by, first_seat, seat_after, seat_from, may_work}
use Rattle.jt_histories.specs.Jobs.{Has, Holds}
use Rattle.jt_histories.proofs.Lists.{or_else, by_test}
use Rattle.jt_histories.proofs.Locality.{task_in}
use Rattle.jt_histories.proofs.Stamped.{history_kept}
use Rattle.jt_meaning.specs.declared.start.Start.{Start}
use Rattle.jt_step.specs.Laws as law
use Rattle.jt_meaning.specs.Next.{IsLater}
use Rattle.jt_meaning.specs.Run.{Run}
use Rattle.jt_step.specs.Tasks.{IsTaskOp}
use Rattle.jt_machine.specs.Runs.{world_of, worker_of}

-- ---- the maker of a task is an entry of the history

some_same : {X : Type 0} (x y : X) → Some x ≡ Some y → x ≡ y
some_same x y e = cc

module _ (S : Type 0) where
  made_from : (e : Entry) (n : Option (Next S)) (b : Birth S) → birth_from e n ≡ Some b → b.maker ≡ Some e
  made_from e None b q = absurd (cc)
  made_from e (Some (Needs o)) b q = absurd (cc)
  made_from e (Some (Spawns o start)) b q = sym (ap (λ (z : Birth S). z.maker) (some_same (record { start = start; maker = Some e }) b q))
  made_from e (Some Over) b q = absurd (cc)

  made_in : (next : List Reply → Option (Next S)) (p : List ℕ) (before : List Reply) (own : List Entry) (b : Birth S) → born_in next p before own ≡ Some b → (x : Entry) × In x own × (b.maker ≡ Some x)
  made_in next p before [] b q = absurd (cc)
  made_in next p before (e ∷ es) b q = by_test (spawns e.op p)
      (λ y. (e, inl refl, made_from e (next before) b (sym (ap (λ t. cond t (birth_from e (next before)) (born_in next p (before ++ e.reply ∷ []) es)) y) ∙ q)))
      (λ n. let r = made_in next p (before ++ e.reply ∷ []) es b (sym (ap (λ t. cond t (birth_from e (next before)) (born_in next p (before ++ e.reply ∷ []) es)) n) ∙ q) in (r.0, inr r.1, r.2))

  made_of : (next : List ℕ → S → List Reply → Option (Next S)) (maker p : List ℕ) (own : List Entry) (o : Option (Birth S)) (b : Birth S) → born_of next maker p own o ≡ Some b → (x : Entry) × In x own × (b.maker ≡ Some x)
  made_of next maker p own None b q = absurd (cc)
  made_of next maker p own (Some birth) b q = made_in (next maker birth.start) p [] own b q

  made_at : (w : World S) (own : List ℕ → List Entry) (r : List ℕ) (b : Birth S) → birth_at S w own r ≡ Some b → (b.maker ≡ None) ⊎ ((x : Entry) × (p : List ℕ) × In x (own p) × (b.maker ≡ Some x))
  made_at w own [] b q = inl (sym (ap (λ (z : Birth S). z.maker) (some_same (record { start = w.main; maker = None }) b q)))
  made_at w own (k ∷ up) b q = let r = made_of w.next (reverse up) (reverse (k ∷ up)) (own (reverse up)) (birth_at S w own up) b q in inr (r.0, reverse up, r.1, r.2)

-- ---- the seats that tasks have

abbrev free_seat : Seat
free_seat = record { pool = pool.Default; bound = None }

abbrev IsPlain : Seat → Type 0
IsPlain seat = (seat ≡ main_seat) ⊎ (seat ≡ free_seat)

later_made : (sizes : Sizes) (o : Op) (w : ℕ) → IsLater o → IsPlain (seat_by sizes o w)
later_made sizes (op.Spawn path Default) w l = inr refl
later_made sizes (op.Spawn path Interactive) w l = absurd l
later_made sizes (op.Spawn path Async) w l = absurd l
later_made sizes (op.Spawn path (Chunk k)) w l = absurd l
later_made sizes o w l = inl refl

plain_made : (sizes : Sizes) (o : Op) (w : ℕ) → IsTaskOp o → IsPlain (seat_by sizes o w)
plain_made sizes o w (inl e) = inl (ap (λ x. seat_by sizes x w) e)
plain_made sizes o w (inr l) = later_made sizes o w l

later_stays : (seat : Seat) (o : Op) (w : ℕ) → IsLater o → seat_after seat o w ≡ seat
later_stays seat (op.Spawn path Default) w l = refl
later_stays seat (op.Spawn path Interactive) w l = absurd l
later_stays seat (op.Spawn path Async) w l = absurd l
later_stays seat (op.Spawn path (Chunk k)) w l = absurd l
later_stays seat o w l = refl

seat_stays : (seat : Seat) (o : Op) (w : ℕ) → IsTaskOp o → seat_after seat o w ≡ seat
seat_stays seat o w (inl e) = ap (λ x. seat_after seat x w) e
seat_stays seat o w (inr l) = later_stays seat o w l

seat_kept : (seat : Seat) (own : List Entry) → ((x : Entry) → In x own → IsTaskOp x.op) → seat_from seat own ≡ seat
seat_kept seat [] t = refl
seat_kept seat (e ∷ es) t = ap (λ s. seat_from s es) (seat_stays seat e.op e.worker (t e (inl refl))) ∙ seat_kept seat es (λ x i. t x (inr i))

plain_works : (sizes : Sizes) (seat : Seat) → 1 ≤ sizes.default → IsPlain seat → may_work sizes seat (worker_of sizes seat) ≡ true
plain_works sizes seat d (inl e) = ap (λ s. may_work sizes s (worker_of sizes s)) e ∙ ap (λ b. b && true) (lt-ltb 0 sizes.default d)
plain_works sizes seat d (inr e) = ap (λ s. may_work sizes s (worker_of sizes s)) e ∙ ap (λ b. b && true) (lt-ltb 0 sizes.default d)

module _ (run : Run) (seeds : Seeds) (h : List Entry) (legal : IsLegalHistory Start (world_of run seeds) h) where
  task_ops : (x : Entry) → In x h → IsTaskOp x.op
  task_ops x i =
      let f = (history_kept Start (world_of run seeds) h legal).fits x i in
      law.task_operation run x.task f.birth.start (map reply_of (of_task x.task (below x.stamp h))) x.op f.comes

  born_plain : (p : List ℕ) (b : Birth Start) → birth_of Start (world_of run seeds) h p ≡ Some b → IsPlain (first_seat run.sizes b.maker)
  born_plain p b q = or_else (made_at Start (world_of run seeds) (λ task. of_task task h) (reverse p) b q)
      (λ m. inl (ap (first_seat run.sizes) m))
      (λ m. subst (λ o. IsPlain (first_seat run.sizes o)) (sym m.3) (plain_made run.sizes m.0.op m.0.worker (task_ops m.0 (task_in m.0 m.1 h m.2).0)))

-- a worker may make the next entry of each job: the one that one of each pool makes it by
pub job_works : (run : Run) (seeds : Seeds) (logs : List (List Entry)) (jobs : List (Held Start)) → 1 ≤ run.sizes.default → Holds Start (world_of run seeds) logs jobs → (j : Held Start) → Has Start j jobs → may_work run.sizes j.seat (worker_of run.sizes j.seat) ≡ true
job_works run seeds logs jobs d holds j i =
    let b = holds.belong j i in
    let own : j.seat ≡ first_seat run.sizes b.birth.maker = b.seated ∙ seat_kept (first_seat run.sizes b.birth.maker) (of_task j.path holds.history)
    (λ x k. task_ops run seeds holds.history holds.legal x (task_in x j.path holds.history k).0) in
    plain_works run.sizes j.seat d (subst IsPlain (sym own) (born_plain run seeds holds.history holds.legal j.path b.birth b.born))
