-- Locality: whether an entry fits depends on its task's, its shard's and its makers' entries alone.
use Rattle.std.proofs.Common.{◌≡◌, ℕ, ◌+◌, List, [], ◌∷◌, ◌++◌, Option, Some, None, Bool, true, false, cond, max, refl, sym, ap, ◌∙◌, subst, nat_eq, nat_lt, map, reverse}
use Rattle.std.specs.Prelude.{filter}
use Rattle.std.proofs.lemmas.Bool.{eq-eqb, eqb-true}
use Rattle.std.proofs.lemmas.List.{append-nil}
use Rattle.jt_base.specs.declared.operation.Reply.{Reply}
use Rattle.jt_base.specs.declared.entry.Entry.{Entry}
use Rattle.jt_base.specs.Coming.{Next, op_of}
use Rattle.jt_base.specs.declared.object.Object.{Object}
use Rattle.jt_base.specs.Objects.{shard_of_object}
use Rattle.jt_laws.specs.Entries.{same_path, same_object, object, shard, spawns, of_task, of_object, of_shard, below, top, reply_of, In, Rising}
use Rattle.jt_laws.specs.Seats.{seat_of, may_work}
use Rattle.jt_laws.specs.Objects.{reply_after}
use Rattle.jt_laws.specs.Histories.{World, Birth, birth_from, born_in, born_of, birth_at, birth_of, Fits, Stamps}
use Rattle.jt_laws.proofs.Paths.{same_itself, same_equal}
use Rattle.jt_histories.specs.Kept.{Kept, Same}
use Rattle.jt_histories.proofs.Lists.{or_else, by_test, same_object_true, in_filter, filter_in, filter_comm, filter_sub}

-- an object's entries are among its shard's
pub object_in_shard : (o : Object) (h : List Entry) → of_object o (of_shard (shard_of_object o) h) ≡ of_object o h
object_in_shard o h = filter_sub (λ x. same_object (object x) o) (λ x. nat_eq (shard x) (shard_of_object o)) h
    (λ x t. eq-eqb (shard x) (shard_of_object o) (ap shard_of_object (same_object_true (object x) o t)))

pub object_same : (o : Object) (h g : List Entry) → of_shard (shard_of_object o) h ≡ of_shard (shard_of_object o) g → of_object o h ≡ of_object o g
object_same o h g e = sym (object_in_shard o h) ∙ ap (of_object o) e ∙ object_in_shard o g

-- in a task's or a shard's part
pub in_task : (e : Entry) (h : List Entry) → In e h → In e (of_task e.task h)
in_task e h i = in_filter (λ x. same_path x.task e.task) e h i (same_itself e.task)

pub in_shard : (e : Entry) (h : List Entry) → In e h → In e (of_shard (shard e) h)
in_shard e h i = in_filter (λ x. nat_eq (shard x) (shard e)) e h i (eq-eqb (shard e) (shard e) refl)

pub task_in : (e : Entry) (p : List ℕ) (h : List Entry) → In e (of_task p h) → In e h × (e.task ≡ p)
task_in e p h i = let r = filter_in (λ x. same_path x.task p) e h i in (r.0, same_equal e.task p r.1)

pub shard_in : (e : Entry) (k : ℕ) (h : List Entry) → In e (of_shard k h) → In e h × (shard e ≡ k)
shard_in e k h i = let r = filter_in (λ x. nat_eq (shard x) k) e h i in (r.0, eqb-true (shard e) k r.1)

pub same_in : (h g : List Entry) (x : Entry) → Same h g → In x h → In x g
same_in h g x s i = (task_in x x.task g (subst (In x) (s.tasks x.task) (in_task x h i))).0

cond_more : {A : Type 0} (c : Bool) (hit one two : Option A) (b : A) → (one ≡ Some b → two ≡ Some b) → cond c hit one ≡ Some b → cond c hit two ≡ Some b
cond_more true hit one two b f e = e
cond_more false hit one two b f e = f e

-- a longer list of the maker's entries makes no other birth
pub born_more : (S : Type 0) (next : List Reply → Option (Next S)) (p : List ℕ) (before : List Reply) (own more : List Entry) (b : Birth S) → born_in next p before own ≡ Some b → born_in next p before (own ++ more) ≡ Some b
born_more S next p before [] more b e = absurd (cc)
born_more S next p before (x ∷ xs) more b e =
    cond_more (spawns x.op p) (birth_from x (next before)) _ _ b (born_more S next p (before ++ x.reply ∷ []) xs more b) e

-- where the maker's entries so far have the spawn, more of them change nothing
pub born_found : (S : Type 0) (next : List Reply → Option (Next S)) (p : List ℕ) (before : List Reply) (own more : List Entry) (x : Entry) → In x own → spawns x.op p ≡ true → born_in next p before (own ++ more) ≡ born_in next p before own
born_found S next p before [] more x i t = absurd i
born_found S next p before (y ∷ ys) more x i t = by_test (spawns y.op p)
    (λ c. ap (λ d. cond d (birth_from y (next before)) (born_in next p (before ++ y.reply ∷ []) (ys ++ more))) c ∙ sym (ap (λ d. cond d (birth_from y (next before)) (born_in next p (before ++ y.reply ∷ []) ys)) c))
    (λ c. or_else i
    (λ q. absurd (clash (spawns y.op p) c (ap (λ (z : Entry). spawns z.op p) q ∙ t)))
    (λ j. ap (λ d. cond (spawns y.op p) (birth_from y (next before)) d) (born_found S next p (before ++ y.reply ∷ []) ys more x j t)))
  where
    clash : (b : Bool) → b ≡ false → b ≡ true → ⊥
    clash b n y = cc

module _ (S : Type 0) (w : World S) where
  birth_step : (own own' : List ℕ → List Entry) → ((p : List ℕ) → (rest : List Entry) × (own' p ≡ own p ++ rest)) → (k : ℕ) (up : List ℕ) (b : Birth S) (o : Option (Birth S)) → birth_at S w own up ≡ o → ((c : Birth S) → birth_at S w own up ≡ Some c → birth_at S w own' up ≡ Some c) → born_of w.next (reverse up) (reverse (k ∷ up)) (own (reverse up)) o ≡ Some b → birth_at S w own' (k ∷ up) ≡ Some b
  birth_step own own' g k up b None q ih e = absurd (cc)
  birth_step own own' g k up b (Some c) q ih e =
      let i = ih c q in
      let m = born_more S (w.next (reverse up) c.start) (reverse (k ∷ up)) [] (own (reverse up)) (g (reverse up)).0 b e in
      ap (born_of w.next (reverse up) (reverse (k ∷ up)) (own' (reverse up))) i
      ∙ ap (born_in (w.next (reverse up) c.start) (reverse (k ∷ up)) []) (g (reverse up)).1
      ∙ m

  pub birth_more : (own own' : List ℕ → List Entry) → ((p : List ℕ) → (rest : List Entry) × (own' p ≡ own p ++ rest)) → (r : List ℕ) (b : Birth S) → birth_at S w own r ≡ Some b → birth_at S w own' r ≡ Some b
  birth_more own own' g [] b e = e
  birth_more own own' g (k ∷ up) b e = birth_step own own' g k up b (birth_at S w own up) refl (birth_more own own' g up) e

  -- an entry fits where its birth and its task's and shard's earlier entries are the same
  pub fits_moved : (all past all' past' : List Entry) (e : Entry) → Fits S w all past e → ((b : Birth S) → birth_of S w all e.task ≡ Some b → birth_of S w all' e.task ≡ Some b) → of_task e.task past' ≡ of_task e.task past → of_shard (shard e) past' ≡ of_shard (shard e) past → Fits S w all' past' e
  fits_moved all past all' past' e f b t k = record {
    birth = f.birth;
    born = b f.birth f.born;
    comes = ap (λ l. op_of (w.next e.task f.birth.start (map reply_of l))) t ∙ f.comes;
    allowed = ap (λ l. reply_after l e.task e.op) (object_same (object e) past' past k) ∙ f.allowed;
    works = ap (λ l. may_work w.sizes (seat_of w.sizes f.birth.maker l) e.worker) t ∙ f.works;
  }

  pub stamps_moved : (past past' : List Entry) (e : Entry) → Stamps S w past e → of_task e.task past' ≡ of_task e.task past → of_shard (shard e) past' ≡ of_shard (shard e) past → Stamps S w past' e
  stamps_moved past past' e f t k = record {
    stamped = f.stamped ∙ ap (λ l. max (top l) (top (of_shard (shard e) past)) + 1) (sym t) ∙ ap (λ l. max (top (of_task e.task past')) (top l) + 1) (sym k);
    within = f.within;
  }

  -- the earlier entries in another list with the same parts
  part_same : (f : Entry → Bool) (n : ℕ) (h g : List Entry) → filter f h ≡ filter f g → filter f (below n g) ≡ filter f (below n h)
  part_same f n h g e = filter_comm f (λ x. nat_lt x.stamp n) g ∙ ap (below n) (sym e) ∙ filter_comm (λ x. nat_lt x.stamp n) f h

  -- the locality of legality
  pub kept_same : (h g : List Entry) → Same h g → Kept S w h → Kept S w g
  kept_same h g s k = record {
    fits = λ e i. fits_moved h (below e.stamp h) g (below e.stamp g) e (k.fits e (back e i))
        (λ b o. birth_more (λ p. of_task p h) (λ p. of_task p g) (λ p. ([], sym (s.tasks p) ∙ sym (append-nil (of_task p h)))) (reverse e.task) b o)
        (part_same (λ x. same_path x.task e.task) e.stamp h g (s.tasks e.task))
        (part_same (λ x. nat_eq (shard x) (shard e)) e.stamp h g (s.shards (shard e)));
    stamps = λ e i. stamps_moved (below e.stamp h) (below e.stamp g) e (k.stamps e (back e i))
        (part_same (λ x. same_path x.task e.task) e.stamp h g (s.tasks e.task))
        (part_same (λ x. nat_eq (shard x) (shard e)) e.stamp h g (s.shards (shard e)));
    tasks_rise = λ p. subst Rising (s.tasks p) (k.tasks_rise p);
    shards_rise = λ n. subst Rising (s.shards n) (k.shards_rise n);
  }
    where
      back : (e : Entry) → In e g → In e h
      back e i = (task_in e e.task h (subst (In e) (sym (s.tasks e.task)) (in_task e g i))).0

pub object_from_shard : (o : Object) (h log : List Entry) → of_shard (shard_of_object o) h ≡ log → of_object o h ≡ of_object o log
object_from_shard o h log e = sym (object_in_shard o h) ∙ ap (of_object o) e
