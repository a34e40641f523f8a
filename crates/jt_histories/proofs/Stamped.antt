-- One more entry at the end; and entries that were made one after another, seen by their stamps.
use Rattle.std.proofs.Common.{◌≡◌, ℕ, ◌<◌, ◌≤◌, List, [], ◌∷◌, ◌++◌, Some, Bool, true, inl, refl, sym, ap, ◌∙◌, subst, arith, nat_eq, nat_lt, map, reverse, append_assoc}
use Rattle.std.specs.Prelude.{filter}
use Rattle.std.proofs.lemmas.Bool.{lt-ltb, le-ltb, ltb-true, eq-eqb, eqb-true}
use Rattle.std.proofs.lemmas.List.{reverse-append, append-nil}
use Rattle.std.proofs.lemmas.List.Elements.{filter-append}
use Rattle.jt_base.specs.declared.entry.Entry.{Entry}
use Rattle.jt_base.specs.Coming.{op_of}
use Rattle.jt_base.specs.Objects.{object_of, shard_of_object}
use Rattle.jt_laws.specs.Entries.{same_path, same_object, object, shard, spawns, of_task, of_object, of_shard, below, reply_of, In, Each, Rising}
use Rattle.jt_laws.specs.Objects.{reply_after}
use Rattle.jt_laws.specs.Histories.{World, Birth, birth_at, Fits, Stamps, LegalFrom, StampedFrom, IsLegalRun, IsLegalHistory}
use Rattle.jt_laws.proofs.Paths.{same_itself, same_equal}
use Rattle.jt_histories.specs.Kept.{Kept, Laws}
use Rattle.jt_histories.proofs.Lists.{or_else, by_test, same_object_true, filter_yes, in_filter, filter_in, filter_none, filter_all, filter_push_yes, filter_push_no, filter_comm, in_right, in_either, each_in, top_bound, rising_push}
use Rattle.jt_histories.proofs.Locality.{in_task, task_in, birth_more, fits_moved, stamps_moved}
use Rattle.jt_histories.proofs.ObjectLaws.{begin_spawned}

-- a test under which the new entry isn't below n
pub unseen : (f : Entry → Bool) (n : ℕ) (h : List Entry) (e : Entry) → (f e ≡ true → n ≤ e.stamp) → filter f (below n (h ++ e ∷ [])) ≡ filter f (below n h)
unseen f n h e l = by_test (nat_lt e.stamp n)
    (λ y. ap (filter f) (filter_push_yes (λ x. nat_lt x.stamp n) h e y) ∙ by_test (f e)
    (λ t. let g : n ≤ e.stamp = l t in let s : e.stamp < n = ltb-true e.stamp n y in absurd (omega arith))
    (λ t. filter_push_no f (below n h) e t))
    (λ z. ap (filter f) (filter_push_no (λ x. nat_lt x.stamp n) h e z))

pub all_below : (f : Entry → Bool) (n : ℕ) (h : List Entry) → ((x : Entry) → In x h → f x ≡ true → x.stamp < n) → filter f (below n h) ≡ filter f h
all_below f n h b = filter_comm f (λ x. nat_lt x.stamp n) h ∙ filter_all (λ x. nat_lt x.stamp n) (filter f h)
    (λ x i. lt-ltb x.stamp n (b x (filter_in f x h i).0 (filter_in f x h i).1))

pub rise_more : (f : Entry → Bool) (h : List Entry) (e : Entry) → Rising (filter f h) → ((x : Entry) → In x h → f x ≡ true → f e ≡ true → x.stamp < e.stamp) → Rising (filter f (h ++ e ∷ []))
rise_more f h e r b = by_test (f e)
    (λ y. subst Rising (sym (filter_push_yes f h e y)) (rising_push (filter f h) e r (λ x i. b x (filter_in f x h i).0 (filter_in f x h i).1 y)))
    (λ n. subst Rising (sym (filter_push_no f h e n)) r)

rising_right : (x e : Entry) (xs ys : List Entry) → Each (λ y. x.stamp < y.stamp) (xs ++ e ∷ ys) → x.stamp < e.stamp
rising_right x e xs ys a = each_in (λ y. x.stamp < y.stamp) (xs ++ e ∷ ys) e a (in_right e xs (e ∷ ys) (inl refl))

pub rising_before : (xs : List Entry) (e : Entry) (ys : List Entry) → Rising (xs ++ e ∷ ys) → (x : Entry) → In x xs → x.stamp < e.stamp
rising_before [] e ys r x i = absurd i
rising_before (y ∷ xs) e ys r x i = or_else i
    (λ p. subst (λ (v : Entry). v.stamp < e.stamp) p (rising_right y e xs ys r.0))
    (λ j. rising_before xs e ys r.1 x j)

pub rising_after : (xs : List Entry) (e : Entry) (ys : List Entry) → Rising (xs ++ e ∷ ys) → (x : Entry) → In x ys → e.stamp < x.stamp
rising_after [] e ys r x i = each_in (λ y. e.stamp < y.stamp) ys x r.0 i
rising_after (y ∷ xs) e ys r x i = rising_after xs e ys r.1 x i

pub list_below : (front : List Entry) (e : Entry) (back : List Entry) → Rising (front ++ e ∷ back) → below e.stamp (front ++ e ∷ back) ≡ front
list_below front e back r =
    filter-append (λ x. nat_lt x.stamp e.stamp) front (e ∷ back)
    ∙ ap (λ l. l ++ below e.stamp (e ∷ back)) (filter_all (λ x. nat_lt x.stamp e.stamp) front (λ x i. lt-ltb x.stamp e.stamp (rising_before front e back r x i)))
    ∙ ap (λ l. front ++ l) (filter_none (λ x. nat_lt x.stamp e.stamp) (e ∷ back) (λ x i. or_else i
    (λ p. let q : e.stamp ≡ x.stamp = ap (λ (v : Entry). v.stamp) p in le-ltb x.stamp e.stamp (omega arith))
    (λ j. let q : e.stamp < x.stamp = rising_after front e back r x j in le-ltb x.stamp e.stamp (omega arith))))
    ∙ append-nil front

-- where a task's or a shard's stamps rise, its entries before one are those with a smaller stamp
pub part_below : (f : Entry → Bool) (xs : List Entry) (e : Entry) (ys : List Entry) → f e ≡ true → Rising (filter f (xs ++ e ∷ ys)) → filter f (below e.stamp (xs ++ e ∷ ys)) ≡ filter f xs
part_below f xs e ys t r =
    let parts : filter f (xs ++ e ∷ ys) ≡ filter f xs ++ e ∷ filter f ys = filter-append f xs (e ∷ ys) ∙ ap (λ l. filter f xs ++ l) (filter_yes f e ys t) in
    let r2 : Rising (filter f xs ++ e ∷ filter f ys) = subst Rising parts r in
    filter_comm f (λ x. nat_lt x.stamp e.stamp) (xs ++ e ∷ ys)
    ∙ ap (below e.stamp) parts
    ∙ filter-append (λ x. nat_lt x.stamp e.stamp) (filter f xs) (e ∷ filter f ys)
    ∙ ap (λ l. l ++ below e.stamp (e ∷ filter f ys)) (filter_all (λ x. nat_lt x.stamp e.stamp) (filter f xs) (λ x i. lt-ltb x.stamp e.stamp (rising_before (filter f xs) e (filter f ys) r2 x i)))
    ∙ ap (λ l. filter f xs ++ l) (filter_none (λ x. nat_lt x.stamp e.stamp) (e ∷ filter f ys) (λ x i. or_else i
    (λ p. let q : e.stamp ≡ x.stamp = ap (λ (v : Entry). v.stamp) p in le-ltb x.stamp e.stamp (omega arith))
    (λ j. let q : e.stamp < x.stamp = rising_after (filter f xs) e (filter f ys) r2 x j in le-ltb x.stamp e.stamp (omega arith))))
    ∙ append-nil (filter f xs)

pub first_in : (l : List Entry) (e : Entry) → Rising l → In e l → (b : Entry) × In b l × ((x : Entry) → In x l → b.stamp ≤ x.stamp)
first_in [] e r i = absurd i
first_in (x ∷ xs) e r i = (
  x,
  inl refl,
  λ y j. or_else j
      (λ p. let q : x.stamp ≡ y.stamp = ap (λ (v : Entry). v.stamp) p in omega arith)
      (λ k. let q : x.stamp < y.stamp = each_in (λ v. x.stamp < v.stamp) xs y r.0 k in omega arith),
)

pub rev_cons : (k : ℕ) (up : List ℕ) → reverse (k ∷ up) ≡ reverse up ++ k ∷ []
rev_cons k up = reverse-append (k ∷ []) up

module _ (S : Type 0) (w : World S) where
  -- an entry that is stamped is later than all of its task and of its shard
  pub later_task : (h : List Entry) (e : Entry) → Stamps S w h e → (x : Entry) → In x h → same_path x.task e.task ≡ true → x.stamp < e.stamp
  later_task h e f x i t =
      let b = top_bound (of_task e.task h) x (in_filter (λ y. same_path y.task e.task) x h i t) in
      let s = f.stamped in omega (arith, b, s)

  pub later_shard : (h : List Entry) (e : Entry) → Stamps S w h e → (x : Entry) → In x h → nat_eq (shard x) (shard e) ≡ true → x.stamp < e.stamp
  later_shard h e f x i t =
      let b = top_bound (of_shard (shard e) h) x (in_filter (λ y. nat_eq (shard y) (shard e)) x h i t) in
      let s = f.stamped in omega (arith, b, s)

  birth_push : (h : List Entry) (e : Entry) (r : List ℕ) (b : Birth S) → birth_at S w (λ p. of_task p h) r ≡ Some b → birth_at S w (λ p. of_task p (h ++ e ∷ [])) r ≡ Some b
  birth_push h e r b o = birth_more S w (λ p. of_task p h) (λ p. of_task p (h ++ e ∷ [])) (λ p. (of_task p (e ∷ []), filter-append (λ x. same_path x.task p) h (e ∷ []))) r b o

  -- the new entry isn't among those with smaller stamps than x has, nor than its own
  task_unseen : (h : List Entry) (e : Entry) → Stamps S w h e → (x : Entry) → In x h → of_task x.task (below x.stamp (h ++ e ∷ [])) ≡ of_task x.task (below x.stamp h)
  task_unseen h e f x j = unseen (λ y. same_path y.task x.task) x.stamp h e (λ t.
      let p : e.task ≡ x.task = same_equal e.task x.task t in
      let l : x.stamp < e.stamp = later_task h e f x j (ap (λ q. same_path x.task q) p ∙ same_itself x.task) in omega arith)

  shard_unseen : (h : List Entry) (e : Entry) → Stamps S w h e → (x : Entry) → In x h → of_shard (shard x) (below x.stamp (h ++ e ∷ [])) ≡ of_shard (shard x) (below x.stamp h)
  shard_unseen h e f x j = unseen (λ y. nat_eq (shard y) (shard x)) x.stamp h e (λ t.
      let p : shard e ≡ shard x = eqb-true (shard e) (shard x) t in
      let l : x.stamp < e.stamp = later_shard h e f x j (eq-eqb (shard x) (shard e) (sym p)) in omega arith)

  task_seen : (h : List Entry) (e : Entry) → Stamps S w h e → of_task e.task (below e.stamp (h ++ e ∷ [])) ≡ of_task e.task h
  task_seen h e f = unseen (λ y. same_path y.task e.task) e.stamp h e (λ t. omega arith) ∙ all_below (λ y. same_path y.task e.task) e.stamp h (later_task h e f)

  shard_seen : (h : List Entry) (e : Entry) → Stamps S w h e → of_shard (shard e) (below e.stamp (h ++ e ∷ [])) ≡ of_shard (shard e) h
  shard_seen h e f = unseen (λ y. nat_eq (shard y) (shard e)) e.stamp h e (λ t. omega arith) ∙ all_below (λ y. nat_eq (shard y) (shard e)) e.stamp h (later_shard h e f)

  -- one more fitting entry
  pub kept_more : (h : List Entry) (e : Entry) → Kept S w h → Fits S w h h e → Stamps S w h e → Kept S w (h ++ e ∷ [])
  kept_more h e k f s = record {
    fits = λ x i. or_else (in_either x h (e ∷ []) i)
        (λ j. fits_moved S w h (below x.stamp h) (h ++ e ∷ []) (below x.stamp (h ++ e ∷ [])) x (k.fits x j) (birth_push h e (reverse x.task)) (task_unseen h e s x j) (shard_unseen h e s x j))
        (λ j. or_else j
        (λ p. subst (λ y. Fits S w (h ++ e ∷ []) (below y.stamp (h ++ e ∷ [])) y) p
        (fits_moved S w h h (h ++ e ∷ []) (below e.stamp (h ++ e ∷ [])) e f (birth_push h e (reverse e.task)) (task_seen h e s) (shard_seen h e s)))
        (λ n. absurd n));
    stamps = λ x i. or_else (in_either x h (e ∷ []) i)
        (λ j. stamps_moved S w (below x.stamp h) (below x.stamp (h ++ e ∷ [])) x (k.stamps x j) (task_unseen h e s x j) (shard_unseen h e s x j))
        (λ j. or_else j
        (λ p. subst (λ y. Stamps S w (below y.stamp (h ++ e ∷ [])) y) p
        (stamps_moved S w h (below e.stamp (h ++ e ∷ [])) e s (task_seen h e s) (shard_seen h e s)))
        (λ n. absurd n));
    tasks_rise = λ p. rise_more (λ x. same_path x.task p) h e (k.tasks_rise p) (λ x i a b. later_task h e s x i
        (ap (λ q. same_path q e.task) (same_equal x.task p a ∙ sym (same_equal e.task p b)) ∙ same_itself e.task));
    shards_rise = λ n. rise_more (λ x. nat_eq (shard x) n) h e (k.shards_rise n) (λ x i a b. later_shard h e s x i
        (eq-eqb (shard x) (shard e) (eqb-true (shard x) n a ∙ sym (eqb-true (shard e) n b))));
  }

  kept_nil : Kept S w []
  kept_nil = record { fits = λ e i. absurd i; stamps = λ e i. absurd i; tasks_rise = λ p. tt; shards_rise = λ n. tt }

  kept_from : (past es : List Entry) → Kept S w past → LegalFrom S w past es → StampedFrom S w past es → Kept S w (past ++ es)
  kept_from past [] k l s = subst (Kept S w) (sym (append-nil past)) k
  kept_from past (e ∷ es) k l s = subst (Kept S w) (append_assoc past (e ∷ []) es) (kept_from (past ++ e ∷ []) es (kept_more past e k l.0 s.0) l.1 s.1)

  -- entries that were made one after another
  pub made_kept : (h : List Entry) → IsLegalRun S w h → StampedFrom S w [] h → Kept S w h
  made_kept h l s = kept_from [] h kept_nil l s

  pub history_kept : (h : List Entry) → IsLegalHistory S w h → Kept S w h
  history_kept h l = made_kept h l.legal l.stamped

module _ (S : Type 0) (w : World S) (laws : Laws S w) where
  -- the task's Begin and the maker's entry, both on one object
  pub chain : (h : List Entry) → Kept S w h → (e : Entry) → In e h → (e.task ≡ [] → ⊥)
      → (b : Entry) × In b h × (b.task ≡ e.task) × (b.stamp ≤ e.stamp) × ((x : Entry) × In x h × (spawns x.op e.task ≡ true) × (x.stamp < b.stamp) × (shard x ≡ shard b) × ((k : ℕ) × (e.task ≡ x.task ++ k ∷ [])))
  chain h k e i n =
      let t = first_in (of_task e.task h) e (k.tasks_rise e.task) (in_task e h i) in
      let b = t.0 in
      let j = task_in b e.task h t.1 in
      let f = k.fits b j.0 in
      let none : of_task b.task (below b.stamp h) ≡ [] = filter_none (λ x. same_path x.task b.task) (below b.stamp h) (λ x m. by_test (same_path x.task b.task)
      (λ y. let q = filter_in (λ v. nat_lt v.stamp b.stamp) x h m in
      let lt : x.stamp < b.stamp = ltb-true x.stamp b.stamp q.1 in
      let ge : b.stamp ≤ x.stamp = t.2 x (in_filter (λ v. same_path v.task e.task) x h q.0 (ap (λ p. same_path x.task p) (sym j.1) ∙ y)) in
      absurd (omega arith))
      (λ z. z)) in
      let first = ap (λ l. op_of (w.next b.task f.birth.start (map reply_of l))) (sym none) ∙ f.comes in
      let begin = laws.begins b.task f.birth.start b.op first in
      let allow = ap (λ o. reply_after (of_object (object_of b.task b.op) (below b.stamp h)) b.task o) (sym begin) ∙ f.allowed in
      let made = begin_spawned (of_object (object_of b.task b.op) (below b.stamp h)) b.task b.reply allow in
      or_else made
      (λ z. absurd (n (sym j.1 ∙ z)))
      (λ m. let x = m.0 in
      let o = filter_in (λ v. same_object (object v) (object_of b.task b.op)) x (below b.stamp h) m.1 in
      let q = filter_in (λ v. nat_lt v.stamp b.stamp) x h o.0 in
      let g = k.fits x q.0 in
      let sp : spawns x.op e.task ≡ true = ap (spawns x.op) (sym j.1) ∙ m.2 in (
        b,
        j.0,
        j.1,
        t.2 e (in_task e h i),
        (
          x,
          q.0,
          sp,
          ltb-true x.stamp b.stamp q.1,
          ap shard_of_object (same_object_true (object x) (object b) o.1),
          laws.names x.task g.birth.start (map reply_of (of_task x.task (below x.stamp h))) x.op e.task g.comes sp,
        ),
      ))

  -- the entry that made a task is earlier than each entry of the task
  pub spawn_before : (h : List Entry) → Kept S w h → (e : Entry) → In e h → (e.task ≡ [] → ⊥) → (x : Entry) × In x h × (spawns x.op e.task ≡ true) × (x.stamp < e.stamp) × ((k : ℕ) × (e.task ≡ x.task ++ k ∷ []))
  spawn_before h k e i n =
      let c = chain h k e i n in
      let x = c.4.0 in
      let lt : x.stamp < c.0.stamp = c.4.3 in
      let le : c.0.stamp ≤ e.stamp = c.3 in
      (x, c.4.1, c.4.2, omega arith, c.4.5)
