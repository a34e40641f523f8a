-- One entry of one job in the merge of the logs: where it lands, and what stays.
use Rattle.std.proofs.Common.{◌≡◌, ℕ, ◌+◌, ◌<◌, List, [], ◌∷◌, ◌++◌, Option, Some, Bool, true, false, cond, max, ◌⊎◌, inl, inr, refl, sym, ap, ◌∙◌, subst, arith, nat_eq, map, reverse, append_assoc, length, get_or}
use Rattle.std.specs.Prelude.{filter}
use Rattle.std.proofs.lemmas.Bool.{eq-eqb, eqb-true, false≢true}
use Rattle.std.proofs.lemmas.List.{reverse-reverse, reverse-append, append-nil, map_push, length_push}
use Rattle.std.proofs.lemmas.List.Elements.{filter-append}
use Rattle.jt_base.specs.declared.operation.Reply.{Reply}
use Rattle.jt_base.specs.declared.entry.Entry.{Entry}
use Rattle.jt_base.specs.Coming.{Next, Spawns, op_of}
use Rattle.jt_base.specs.declared.object.Object.TheVariants.{Task}
use Rattle.jt_laws.specs.Entries.{same_path, same_object, object, shard, spawns, ends, of_task, of_object, of_shard, top, reply_of, In, Each, Rising, Ordered}
use Rattle.jt_laws.specs.Seats.{seat_of, may_work}
use Rattle.jt_laws.specs.Objects.{reply_after}
use Rattle.jt_laws.specs.Histories.{World, Birth, birth_from, born_in, born_of, birth_at, birth_of, stamp_after, Fits, Stamps, IsLegalHistory}
use Rattle.jt_laws.proofs.Paths.{same_itself, same_equal}
use Rattle.jt_histories.specs.Kept.{Kept, Same, Laws}
use Rattle.jt_histories.specs.Merges.{IsMerge, insert_entry}
use Rattle.jt_histories.specs.Made.{with_entry}
use Rattle.jt_base.specs.Jobs.{note_reply, last_note_from, last_note, Held}
use Rattle.jt_histories.specs.Jobs.{note_of, last_entry_from, last_entry, Live, Belongs, Makes, noted_job}
use Rattle.jt_histories.proofs.Lists.{or_else, by_test, same_object_refl, in_filter, filter_none, filter_push_yes, filter_push_no, in_left, in_right}
use Rattle.jt_histories.proofs.Logs.{parts_more}
use Rattle.jt_histories.proofs.Orders.{key_later, same_key, insert_other, insert_last, insert_ordered, in_insert}
use Rattle.jt_histories.proofs.ObjectLaws.{spawn_once, spawn_object, spawn_no_end}
use Rattle.jt_histories.proofs.Locality.{same_in, task_in, object_in_shard, birth_more, kept_same}
use Rattle.jt_histories.proofs.Stamped.{kept_more, history_kept, later_task, later_shard, spawn_before}
use Rattle.jt_histories.proofs.Legal.{push_not_nil, kept_history}

pub map_notes : (l : List Entry) → map note_reply (map note_of l) ≡ map reply_of l
map_notes [] = refl
map_notes (e ∷ es) = ap (λ l. e.reply ∷ l) (map_notes es)

notes_last_from : (s : ℕ) (l : List Entry) → last_note_from s (map note_of l) ≡ last_entry_from s l
notes_last_from s [] = refl
notes_last_from s (e ∷ es) = notes_last_from e.stamp es

last_from_top : (s : ℕ) (l : List Entry) → Each (λ x. s < x.stamp) l → Rising l → last_entry_from s l ≡ max s (top l)
last_from_top s [] a r = omega arith
last_from_top s (e ∷ es) a r = let ih = last_from_top e.stamp es r.0 r.1 in let l = a.0 in omega (arith, ih, l)

-- the last stamp is the greatest
pub last_top : (l : List Entry) → Rising l → last_entry l ≡ top l
last_top [] r = refl
last_top (e ∷ es) r = last_from_top e.stamp es r.0 r.1

task_both : (a b p : List ℕ) → same_path a p ≡ true → same_path b p ≡ true → same_path a b ≡ true
task_both a b p x y = ap (λ q. same_path q b) (same_equal a p x ∙ sym (same_equal b p y)) ∙ same_itself b

shard_both : (a b k : ℕ) → nat_eq a k ≡ true → nat_eq b k ≡ true → nat_eq a b ≡ true
shard_both a b k x y = eq-eqb a b (eqb-true a k x ∙ sym (eqb-true b k y))

insert_same : (f : Entry → Bool) (h : List Entry) (e : Entry) → Ordered h → ((x : Entry) → In x h → f x ≡ true → f e ≡ true → x.stamp < e.stamp) → filter f (h ++ e ∷ []) ≡ filter f (insert_entry e h)
insert_same f h e o l = by_test (f e)
    (λ y. filter_push_yes f h e y ∙ sym (insert_last f e h y o (λ x i t. let k = key_later x e (l x i t y) in omega (arith, k))))
    (λ n. filter_push_no f h e n ∙ sym (insert_other f e h n))

longer : (xs : List ℕ) (k : ℕ) → xs ≡ xs ++ k ∷ [] → ⊥
longer xs k e = let l = ap length e in let m = length_push xs k in absurd (omega (arith, l, m))

born_here : (S : Type 0) (next : List Reply → Option (Next S)) (p : List ℕ) (before : List Reply) (own : List Entry) (e : Entry) → ((x : Entry) → In x own → spawns x.op p ≡ false) → spawns e.op p ≡ true → born_in next p before (own ++ e ∷ []) ≡ birth_from e (next (before ++ map reply_of own))
born_here S next p before [] e n y =
    ap (λ c. cond c (birth_from e (next before)) (born_in next p (before ++ e.reply ∷ []) [])) y
    ∙ ap (λ l. birth_from e (next l)) (sym (append-nil before))
born_here S next p before (x ∷ xs) e n y =
    ap (λ c. cond c (birth_from x (next before)) (born_in next p (before ++ x.reply ∷ []) (xs ++ e ∷ []))) (n x (inl refl))
    ∙ born_here S next p (before ++ x.reply ∷ []) xs e (λ z i. n z (inr i)) y
    ∙ ap (λ l. birth_from e (next l)) (append_assoc before (x.reply ∷ []) (map reply_of xs))

-- what one entry leaves
pub record Entered (S : Type 0) (w : World S) (logs : List (List Entry)) (h : List Entry) (j : Held S) (e : Entry) : Type 0 where
  pub merged : IsMerge (with_entry logs e) (insert_entry e h)
  pub legal : IsLegalHistory S w (insert_entry e h)
  pub maker : (birth : Birth S) → birth_of S w h j.path ≡ Some birth → Belongs S w (insert_entry e h) (noted_job S j (seat_of w.sizes birth.maker (of_task j.path h ++ e ∷ [])) e)
  pub others : (k : Held S) → (k.path ≡ e.task → ⊥) → Belongs S w h k → Belongs S w (insert_entry e h) k
  pub child : (q : List ℕ) (t : S) → spawns e.op q ≡ true → w.next j.path j.start (map note_reply j.log) ≡ Some (Spawns e.op t) → Belongs S w (insert_entry e h) (record { path = q; start = t; seat = seat_of w.sizes (Some e) []; log = [] })
  -- which tasks are live
  pub stay : (q : List ℕ) → (q ≡ e.task → ⊥) → Live h q → Live (insert_entry e h) q
  pub maker_stays : ends e.op ≡ false → Live h e.task → Live (insert_entry e h) e.task
  pub maker_ends : ends e.op ≡ true → Live (insert_entry e h) e.task → ⊥
  pub child_lives : (q : List ℕ) → spawns e.op q ≡ true → Live (insert_entry e h) q
  pub child_new : (q : List ℕ) → spawns e.op q ≡ true → Live h q → ⊥
  pub no_more : (q : List ℕ) → Live (insert_entry e h) q → Live h q ⊎ (spawns e.op q ≡ true)

module _ (S : Type 0) (w : World S) where
  -- an entry that is next for a job fits
  pub fits_next : (h : List Entry) (j : Held S) (e : Entry) (log : List Entry) → Belongs S w h j → of_shard (shard e) h ≡ log → e.task ≡ j.path
      → op_of (w.next j.path j.start (map note_reply j.log)) ≡ Some e.op → reply_after (of_object (object e) log) e.task e.op ≡ Some e.reply → may_work w.sizes j.seat e.worker ≡ true → Fits S w h h e
  fits_next h j e log b s task comes allowed works = record {
    birth = b.birth;
    born = subst (λ p. birth_of S w h p ≡ Some b.birth) (sym task) b.born;
    comes = ap (λ p. op_of (w.next p b.birth.start (map reply_of (of_task p h)))) task
        ∙ ap (λ t. op_of (w.next j.path t (map reply_of (of_task j.path h)))) (sym b.started)
        ∙ ap (λ l. op_of (w.next j.path j.start l)) (sym (ap (map note_reply) b.noted ∙ map_notes (of_task j.path h)))
        ∙ comes;
    allowed = ap (λ l. reply_after l e.task e.op) (sym (object_in_shard (object e) h) ∙ ap (of_object (object e)) s) ∙ allowed;
    works = ap (λ p. may_work w.sizes (seat_of w.sizes b.birth.maker (of_task p h)) e.worker) task ∙ ap (λ t. may_work w.sizes t e.worker) (sym b.seated) ∙ works;
  }

  -- the stamp of an entry by the last stamps of its job and of its shard's log
  pub stamp_next : (h : List Entry) (j : Held S) (e : Entry) (log : List Entry) → Kept S w h → Belongs S w h j → of_shard (shard e) h ≡ log → e.task ≡ j.path
      → max (last_note j.log) (last_entry log) + 1 ≡ stamp_after h e.task (shard e)
  stamp_next h j e log k b s task =
      ap (λ n. max n (last_entry log) + 1) (ap last_note b.noted ∙ notes_last_from 0 (of_task j.path h) ∙ last_top (of_task j.path h) (k.tasks_rise j.path) ∙ ap (λ p. top (of_task p h)) (sym task))
      ∙ ap (λ n. max (top (of_task e.task h)) n + 1) (ap last_entry (sym s) ∙ last_top (of_shard (shard e) h) (k.shards_rise (shard e)))

  fits_made : (h : List Entry) (j : Held S) (e : Entry) (log : List Entry) → Belongs S w h j → Makes S w log j e → of_shard (shard e) h ≡ log → Fits S w h h e
  fits_made h j e log b m s = fits_next h j e log b s m.task m.comes m.allowed m.works

  stamps_made : (h : List Entry) (j : Held S) (e : Entry) (log : List Entry) → Kept S w h → Belongs S w h j → Makes S w log j e → of_shard (shard e) h ≡ log → Stamps S w h e
  stamps_made h j e log k b m s = record { stamped = m.stamped ∙ stamp_next h j e log k b s m.task; within = m.within }

  same_more : (h : List Entry) (e : Entry) → Ordered h → Stamps S w h e → Same (h ++ e ∷ []) (insert_entry e h)
  same_more h e o f = record {
    tasks = λ p. insert_same (λ x. same_path x.task p) h e o (λ x i a b. later_task S w h e f x i (task_both x.task e.task p a b));
    shards = λ k. insert_same (λ x. nat_eq (shard x) k) h e o (λ x i a b. later_shard S w h e f x i (shard_both (shard x) (shard e) k a b));
  }

  ordered_more : (h : List Entry) (e : Entry) → Ordered h → Stamps S w h e → Ordered (insert_entry e h)
  ordered_more h e o f = insert_ordered e h o (λ x i q.
      let same = same_key x e q in
      let l : x.stamp < e.stamp = later_shard S w h e f x i (eq-eqb (shard x) (shard e) same.1) in
      let p : x.stamp ≡ e.stamp = same.0 in absurd (omega arith))

  merge_more : (logs : List (List Entry)) (h : List Entry) (e : Entry) → shard e < length logs → IsMerge logs h → Stamps S w h e → IsMerge (with_entry logs e) (insert_entry e h)
  merge_more logs h e r m f = record {
    ordered = ordered_more h e m.ordered f;
    logged = λ k. sym ((same_more h e m.ordered f).shards k) ∙ parts_more logs h e r m.logged k;
  }

  birth_insert : (h : List Entry) (e : Entry) → Ordered h → Stamps S w h e → (r : List ℕ) (b : Birth S) → birth_at S w (λ p. of_task p h) r ≡ Some b → birth_at S w (λ p. of_task p (insert_entry e h)) r ≡ Some b
  birth_insert h e o f r b q = birth_more S w (λ p. of_task p h) (λ p. of_task p (insert_entry e h))
      (λ p. (of_task p (e ∷ []), sym ((same_more h e o f).tasks p) ∙ filter-append (λ x. same_path x.task p) h (e ∷ []))) r b q

  task_insert : (h : List Entry) (e : Entry) → Ordered h → Stamps S w h e → of_task e.task (insert_entry e h) ≡ of_task e.task h ++ e ∷ []
  task_insert h e o f = sym ((same_more h e o f).tasks e.task) ∙ filter_push_yes (λ x. same_path x.task e.task) h e (same_itself e.task)

  task_other : (h : List Entry) (e : Entry) (p : List ℕ) → Ordered h → Stamps S w h e → (p ≡ e.task → ⊥) → of_task p (insert_entry e h) ≡ of_task p h
  task_other h e p o f n = insert_other (λ x. same_path x.task p) e h (by_test (same_path e.task p) (λ y. absurd (n (sym (same_equal e.task p y)))) (λ z. z))

  -- no entry made this task before
  never : (h : List Entry) (e : Entry) → Fits S w h h e → (q : List ℕ) → spawns e.op q ≡ true → (x : Entry) → In x h → spawns x.op q ≡ false
  never h e f q y x i = by_test (spawns x.op q)
      (λ t. let ox : object x ≡ Task q = spawn_object x.op x.task q t in
      let oe : object e ≡ Task q = spawn_object e.op e.task q y in
      let m : In x (of_object (object e) h) = in_filter (λ v. same_object (object v) (object e)) x h i (ap (λ o. same_object o (object e)) (ox ∙ sym oe) ∙ same_object_refl (object e)) in
      spawn_once (of_object (object e) h) e.task q e.op e.reply f.allowed y x m)
      (λ n. n)

module _ (S : Type 0) (w : World S) (laws : Laws S w) where
  none_yet : (h : List Entry) (e : Entry) → Kept S w h → Fits S w h h e → (q : List ℕ) → spawns e.op q ≡ true → (q ≡ [] → ⊥) → (x : Entry) → In x h → same_path x.task q ≡ false
  none_yet h e k f q y n x i = by_test (same_path x.task q)
      (λ t. let p = same_equal x.task q t in
      let m = spawn_before S w laws h k x i (λ z. n (sym p ∙ z)) in
      absurd (false≢true (sym (never S w h e f q y m.0 m.1) ∙ ap (spawns m.0.op) (sym p) ∙ m.2)))
      (λ z. z)

  child_named : (h : List Entry) (e : Entry) → Fits S w h h e → (q : List ℕ) → spawns e.op q ≡ true → (k : ℕ) × (q ≡ e.task ++ k ∷ [])
  child_named h e f q y = laws.names e.task f.birth.start (map reply_of (of_task e.task h)) e.op q f.comes y

  child_not_main : (h : List Entry) (e : Entry) → Fits S w h h e → (q : List ℕ) → spawns e.op q ≡ true → q ≡ [] → ⊥
  child_not_main h e f q y z = push_not_nil e.task (child_named h e f q y).0 (sym (child_named h e f q y).1 ∙ z)

  child_other : (h : List Entry) (e : Entry) → Fits S w h h e → (q : List ℕ) → spawns e.op q ≡ true → q ≡ e.task → ⊥
  child_other h e f q y z = longer e.task (child_named h e f q y).0 (sym z ∙ (child_named h e f q y).1)

  -- the new task has its start from this entry
  child_born : (h : List Entry) (e : Entry) (b : Birth S) (t : S) (q : List ℕ) → Ordered h → Fits S w h h e → Stamps S w h e → birth_of S w h e.task ≡ Some b → w.next e.task b.start (map reply_of (of_task e.task h)) ≡ Some (Spawns e.op t) → spawns e.op q ≡ true → birth_of S w (insert_entry e h) q ≡ Some (record { start = t; maker = Some e })
  child_born h e b t q o f st eb c y =
      let n = child_named h e f q y in
      let k = n.0 in
      let up = reverse e.task in
      let back : reverse up ≡ e.task = reverse-reverse e.task in
      let rq : reverse q ≡ k ∷ up = ap reverse n.1 ∙ reverse-append e.task (k ∷ []) in
      let whole : reverse (k ∷ up) ≡ q = ap reverse (sym rq) ∙ reverse-reverse q in
      ap (birth_at S w (λ p. of_task p (insert_entry e h))) rq
      ∙ ap (born_of w.next (reverse up) (reverse (k ∷ up)) (of_task (reverse up) (insert_entry e h))) (birth_insert S w h e o st up b eb)
      ∙ ap (λ p. born_in (w.next p b.start) (reverse (k ∷ up)) [] (of_task p (insert_entry e h))) back
      ∙ ap (λ p. born_in (w.next e.task b.start) p [] (of_task e.task (insert_entry e h))) whole
      ∙ ap (born_in (w.next e.task b.start) q []) (task_insert S w h e o st)
      ∙ born_here S (w.next e.task b.start) q [] (of_task e.task h) e (λ x i. never S w h e f q y x (task_in x e.task h i).0) y
      ∙ ap (birth_from e) c

  pub one_entry : (logs : List (List Entry)) (h : List Entry) (j : Held S) (e : Entry) → shard e < length logs → IsMerge logs h → IsLegalHistory S w h → Belongs S w h j → Makes S w (get_or logs (shard e) []) j e → Entered S w logs h j e
  one_entry logs h j e r m l b k =
      let kept = history_kept S w h l in
      let f = fits_made S w h j e (get_or logs (shard e) []) b k (m.logged (shard e)) in
      let st = stamps_made S w h j e (get_or logs (shard e) []) kept b k (m.logged (shard e)) in
      let o = m.ordered in
      let same = same_more S w h e o st in
      record {
        merged = merge_more S w logs h e r m st;
        legal = kept_history S w laws (insert_entry e h) (kept_same S w (h ++ e ∷ []) (insert_entry e h) same (kept_more S w h e kept f st)) (ordered_more S w h e o st);
        maker = λ a q.
            let one : Some b.birth ≡ Some a = sym b.born ∙ q in
            let ba : b.birth ≡ a = cc in
            record {
              birth = a;
              born = birth_insert S w h e o st (reverse j.path) a q;
              started = b.started ∙ ap (λ (z : Birth S). z.start) ba;
              seated = ap (seat_of w.sizes a.maker) (sym (ap (λ p. of_task p (insert_entry e h)) (sym k.task) ∙ task_insert S w h e o st ∙ ap (λ p. of_task p h ++ e ∷ []) k.task));
              noted = ap (λ z. z ++ note_of e ∷ []) b.noted ∙ sym (map_push note_of (of_task j.path h) e) ∙ ap (map note_of) (sym (ap (λ p. of_task p (insert_entry e h)) (sym k.task) ∙ task_insert S w h e o st ∙ ap (λ p. of_task p h ++ e ∷ []) k.task));
            };
        others = λ i n c.
            let t = task_other S w h e i.path o st n in
            record {
              birth = c.birth;
              born = birth_insert S w h e o st (reverse i.path) c.birth c.born;
              started = c.started;
              seated = c.seated ∙ ap (seat_of w.sizes c.birth.maker) (sym t);
              noted = c.noted ∙ ap (map note_of) (sym t);
            };
        child = λ q t y c.
            let c2 : w.next e.task b.birth.start (map reply_of (of_task e.task h)) ≡ Some (Spawns e.op t) =
            ap (λ p. w.next p b.birth.start (map reply_of (of_task p h))) k.task
            ∙ ap (λ z. w.next j.path z (map reply_of (of_task j.path h))) (sym b.started)
            ∙ ap (w.next j.path j.start) (sym (ap (map note_reply) b.noted ∙ map_notes (of_task j.path h))) ∙ c in
            let none : of_task q (insert_entry e h) ≡ [] = task_other S w h e q o st (child_other h e f q y) ∙ filter_none (λ x. same_path x.task q) h (none_yet h e kept f q y (child_not_main h e f q y)) in
            record {
              birth = record { start = t; maker = Some e };
              born = child_born h e b.birth t q o f st (subst (λ p. birth_of S w h p ≡ Some b.birth) (sym k.task) b.born) c2 y;
              started = refl;
              seated = ap (seat_of w.sizes (Some e)) (sym none);
              noted = ap (map note_of) (sym none);
            };
        stay = λ q n v. record {
          made = or_else v.made (λ z. inl z) (λ s. inr (s.0, same_in (h ++ e ∷ []) (insert_entry e h) s.0 same (in_left s.0 h (e ∷ []) s.1), s.2));
          goes_on = λ x i t. or_else (in_insert e x h i) (λ p. absurd (n (sym t ∙ ap (λ (z : Entry). z.task) (sym p)))) (λ d. v.goes_on x d t);
        };
        maker_stays = λ g v. record {
          made = or_else v.made (λ z. inl z) (λ s. inr (s.0, same_in (h ++ e ∷ []) (insert_entry e h) s.0 same (in_left s.0 h (e ∷ []) s.1), s.2));
          goes_on = λ x i t. or_else (in_insert e x h i) (λ p. ap (λ (z : Entry). ends z.op) (sym p) ∙ g) (λ d. v.goes_on x d t);
        };
        maker_ends = λ g v. false≢true (sym (v.goes_on e (same_in (h ++ e ∷ []) (insert_entry e h) e same (in_right e h (e ∷ []) (inl refl))) refl) ∙ g);
        child_lives = λ q y. record {
          made = inr (e, same_in (h ++ e ∷ []) (insert_entry e h) e same (in_right e h (e ∷ []) (inl refl)), y);
          goes_on = λ x i t. or_else (in_insert e x h i)
              (λ p. ap (λ (z : Entry). ends z.op) (sym p) ∙ spawn_no_end e.op q y)
              (λ d. absurd (false≢true (sym (none_yet h e kept f q y (child_not_main h e f q y) x d) ∙ ap (λ p. same_path p q) t ∙ same_itself q)));
        };
        child_new = λ q y v. or_else v.made (λ z. child_not_main h e f q y z) (λ s. false≢true (sym (never S w h e f q y s.0 s.1) ∙ s.2));
        no_more = λ q v. or_else v.made
            (λ z. inl (record { made = inl z; goes_on = λ x i t. v.goes_on x (same_in (h ++ e ∷ []) (insert_entry e h) x same (in_left x h (e ∷ []) i)) t }))
            (λ s. or_else (in_insert e s.0 h s.1)
            (λ p. inr (ap (λ (z : Entry). spawns z.op q) p ∙ s.2))
            (λ d. inl (record { made = inr (s.0, d, s.2); goes_on = λ x i t. v.goes_on x (same_in (h ++ e ∷ []) (insert_entry e h) x same (in_left x h (e ∷ []) i)) t })));
      }
