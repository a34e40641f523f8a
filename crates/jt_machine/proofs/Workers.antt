-- Each further entry of the logs is made by its task's worker.
use Rattle.std.proofs.Common.{◌≡◌, ℕ, ◌<◌, ◌≤◌, inl, inr, List, [], ◌∷◌, ◌++◌, Some, true, false, refl, sym, ap, ◌∙◌, subst, arith, nat_eq, nat_lt, reverse, length, get_or, set, append_assoc}
use Rattle.std.proofs.lemmas.Bool.{eq-eqb, eqb-true, eqb-false}
use Rattle.std.proofs.lemmas.List.{append-nil, get_or-set_same, get_or-set_other}
use Rattle.std.proofs.lemmas.List.Elements.{filter-append}
use Rattle.jt_base.specs.declared.entry.Entry.{Entry}
use Rattle.jt_base.specs.Jobs.{Held}
use Rattle.jt_laws.specs.Entries.{same_path, object, shard, of_task, below, In, Rising}
use Rattle.jt_laws.specs.Lines.{cut_at_main_end}
use Rattle.jt_laws.specs.Seats.{seat_of}
use Rattle.jt_laws.specs.Histories.{World, Birth, birth_of, Stamps, IsLegalHistory}
use Rattle.jt_laws.proofs.Paths.{same_itself, same_equal}
use Rattle.jt_histories.specs.Jobs.{Makes, Holds}
use Rattle.jt_histories.specs.Kept.{Laws}
use Rattle.jt_histories.specs.Merges.{IsMerge, insert_entry}
use Rattle.jt_histories.proofs.InOrder.{ordered_one}
use Rattle.jt_histories.proofs.Lists.{or_else, by_test, filter_comm, filter_push_yes, filter_push_no, in_filter}
use Rattle.jt_histories.proofs.Locality.{birth_more}
use Rattle.jt_histories.proofs.Orders.{shard_small, key_later, insert_other, insert_last, in_insert}
use Rattle.jt_histories.proofs.Placed.{Entered, one_entry, stamp_next}
use Rattle.jt_histories.proofs.Resting.{cut_front, cut_is_legal}
use Rattle.jt_histories.proofs.Stamped.{unseen, all_below, part_below, later_task, history_kept}
use Rattle.jt_machine.specs.Runs.{worker_of, IsByItsWorker, AllByWorkers, FurtherByWorkers, GrownByWorkers}

both : (a b p : List ℕ) → same_path a p ≡ true → same_path b p ≡ true → same_path a b ≡ true
both a b p x y = ap (λ q. same_path q b) (same_equal a p x ∙ sym (same_equal b p y)) ∙ same_itself b

-- ---- one entry more

module _ (S : Type 0) (w : World S) (laws : Laws S w) (logs : List (List Entry)) (j : Held S) (rest : List (Held S)) (e : Entry)
    (holds : Holds S w logs (j ∷ rest)) (makes : Makes S w (get_or logs (shard e) []) j e) (by : e.worker ≡ worker_of w.sizes j.seat) where
  abbrev longer : List Entry
  longer = insert_entry e holds.history

  abbrev longer_logs : List (List Entry)
  longer_logs = set logs (shard e) (get_or logs (shard e) [] ++ e ∷ [])

  stamps : Stamps S w holds.history e
  stamps = record {
    stamped = makes.stamped
        ∙ stamp_next S w holds.history j e (get_or logs (shard e) []) (history_kept S w holds.history holds.legal) (holds.belong j (inl refl)) (holds.merged.logged (shard e)) makes.task;
    within = makes.within;
  }

  same_task : (p : List ℕ) → of_task p (holds.history ++ e ∷ []) ≡ of_task p longer
  same_task p = by_test (same_path e.task p)
      (λ y. filter_push_yes (λ x. same_path x.task p) holds.history e y
      ∙ sym (insert_last (λ x. same_path x.task p) e holds.history y holds.merged.ordered
      (λ x i t. let k = key_later x e (later_task S w holds.history e stamps x i (both x.task e.task p t y)) in omega (arith, k))))
      (λ n. filter_push_no (λ x. same_path x.task p) holds.history e n ∙ sym (insert_other (λ x. same_path x.task p) e holds.history n))

  still_born : (p : List ℕ) (b : Birth S) → birth_of S w holds.history p ≡ Some b → birth_of S w longer p ≡ Some b
  still_born p b q = birth_more S w (λ r. of_task r holds.history) (λ r. of_task r longer)
      (λ r. (of_task r (e ∷ []), sym (same_task r) ∙ filter-append (λ x. same_path x.task r) holds.history (e ∷ []))) (reverse p) b q

  same_before : (p : List ℕ) (n : ℕ) → (same_path e.task p ≡ true → n ≤ e.stamp) → of_task p (below n longer) ≡ of_task p (below n holds.history)
  same_before p n l =
      filter_comm (λ x. same_path x.task p) (λ x. nat_lt x.stamp n) longer
      ∙ ap (below n) (sym (same_task p))
      ∙ sym (filter_comm (λ x. same_path x.task p) (λ x. nat_lt x.stamp n) (holds.history ++ e ∷ []))
      ∙ unseen (λ x. same_path x.task p) n holds.history e l

  still_by : (x : Entry) → In x holds.history → IsByItsWorker S w holds.history x → IsByItsWorker S w longer x
  still_by x i y = record {
    birth = y.birth;
    born = still_born x.task y.birth y.born;
    worker = y.worker
        ∙ ap (λ own. worker_of w.sizes (seat_of w.sizes y.birth.maker own)) (sym (same_before x.task x.stamp
        (λ t. let l = later_task S w holds.history e stamps x i (ap (λ p. same_path p e.task) (sym (same_equal e.task x.task t)) ∙ same_itself e.task) in omega (arith, l))));
  }

  new_by : IsByItsWorker S w longer e
  new_by =
      let b = holds.belong j (inl refl) in
      record {
        birth = b.birth;
        born = still_born e.task b.birth (ap (birth_of S w holds.history) makes.task ∙ b.born);
        worker = by
            ∙ ap (worker_of w.sizes) (b.seated ∙ ap (λ p. seat_of w.sizes b.birth.maker (of_task p holds.history)) (sym makes.task))
            ∙ ap (λ own. worker_of w.sizes (seat_of w.sizes b.birth.maker own)) (sym (same_before e.task e.stamp (λ t. omega arith)
            ∙ all_below (λ x. same_path x.task e.task) e.stamp holds.history (λ x i t. later_task S w holds.history e stamps x i t)));
      }

  small : shard e < length logs
  small = let s = shard_small (object e) in let l = holds.sixteen in omega (arith, s, l)

  pub grown_more : (from : List (List Entry)) → GrownByWorkers S w from logs → GrownByWorkers S w from longer_logs
  grown_more from g =
      record {
        begins = λ k. by_test (nat_eq (shard e) k) (λ y. own k (eqb-true (shard e) k y)) (λ n. other k n);
        workers = λ h m x i n.
            let made : Entered S w logs holds.history j e = one_entry S w laws logs holds.history j e small holds.merged holds.legal (holds.belong j (inl refl)) makes in
            let one : h ≡ longer = ordered_one h longer m.ordered made.merged.ordered (λ k. m.logged k ∙ sym (made.merged.logged k)) in
            subst (λ l. IsByItsWorker S w l x) (sym one)
            (or_else (in_insert e x holds.history (subst (In x) one i))
            (λ p. subst (IsByItsWorker S w longer) p new_by)
            (λ a. still_by x a (g.workers holds.history holds.merged x a n)));
      }
    where
      own : (k : ℕ) → shard e ≡ k → (back : List Entry) × (get_or longer_logs k [] ≡ get_or from k [] ++ back)
      own k q =
          let b = g.begins (shard e) in (
            b.0 ++ e ∷ [],
            ap (λ n. get_or longer_logs n []) (sym q)
                ∙ get_or-set_same logs (shard e) (get_or logs (shard e) [] ++ e ∷ []) [] small
                ∙ ap (λ l. l ++ e ∷ []) b.1
                ∙ append_assoc (get_or from (shard e) []) b.0 (e ∷ [])
                ∙ ap (λ n. get_or from n [] ++ (b.0 ++ e ∷ [])) q,
          )

      other : (k : ℕ) → nat_eq (shard e) k ≡ false → (back : List Entry) × (get_or longer_logs k [] ≡ get_or from k [] ++ back)
      other k n =
          let b = g.begins k in
          (b.0, get_or-set_other logs (shard e) k (get_or logs (shard e) [] ++ e ∷ []) [] (λ q. eqb-false (shard e) k n (sym q)) ∙ b.1)

-- ---- at the beginning, and in the cut

pub log_has : (logs : List (List Entry)) (h : List Entry) → IsMerge logs h → (x : Entry) → In x h → In x (get_or logs (shard x) [])
log_has logs h m x i = subst (In x) (m.logged (shard x)) (in_filter (λ y. nat_eq (shard y) (shard x)) x h i (eq-eqb (shard x) (shard x) refl))

pub grown_none : (S : Type 0) (w : World S) (logs : List (List Entry)) → GrownByWorkers S w logs logs
grown_none S w logs = record { begins = λ k. ([], sym (append-nil (get_or logs k []))); workers = λ h m x i n. absurd (n (log_has logs h m x i)) }

in_front : (x : Entry) (xs ys : List Entry) → In x xs → In x (xs ++ ys)
in_front x [] ys i = absurd i
in_front x (z ∷ zs) ys i = or_else i (λ p. inl p) (λ a. inr (in_front x zs ys a))

split_at : (xs : List Entry) (x : Entry) → In x xs → (front : List Entry) × (back : List Entry) × (xs ≡ front ++ x ∷ back)
split_at [] x i = absurd i
split_at (y ∷ ys) x i = or_else i
    (λ p. ([], ys, ap (λ z. z ∷ ys) p))
    (λ a. let r = split_at ys x a in (y ∷ r.0, r.1, ap (λ l. y ∷ l) r.2))

module _ (S : Type 0) (w : World S) (h back : List Entry) (whole : IsLegalHistory S w (h ++ back)) (part : IsLegalHistory S w h) where
  -- the entries of a task before one of the front
  front_before : (x : Entry) → In x h → of_task x.task (below x.stamp h) ≡ of_task x.task (below x.stamp (h ++ back))
  front_before x i =
      let s = split_at h x i in
      let f = s.0 in let b = s.1 in
      let long : h ++ back ≡ f ++ x ∷ (b ++ back) = ap (λ l. l ++ back) s.2 ∙ append_assoc f (x ∷ b) back in
      let own : same_path x.task x.task ≡ true = same_itself x.task in
      let rise : Rising (of_task x.task h) = (history_kept S w h part).tasks_rise x.task in
      let rises : Rising (of_task x.task (h ++ back)) = (history_kept S w (h ++ back) whole).tasks_rise x.task in
      ap (λ l. of_task x.task (below x.stamp l)) s.2
      ∙ part_below (λ y. same_path y.task x.task) f x b own (subst (λ l. Rising (of_task x.task l)) s.2 rise)
      ∙ sym (ap (λ l. of_task x.task (below x.stamp l)) long
      ∙ part_below (λ y. same_path y.task x.task) f x (b ++ back) own (subst (λ l. Rising (of_task x.task l)) long rises))

  pub front_by : (x : Entry) → In x h → IsByItsWorker S w (h ++ back) x → IsByItsWorker S w h x
  front_by x i y =
      let fits = (history_kept S w h part).fits x i in
      let more : birth_of S w (h ++ back) x.task ≡ Some fits.birth = birth_more S w (λ r. of_task r h) (λ r. of_task r (h ++ back))
      (λ r. (of_task r back, filter-append (λ z. same_path z.task r) h back)) (reverse x.task) fits.birth fits.born in
      let both_born : Some fits.birth ≡ Some y.birth = sym more ∙ y.born in
      let same : fits.birth ≡ y.birth = cc in
      record {
        birth = fits.birth;
        born = fits.born;
        worker = y.worker
            ∙ ap (λ own. worker_of w.sizes (seat_of w.sizes y.birth.maker own)) (sym (front_before x i))
            ∙ ap (λ (b : Birth S). worker_of w.sizes (seat_of w.sizes b.maker (of_task x.task (below x.stamp h)))) (sym same);
      }

-- up to main's end
pub cut_by : (S : Type 0) (w : World S) (logs : List (List Entry)) (all : List Entry) → IsLegalHistory S w all → FurtherByWorkers S w logs all → FurtherByWorkers S w logs (cut_at_main_end all)
cut_by S w logs all legal f x i n =
    let c = cut_front all in
    front_by S w (cut_at_main_end all) c.0 (subst (IsLegalHistory S w) c.1 legal) (cut_is_legal S w all legal) x i
    (subst (λ l. IsByItsWorker S w l x) c.1 (f x (subst (In x) (sym c.1) (in_front x (cut_at_main_end all) c.0 i)) n))

-- no entry stands in empty logs
pub all_by : (S : Type 0) (w : World S) (logs : List (List Entry)) (h : List Entry) → ((k : ℕ) (x : Entry) → In x (get_or logs k []) → ⊥) → FurtherByWorkers S w logs h → AllByWorkers S w h
all_by S w logs h empty f x i = f x i (λ a. empty (shard x) x a)
