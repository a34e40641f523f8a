-- One entry of one job, over all jobs of a run.
use Rattle.std.proofs.Common.{◌≡◌, ℕ, List, [], ◌∷◌, ◌++◌, Option, Some, None, true, false, cond, ◌⊎◌, inl, inr, refl, sym, ap, ◌∙◌, subst, arith, map, get_or}
use Rattle.std.proofs.lemmas.Bool.{false≢true}
use Rattle.jt_base.specs.declared.entry.Entry.{Entry}
use Rattle.jt_base.specs.Coming.{Next, Needs, Spawns, Over, op_of}
use Rattle.jt_laws.specs.Entries.{object, shard, spawns, ends, of_task}
use Rattle.jt_laws.specs.Seats.{seat_of, seat_after, first_seat}
use Rattle.jt_laws.specs.Histories.{World}
use Rattle.jt_histories.specs.Kept.{Laws, made_path}
use Rattle.jt_histories.specs.Merges.{insert_entry}
use Rattle.jt_histories.specs.Made.{with_entry}
use Rattle.jt_base.specs.Jobs.{note_reply, Held}
use Rattle.jt_histories.specs.Jobs.{Live, Has, OnePath, noted_job, Belongs, Makes, Holds, coming, left_after}
use Rattle.jt_histories.proofs.Lists.{or_else, by_test}
use Rattle.jt_histories.proofs.Members.{has_left, has_right, has_either}
use Rattle.jt_histories.proofs.Logs.{as_many}
use Rattle.jt_histories.proofs.Orders.{shard_small}
use Rattle.jt_histories.proofs.ObjectLaws.{seat_push, spawn_no_end, spawned_one}
use Rattle.jt_histories.proofs.Placed.{Entered, one_entry}

module _ (S : Type 0) (w : World S) where
  -- the job with its entry belongs, with the seat that the job alone tells
  noted_belongs : (logs : List (List Entry)) (h : List Entry) (j : Held S) (e : Entry) → e.task ≡ j.path → Belongs S w h j → Entered S w logs h j e → Belongs S w (insert_entry e h) (noted_job S j (seat_after j.seat e.op e.worker) e)
  noted_belongs logs h j e t b m =
      subst (λ s. Belongs S w (insert_entry e h) (noted_job S j s e))
      (seat_push (first_seat w.sizes b.birth.maker) (of_task j.path h) e ∙ ap (λ s. seat_after s e.op e.worker) (sym b.seated))
      (m.maker b.birth b.born)

  -- in the place of j stand after, and rest are the others
  keeps_with : (logs : List (List Entry)) (j : Held S) (rest : List (Held S)) (e : Entry) (k : Holds S w logs (j ∷ rest)) → e.task ≡ j.path → Entered S w logs k.history j e → (after : List (Held S))
      → ((i : Held S) → Has S i after → Belongs S w (insert_entry e k.history) i)
      → OnePath S (after ++ rest)
      → ((p : List ℕ) → Live (insert_entry e k.history) p → ((i : Held S) × Has S i after × (i.path ≡ p)) ⊎ ((p ≡ j.path → ⊥) × Live k.history p))
      → ((i : Held S) → Has S i after → Live (insert_entry e k.history) i.path)
      → Holds S w (with_entry logs e) (after ++ rest)
  keeps_with logs j rest e k t m after b o l a = record {
    history = insert_entry e k.history;
    sixteen = as_many logs e ∙ k.sixteen;
    merged = m.merged;
    legal = m.legal;
    belong = λ i h. or_else (has_either S i after rest h) (λ x. b i x) (λ x. m.others i (λ q. k.one_path.0 i x (q ∙ t)) (k.belong i (inr x)));
    one_path = o;
    live = λ p v. or_else (l p v)
        (λ x. (x.0, has_left S x.0 after rest x.1, x.2))
        (λ x. let y = k.live p x.1 in or_else y.1
        (λ q. absurd (x.0 (sym y.2 ∙ sym (ap (λ (z : Held S). z.path) q))))
        (λ z. (y.0, has_right S y.0 after rest z, y.2)));
    only_live = λ i h. or_else (has_either S i after rest h) (λ x. a i x) (λ x. m.stay i.path (λ q. k.one_path.0 i x (q ∙ t)) (k.only_live i (inr x)));
  }

  ended_keeps : (logs : List (List Entry)) (j : Held S) (rest : List (Held S)) (e : Entry) (k : Holds S w logs (j ∷ rest)) → e.task ≡ j.path → Entered S w logs k.history j e → ends e.op ≡ true → Holds S w (with_entry logs e) rest
  ended_keeps logs j rest e k t m y = keeps_with logs j rest e k t m [] (λ i x. absurd x) k.one_path.1
      (λ p v. or_else (m.no_more p v)
      (λ x. inr (λ q. m.maker_ends y (subst (Live (insert_entry e k.history)) (q ∙ sym t) v), x))
      (λ x. absurd (false≢true (sym (spawn_no_end e.op p x) ∙ y))))
      (λ i x. absurd x)

  went_on_keeps : (logs : List (List Entry)) (j : Held S) (rest : List (Held S)) (e : Entry) (k : Holds S w logs (j ∷ rest)) → e.task ≡ j.path → Entered S w logs k.history j e → ends e.op ≡ false → ((q : List ℕ) → spawns e.op q ≡ false) → Holds S w (with_entry logs e) (noted_job S j (seat_after j.seat e.op e.worker) e ∷ rest)
  went_on_keeps logs j rest e k t m n s =
      let j2 = noted_job S j (seat_after j.seat e.op e.worker) e in
      let jl : Live (insert_entry e k.history) j.path = subst (Live (insert_entry e k.history)) t (m.maker_stays n (subst (Live k.history) (sym t) (k.only_live j (inl refl)))) in
      keeps_with logs j rest e k t m (j2 ∷ [])
      (λ i x. or_else x (λ q. subst (Belongs S w (insert_entry e k.history)) q (noted_belongs logs k.history j e t (k.belong j (inl refl)) m)) (λ z. absurd z))
      (k.one_path.0, k.one_path.1)
      (λ p v. or_else (m.no_more p v)
      (λ x. by_path p v x)
      (λ x. absurd (false≢true (sym (s p) ∙ x))))
      (λ i x. or_else x (λ q. subst (λ (z : Held S). Live (insert_entry e k.history) z.path) q jl) (λ z. absurd z))
    where
      by_path : (p : List ℕ) → Live (insert_entry e k.history) p → Live k.history p → ((i : Held S) × Has S i (noted_job S j (seat_after j.seat e.op e.worker) e ∷ []) × (i.path ≡ p)) ⊎ ((p ≡ j.path → ⊥) × Live k.history p)
      by_path p v x = let y = k.live p x in or_else y.1
          (λ q. inl (noted_job S j (seat_after j.seat e.op e.worker) e, inl refl, ap (λ (z : Held S). z.path) q ∙ y.2))
          (λ z. inr (λ q. k.one_path.0 y.0 z (y.2 ∙ q), x))

  forked_keeps : (logs : List (List Entry)) (j : Held S) (rest : List (Held S)) (e : Entry) (k : Holds S w logs (j ∷ rest)) → e.task ≡ j.path → Entered S w logs k.history j e → (c : List ℕ) (u : S) → spawns e.op c ≡ true → coming S w j ≡ Some (Spawns e.op u) → ((q : List ℕ) → spawns e.op q ≡ true → q ≡ c)
      → Holds S w (with_entry logs e) (noted_job S j (seat_after j.seat e.op e.worker) e ∷ record { path = c; start = u; seat = seat_of w.sizes (Some e) []; log = [] } ∷ rest)
  forked_keeps logs j rest e k t m c u s n one =
      let j2 = noted_job S j (seat_after j.seat e.op e.worker) e in
      let kid : Held S = record { path = c; start = u; seat = seat_of w.sizes (Some e) []; log = [] } in
      let jl : Live (insert_entry e k.history) j.path = subst (Live (insert_entry e k.history)) t (m.maker_stays (spawn_no_end e.op c s) (subst (Live k.history) (sym t) (k.only_live j (inl refl)))) in
      keeps_with logs j rest e k t m (j2 ∷ kid ∷ [])
      (λ i x. or_else x
      (λ q. subst (Belongs S w (insert_entry e k.history)) q (noted_belongs logs k.history j e t (k.belong j (inl refl)) m))
      (λ x. or_else x (λ q. subst (Belongs S w (insert_entry e k.history)) q (m.child c u s n)) (λ z. absurd z))) (
        (λ i x q. or_else x
            (λ r. m.child_new c s (subst (Live k.history) (sym q ∙ sym (ap (λ (z : Held S). z.path) r)) (k.only_live j (inl refl))))
            (λ r. k.one_path.0 i r q)),
        ((λ i x q. m.child_new c s (subst (Live k.history) q (k.only_live i (inr x)))), k.one_path.1),
      )
      (λ p v. or_else (m.no_more p v)
      (λ x. by_path p x)
      (λ x. inl (kid, inr (inl refl), sym (one p x))))
      (λ i x. or_else x
      (λ q. subst (λ (z : Held S). Live (insert_entry e k.history) z.path) q jl)
      (λ x. or_else x (λ q. subst (λ (z : Held S). Live (insert_entry e k.history) z.path) q (m.child_lives c s)) (λ z. absurd z)))
    where
      by_path : (p : List ℕ) → Live k.history p → ((i : Held S) × Has S i (noted_job S j (seat_after j.seat e.op e.worker) e ∷ record { path = c; start = u; seat = seat_of w.sizes (Some e) []; log = [] } ∷ []) × (i.path ≡ p)) ⊎ ((p ≡ j.path → ⊥) × Live k.history p)
      by_path p x = let y = k.live p x in or_else y.1
          (λ q. inl (noted_job S j (seat_after j.seat e.op e.worker) e, inl refl, ap (λ (z : Held S). z.path) q ∙ y.2))
          (λ z. inr (λ q. k.one_path.0 y.0 z (y.2 ∙ q), x))

  -- jobs that only change places
  pub holds_moved : (logs : List (List Entry)) (jobs jobs' : List (Held S)) → Holds S w logs jobs → ((j : Held S) → Has S j jobs → Has S j jobs') → ((j : Held S) → Has S j jobs' → Has S j jobs) → OnePath S jobs' → Holds S w logs jobs'
  holds_moved logs jobs jobs' k to from o = record {
    history = k.history;
    sixteen = k.sixteen;
    merged = k.merged;
    legal = k.legal;
    belong = λ j h. k.belong j (from j h);
    one_path = o;
    live = λ p v. let y = k.live p v in (y.0, to y.0 y.1, y.2);
    only_live = λ j h. k.only_live j (from j h);
  }

module _ (S : Type 0) (w : World S) (laws : Laws S w) where
  -- one entry of one job
  pub entry_keeps : (logs : List (List Entry)) (j : Held S) (rest : List (Held S)) (e : Entry) → Holds S w logs (j ∷ rest) → Makes S w (get_or logs (shard e) []) j e → Holds S w (with_entry logs e) (left_after S w j e (coming S w j) ++ rest)
  entry_keeps logs j rest e k m =
      let small = shard_small (object e) in
      let many = k.sixteen in
      let made = one_entry S w laws logs k.history j e (omega (arith, small, many)) k.merged k.legal (k.belong j (inl refl)) m in
      at (coming S w j) refl m.comes made
    where
      at : (n : Option (Next S)) → coming S w j ≡ n → op_of n ≡ Some e.op → Entered S w logs k.history j e → Holds S w (with_entry logs e) (left_after S w j e n ++ rest)
      at None q c made = absurd (cc)
      at (Some Over) q c made = absurd (cc)
      at (Some (Needs op)) q c made =
          let same : op ≡ e.op = cc in
          let no = λ (p : List ℕ). ap (λ o. spawns o p) (sym same) ∙ laws.no_spawn j.path j.start (map note_reply j.log) op q p in
          by_test (ends e.op)
          (λ y. subst (λ b. Holds S w (with_entry logs e) (cond b [] (noted_job S j (seat_after j.seat e.op e.worker) e ∷ []) ++ rest)) (sym y) (ended_keeps S w logs j rest e k m.task made y))
          (λ y. subst (λ b. Holds S w (with_entry logs e) (cond b [] (noted_job S j (seat_after j.seat e.op e.worker) e ∷ []) ++ rest)) (sym y) (went_on_keeps S w logs j rest e k m.task made y no))
      at (Some (Spawns op t)) q c made =
          let same : op ≡ e.op = cc in
          let n : coming S w j ≡ Some (Spawns e.op t) = q ∙ ap (λ o. Some (Spawns o t)) same in
          let s : spawns e.op (made_path e.op) ≡ true = laws.makes j.path j.start (map note_reply j.log) e.op t n in
          forked_keeps S w logs j rest e k m.task made (made_path e.op) t s n (λ p x. spawned_one e.op p (made_path e.op) x s)
