-- The next entry of a legal history is made by the job of its task.
use Rattle.std.proofs.Common.{◌≡◌, ℕ, List, [], ◌∷◌, ◌++◌, Option, Some, None, true, cond, ◌⊎◌, inl, inr, refl, sym, ap, ◌∙◌, subst, arith, map, reverse, get_or, append_assoc}
use Rattle.std.specs.List.Sorted.{IsPermutation}
use Rattle.std.proofs.lemmas.List.{append-nil, reverse-reverse}
use Rattle.jt_base.specs.declared.operation.Op.{Op}
use Rattle.jt_base.specs.declared.operation.Reply.{Reply}
use Rattle.jt_base.specs.declared.entry.Entry.{Entry}
use Rattle.jt_base.specs.Coming.{Next, op_of}
use Rattle.jt_base.specs.Jobs.{note_reply, Held}
use Rattle.jt_laws.specs.Entries.{object, shard, spawns, ends, of_task, of_shard, reply_of, In}
use Rattle.jt_laws.specs.Seats.{seat_of, may_work}
use Rattle.jt_laws.specs.Objects.{reply_after}
use Rattle.jt_laws.specs.Histories.{World, Birth, birth_from, born_in, born_of, birth_at, birth_of, Fits, Stamps, LegalFrom, StampedFrom, IsLegalHistory}
use Rattle.jt_histories.specs.Kept.{Kept}
use Rattle.jt_histories.specs.Merges.{IsMerge}
use Rattle.jt_histories.specs.Jobs.{Live, Belongs, Makes, Holds}
use Rattle.jt_histories.specs.Made.{with_entry}
use Rattle.jt_histories.specs.Rest.{EndsIt}
use Rattle.jt_histories.proofs.Lists.{or_else, by_test}
use Rattle.jt_histories.proofs.Locality.{task_in, object_from_shard}
use Rattle.jt_histories.proofs.Stamped.{history_kept}
use Rattle.jt_histories.proofs.InOrder.{ordered_one}
use Rattle.jt_histories.proofs.Orders.{shard_small}
use Rattle.jt_histories.proofs.Logs.{parts_more}
use Rattle.jt_histories.proofs.Placed.{map_notes, stamp_next}
use Rattle.jt_histories.proofs.Members.{has_others}
use Rattle.jt_histories.proofs.Resting.{ended_over, history_front}

module _ (S : Type 0) (w : World S) where
  -- the last entry fits those before it, and is stamped by them
  last_fits : (past front : List Entry) (e : Entry) → LegalFrom S w past (front ++ e ∷ []) → Fits S w (past ++ front) (past ++ front) e
  last_fits past [] e l = subst (λ h. Fits S w h h e) (sym (append-nil past)) l.0
  last_fits past (x ∷ xs) e l = subst (λ h. Fits S w h h e) (append_assoc past (x ∷ []) xs) (last_fits (past ++ x ∷ []) xs e l.1)

  last_stamped : (past front : List Entry) (e : Entry) → StampedFrom S w past (front ++ e ∷ []) → Stamps S w (past ++ front) e
  last_stamped past [] e l = subst (λ h. Stamps S w h e) (sym (append-nil past)) l.0
  last_stamped past (x ∷ xs) e l = subst (λ h. Stamps S w h e) (append_assoc past (x ∷ []) xs) (last_stamped (past ++ x ∷ []) xs e l.1)

  -- a task that was born is main, or was spawned
  found_spawn : (next : List Reply → Option (Next S)) (p : List ℕ) (before : List Reply) (own : List Entry) (b : Birth S) → born_in next p before own ≡ Some b → (x : Entry) × In x own × (spawns x.op p ≡ true)
  found_spawn next p before [] b q = absurd (cc)
  found_spawn next p before (x ∷ xs) b q = by_test (spawns x.op p)
      (λ y. (x, inl refl, y))
      (λ n. let r = found_spawn next p (before ++ x.reply ∷ []) xs b (sym (ap (λ c. cond c (birth_from x (next before)) (born_in next p (before ++ x.reply ∷ []) xs)) n) ∙ q) in (r.0, inr r.1, r.2))

  spawned_at : (h : List Entry) (r : List ℕ) (b : Birth S) → birth_at S w (λ p. of_task p h) r ≡ Some b → (r ≡ []) ⊎ ((x : Entry) × In x h × (spawns x.op (reverse r) ≡ true))
  spawned_at h [] b q = inl refl
  spawned_at h (k ∷ up) b q = inr (by_maker (birth_at S w (λ p. of_task p h) up) q)
    where
      by_maker : (o : Option (Birth S)) → born_of w.next (reverse up) (reverse (k ∷ up)) (of_task (reverse up) h) o ≡ Some b → (x : Entry) × In x h × (spawns x.op (reverse (k ∷ up)) ≡ true)
      by_maker None q = absurd (cc)
      by_maker (Some c) q =
          let r = found_spawn (w.next (reverse up) c.start) (reverse (k ∷ up)) [] (of_task (reverse up) h) b q in
          (r.0, (task_in r.0 (reverse up) h r.1).0, r.2)

  born_spawned : (h : List Entry) (p : List ℕ) (b : Birth S) → birth_of S w h p ≡ Some b → (p ≡ []) ⊎ ((x : Entry) × In x h × (spawns x.op p ≡ true))
  born_spawned h p b q = or_else (spawned_at h (reverse p) b q)
      (λ z. inl (sym (reverse-reverse p) ∙ ap reverse z))
      (λ x. inr (x.0, x.1, ap (spawns x.0.op) (sym (reverse-reverse p)) ∙ x.2))

  -- the task of an entry that fits is live
  live_next : EndsIt S w → (h : List Entry) (e : Entry) → Kept S w h → Fits S w h h e → Live h e.task
  live_next over h e k f = record {
    made = born_spawned h e.task f.birth f.born;
    goes_on = λ x i t. by_test (ends x.op)
        (λ y. absurd (none_some e.op (sym (ended_over S w over h k e.task f.birth f.born x i t y) ∙ f.comes)))
        (λ n. n);
  }
    where
      none_some : (op : Op) → None ≡ Some op → ⊥
      none_some op q = cc

  -- the job of its task makes it
  fitting_made : (h log : List Entry) (j : Held S) (e : Entry) → Kept S w h → Belongs S w h j → j.path ≡ e.task → Fits S w h h e → Stamps S w h e → of_shard (shard e) h ≡ log → Makes S w log j e
  fitting_made h log j e k b t f s m =
      let one : Some b.birth ≡ Some f.birth = sym b.born ∙ ap (birth_of S w h) t ∙ f.born in
      let same : b.birth ≡ f.birth = cc in
      record {
        task = sym t;
        comes = ap (λ u. op_of (w.next j.path u (map note_reply j.log))) (b.started ∙ ap (λ (v : Birth S). v.start) same)
            ∙ ap (λ l. op_of (w.next j.path f.birth.start l)) (ap (map note_reply) b.noted ∙ map_notes (of_task j.path h))
            ∙ ap (λ p. op_of (w.next p f.birth.start (map reply_of (of_task p h)))) t
            ∙ f.comes;
        allowed = ap (λ l. reply_after l e.task e.op) (sym (object_from_shard (object e) h log m)) ∙ f.allowed;
        works = ap (λ z. may_work w.sizes z e.worker) (b.seated ∙ ap (λ (v : Birth S). seat_of w.sizes v.maker (of_task j.path h)) same)
            ∙ ap (λ p. may_work w.sizes (seat_of w.sizes f.birth.maker (of_task p h)) e.worker) t
            ∙ f.works;
        stamped = s.stamped ∙ sym (stamp_next S w h j e log k b m (sym t));
        within = s.within;
      }

  pub legal_is_made : EndsIt S w → (h : List Entry) (e : Entry) (logs : List (List Entry)) (jobs : List (Held S)) → IsLegalHistory S w (h ++ e ∷ []) → Holds S w logs jobs → IsMerge logs h
      → (j : Held S) × (others : List (Held S)) × IsPermutation jobs (j ∷ others) × Makes S w (get_or logs (shard e) []) j e × IsMerge (with_entry logs e) (h ++ e ∷ [])
  legal_is_made over h e logs jobs l k m =
      let kept = history_kept S w h (history_front S w h (e ∷ []) l) in
      let f : Fits S w h h e = last_fits [] h e l.legal in
      let s : Stamps S w h e = last_stamped [] h e l.stamped in
      let same : k.history ≡ h = ordered_one k.history h k.merged.ordered m.ordered (λ n. k.merged.logged n ∙ sym (m.logged n)) in
      let y = k.live e.task (subst (λ g. Live g e.task) (sym same) (live_next over h e kept f)) in
      let b : Belongs S w h y.0 = subst (λ g. Belongs S w g y.0) same (k.belong y.0 y.1) in
      let r = has_others S y.0 jobs y.1 in
      let small = shard_small (object e) in
      let many = k.sixteen in (
        y.0,
        r.0,
        r.1,
        fitting_made h (get_or logs (shard e) []) y.0 e kept b y.2 f s (m.logged (shard e)),
        record { ordered = l.ordered; logged = parts_more logs h e (omega (arith, small, many)) m.logged },
      )
