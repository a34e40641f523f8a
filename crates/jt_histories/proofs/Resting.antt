-- The whole history of a run, its prefixes, and rest.
use Rattle.std.proofs.Common.{◌≡◌, ℕ, ◌<◌, List, [], ◌∷◌, ◌++◌, Some, None, Bool, true, false, cond, ◌⊎◌, inl, inr, refl, sym, ap, ◌∙◌, subst, map, get_or, nat_lt}
use Rattle.std.proofs.lemmas.Bool.{false≢true}
use Rattle.std.proofs.lemmas.List.{map-append}
use Rattle.jt_base.specs.declared.operation.Op.{Op}
use Rattle.jt_base.specs.declared.entry.Entry.{Entry}
use Rattle.jt_base.specs.Coming.{op_of}
use Rattle.jt_base.specs.Objects.{object_of, shard_of_object}
use Rattle.jt_laws.specs.Entries.{shard, same_path, ends, of_task, of_object, below, reply_of, In, Rising, key, Ordered}
use Rattle.jt_laws.specs.Objects.{reply_after}
use Rattle.jt_laws.specs.Histories.{World, Birth, birth_of, LegalFrom, StampedFrom, IsLegalHistory}
use Rattle.jt_laws.specs.Lines.{cut_at_main_end, is_main_end}
use Rattle.jt_laws.proofs.Paths.{same_itself, same_equal}
use Rattle.jt_histories.specs.Kept.{Kept}
use Rattle.jt_histories.specs.Merges.{IsMerge, AreLogs}
use Rattle.jt_base.specs.Jobs.{note_reply, Held}
use Rattle.jt_histories.specs.Jobs.{Has, Holds, coming}
use Rattle.jt_histories.specs.Rest.{AtRest, EndsIt, AllStuck, AtLimit, MeetsLimit}
use Rattle.jt_histories.proofs.Lists.{or_else, by_test, in_filter, filter_comm, in_left, each_in, each_from}
use Rattle.jt_histories.proofs.Locality.{shard_in, object_from_shard}
use Rattle.jt_histories.proofs.Stamped.{history_kept, list_below}
use Rattle.jt_histories.proofs.InOrder.{ordered_one}
use Rattle.jt_histories.proofs.Placed.{map_notes, fits_next, stamp_next}

ordered_front : (front back : List Entry) → Ordered (front ++ back) → Ordered front
ordered_front [] back o = tt
ordered_front (e ∷ es) back o = (each_from (λ x. key e < key x) es (λ x i. each_in (λ x. key e < key x) (es ++ back) x o.0 (in_left x es back i)), ordered_front es back o.1)

module _ (S : Type 0) (w : World S) where
  -- a prefix of a legal run is one
  pub legal_front : (past front back : List Entry) → LegalFrom S w past (front ++ back) → LegalFrom S w past front
  legal_front past [] back l = tt
  legal_front past (e ∷ es) back l = (l.0, legal_front (past ++ e ∷ []) es back l.1)

  pub holds_logs : (logs : List (List Entry)) (jobs : List (Held S)) → Holds S w logs jobs → AreLogs logs
  holds_logs logs jobs k = record {
    shards = λ n. each_from (λ e. shard e ≡ n) (get_or logs n []) (λ e i. (shard_in e n k.history (subst (In e) (sym (k.merged.logged n)) i)).1);
    rise = λ n. subst Rising (k.merged.logged n) ((history_kept S w k.history k.legal).shards_rise n);
  }

  stamped_front : (past front back : List Entry) → StampedFrom S w past (front ++ back) → StampedFrom S w past front
  stamped_front past [] back l = tt
  stamped_front past (e ∷ es) back l = (l.0, stamped_front (past ++ e ∷ []) es back l.1)

  pub history_front : (front back : List Entry) → IsLegalHistory S w (front ++ back) → IsLegalHistory S w front
  history_front front back l = record { legal = legal_front [] front back l.legal; stamped = stamped_front [] front back l.stamped; ordered = ordered_front front back l.ordered }

  pub merged_is : (logs : List (List Entry)) (jobs : List (Held S)) (h : List Entry) → Holds S w logs jobs → IsMerge logs h → IsLegalHistory S w h
  merged_is logs jobs h k m = subst (IsLegalHistory S w) (ordered_one k.history h k.merged.ordered m.ordered (λ n. k.merged.logged n ∙ sym (m.logged n))) k.legal

pub cut_front : (h : List Entry) → (rest : List Entry) × (h ≡ cut_at_main_end h ++ rest)
cut_front [] = ([], refl)
cut_front (e ∷ es) = at (is_main_end e) (cut_front es)
  where
    at : (b : Bool) → ((rest : List Entry) × (es ≡ cut_at_main_end es ++ rest)) → (rest : List Entry) × (e ∷ es ≡ (e ∷ cond b [] (cut_at_main_end es)) ++ rest)
    at true r = (es, refl)
    at false r = (r.0, ap (λ l. e ∷ l) r.1)

module _ (S : Type 0) (w : World S) where
  pub cut_is_legal : (h : List Entry) → IsLegalHistory S w h → IsLegalHistory S w (cut_at_main_end h)
  cut_is_legal h l = let parts = cut_front h in history_front S w (cut_at_main_end h) parts.0 (subst (IsLegalHistory S w) parts.1 l)

split_in : (xs : List Entry) (x : Entry) → In x xs → (front : List Entry) × (back : List Entry) × (xs ≡ front ++ x ∷ back)
split_in [] x i = absurd i
split_in (y ∷ ys) x i = or_else i
    (λ p. ([], ys, ap (λ z. z ∷ ys) p))
    (λ j. let r = split_in ys x j in (y ∷ r.0, r.1, ap (λ l. y ∷ l) r.2))

end_or_not : (h : List Entry) (p : List ℕ) → ((x : Entry) × In x h × (x.task ≡ p) × (ends x.op ≡ true)) ⊎ ((x : Entry) → In x h → x.task ≡ p → ends x.op ≡ false)
end_or_not [] p = inr (λ x i t. absurd i)
end_or_not (e ∷ es) p = or_else (end_or_not es p)
    (λ r. inl (r.0, inr r.1, r.2, r.3))
    (λ n. by_test (same_path e.task p)
    (λ y. by_test (ends e.op)
    (λ z. inl (e, inl refl, same_equal e.task p y, z))
    (λ z. inr (λ x i t. or_else i (λ q. subst (λ (v : Entry). ends v.op ≡ false) q z) (λ j. n x j t))))
    (λ y. inr (λ x i t. or_else i
    (λ q. absurd (false≢true (sym y ∙ ap (λ (v : Entry). same_path v.task p) q ∙ ap (λ v. same_path v p) t ∙ same_itself p)))
    (λ j. n x j t))))

module _ (S : Type 0) (w : World S) where
  -- nothing comes for a task that ended
  pub ended_over : EndsIt S w → (h : List Entry) → Kept S w h → (p : List ℕ) (b : Birth S) → birth_of S w h p ≡ Some b → (x : Entry) → In x h → x.task ≡ p → ends x.op ≡ true → op_of (w.next p b.start (map reply_of (of_task p h))) ≡ None
  ended_over over h k p b eb x i t y =
      let f = k.fits x i in
      let one : Some f.birth ≡ Some b = sym f.born ∙ ap (birth_of S w h) t ∙ eb in
      let same : f.birth ≡ b = cc in
      let j : In x (of_task p h) = in_filter (λ v. same_path v.task p) x h i (ap (λ q. same_path q p) t ∙ same_itself p) in
      let s = split_in (of_task p h) x j in
      let before : of_task x.task (below x.stamp h) ≡ s.0 = ap (λ q. of_task q (below x.stamp h)) t ∙ front_below p h x s.0 s.1 s.2 (k.tasks_rise p) in
      let came : op_of (w.next p b.start (map reply_of s.0)) ≡ Some x.op =
      ap (λ l. op_of (w.next p b.start (map reply_of l))) (sym before)
      ∙ ap (λ q. op_of (w.next q b.start (map reply_of (of_task x.task (below x.stamp h))))) (sym t)
      ∙ ap (λ (v : Birth S). op_of (w.next x.task v.start (map reply_of (of_task x.task (below x.stamp h))))) (sym same)
      ∙ f.comes in
      ap (λ l. op_of (w.next p b.start l)) (ap (map reply_of) s.2 ∙ map-append reply_of s.0 (x ∷ s.1))
      ∙ over p b.start (map reply_of s.0) x.op x.reply (map reply_of s.1) came y
    where
      front_below : (p : List ℕ) (h : List Entry) (x : Entry) (front back : List Entry) → of_task p h ≡ front ++ x ∷ back → Rising (of_task p h) → of_task p (below x.stamp h) ≡ front
      front_below p h x front back e r = filter_comm (λ v. same_path v.task p) (λ v. nat_lt v.stamp x.stamp) h
          ∙ ap (below x.stamp) e ∙ list_below front x back (subst Rising e r)

  -- where each job waits for what isn't allowed, the history is at rest
  pub at_rest : EndsIt S w → (logs : List (List Entry)) (jobs : List (Held S)) → (k : Holds S w logs jobs)
      → AllStuck S w logs jobs
      → AtRest S w k.history
  at_rest over logs jobs k stuck p made b eb op c = or_else (end_or_not k.history p)
      (λ x. absurd (none_some op (sym (ended_over over k.history (history_kept S w k.history k.legal) p b eb x.0 x.1 x.2 x.3) ∙ c)))
      (λ n.
      let y = k.live p (record { made = made; goes_on = n }) in
      let d = k.belong y.0 y.1 in
      let one : Some d.birth ≡ Some b = sym d.born ∙ ap (birth_of S w k.history) y.2 ∙ eb in
      let same : d.birth ≡ b = cc in
      let came : op_of (coming S w y.0) ≡ Some op =
      ap (λ s. op_of (w.next y.0.path s (map note_reply y.0.log))) (d.started ∙ ap (λ (v : Birth S). v.start) same)
      ∙ ap (λ l. op_of (w.next y.0.path b.start l)) (ap (map note_reply) d.noted ∙ map_notes (of_task y.0.path k.history))
      ∙ ap (λ q. op_of (w.next q b.start (map reply_of (of_task q k.history)))) y.2
      ∙ c in
      ap (λ q. reply_after (of_object (object_of q op) k.history) q op) (sym y.2)
      ∙ ap (λ l. reply_after l y.0.path op) (object_from_shard (object_of y.0.path op) k.history (get_or logs (shard_of_object (object_of y.0.path op)) []) (k.merged.logged (shard_of_object (object_of y.0.path op))))
      ∙ stuck y.0 y.1 op came)
    where
      none_some : (op : Op) → None ≡ Some op → ⊥
      none_some op e = cc

  -- the same of the merge of the logs
  pub merge_at_rest : EndsIt S w → (logs : List (List Entry)) (jobs : List (Held S)) (h : List Entry) → Holds S w logs jobs → AllStuck S w logs jobs → IsMerge logs h → AtRest S w h
  merge_at_rest over logs jobs h k stuck m =
      subst (AtRest S w) (ordered_one k.history h k.merged.ordered m.ordered (λ n. k.merged.logged n ∙ sym (m.logged n))) (at_rest over logs jobs k stuck)

  -- the limit that one job meets is met by the history
  limit_met : (logs : List (List Entry)) (jobs : List (Held S)) (j : Held S) (e : Entry) → (k : Holds S w logs jobs) → Has S j jobs → AtLimit S w (get_or logs (shard e) []) j e → MeetsLimit S w k.history
  limit_met logs jobs j e k i a =
      let b = k.belong j i in
      let s = k.merged.logged (shard e) in (
        e,
        fits_next S w k.history j e (get_or logs (shard e) []) b s a.task a.comes a.allowed a.works,
        subst (λ n. w.events < n) (stamp_next S w k.history j e (get_or logs (shard e) []) (history_kept S w k.history k.legal) b s a.task) a.beyond,
      )

  pub merge_meets : (logs : List (List Entry)) (jobs : List (Held S)) (h : List Entry) (j : Held S) (e : Entry) → Holds S w logs jobs → Has S j jobs → AtLimit S w (get_or logs (shard e) []) j e → IsMerge logs h → MeetsLimit S w h
  merge_meets logs jobs h j e k i a m =
      subst (MeetsLimit S w) (ordered_one k.history h k.merged.ordered m.ordered (λ n. k.merged.logged n ∙ sym (m.logged n))) (limit_met logs jobs j e k i a)
