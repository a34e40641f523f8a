-- Each legal history is reached, entry by entry.
use Rattle.std.proofs.Common.{List, [], ◌∷◌, ◌++◌, refl, sym, subst, replicate, append_assoc}
use Rattle.std.proofs.lemmas.List.{append-nil}
use Rattle.std.proofs.lemmas.List.Sorted.{IsPermutation-refl}
use Rattle.jt_base.specs.declared.entry.Entry.{Entry}
use Rattle.jt_base.specs.Jobs.{Held}
use Rattle.jt_laws.specs.Histories.{World, IsLegalHistory}
use Rattle.jt_histories.specs.Kept.{Laws}
use Rattle.jt_histories.specs.Merges.{IsMerge}
use Rattle.jt_histories.specs.Jobs.{Holds, main_job, left_after, coming}
use Rattle.jt_histories.specs.Made.{with_entry, Made}
use Rattle.jt_histories.specs.Rest.{EndsIt}
use Rattle.jt_histories.proofs.Keeps.{entry_keeps}
use Rattle.jt_histories.proofs.Start.{start_merged, holds_start}
use Rattle.jt_histories.proofs.Turning.{moved_keeps}
use Rattle.jt_histories.proofs.Resting.{history_front}
use Rattle.jt_histories.proofs.NextEntry.{legal_is_made}

module _ (S : Type 0) (w : World S) (laws : Laws S w) (over : EndsIt S w) where
  rest_is_made : (es front : List Entry) (logs : List (List Entry)) (jobs : List (Held S)) → IsLegalHistory S w (front ++ es) → Holds S w logs jobs → IsMerge logs front
      → (logs' : List (List Entry)) × (left : List (Held S)) × Made S w logs jobs es logs' left × IsMerge logs' (front ++ es)
  rest_is_made [] front logs jobs l k m = (logs, jobs, (refl, IsPermutation-refl jobs), subst (IsMerge logs) (sym (append-nil front)) m)
  rest_is_made (e ∷ es) front logs jobs l k m =
      let whole : IsLegalHistory S w ((front ++ e ∷ []) ++ es) = subst (IsLegalHistory S w) (sym (append_assoc front (e ∷ []) es)) l in
      let n = legal_is_made S w over front e logs jobs (history_front S w (front ++ e ∷ []) es whole) k m in
      let next = entry_keeps S w laws logs n.0 n.1 e (moved_keeps S w logs jobs (n.0 ∷ n.1) n.2 k) n.3 in
      let r = rest_is_made es (front ++ e ∷ []) (with_entry logs e) (left_after S w n.0 e (coming S w n.0) ++ n.1) whole next n.4 in
      (r.0, r.1, (n.0, n.1, n.2, n.3, r.2), subst (IsMerge r.0) (append_assoc front (e ∷ []) es) r.3)

  pub legal_is_reached : (h : List Entry) → IsLegalHistory S w h → (logs : List (List Entry)) × (left : List (Held S)) × Made S w (replicate 16 []) (main_job S w ∷ []) h logs left × IsMerge logs h
  legal_is_reached h l = rest_is_made h [] (replicate 16 []) (main_job S w ∷ []) l (holds_start S w) start_merged
