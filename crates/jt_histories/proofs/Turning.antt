-- Jobs that only change places; and one shard from its opening to its shut.
use Rattle.std.proofs.Common.{◌≡◌, ℕ, ◌<◌, List, [], ◌∷◌, ◌++◌, sym, ap, ◌∙◌, subst, arith, get_or, set, append_assoc}
use Rattle.std.specs.List.Sorted.{IsPermutation}
use Rattle.std.proofs.lemmas.List.{append-nil, set-set, get_or-set_same, set-get_or}
use Rattle.std.proofs.lemmas.List.Sorted.{IsPermutation-sym, IsPermutation-refl, IsPermutation-trans, IsPermutation-append_left}
use Rattle.jt_base.specs.declared.entry.Entry.{Entry}
use Rattle.jt_laws.specs.Entries.{shard}
use Rattle.jt_laws.specs.Histories.{World}
use Rattle.jt_histories.specs.Kept.{Laws}
use Rattle.jt_base.specs.Jobs.{Held}
use Rattle.jt_histories.specs.Jobs.{Makes, Holds, left_after, coming}
use Rattle.jt_histories.specs.Made.{with_entry}
use Rattle.jt_histories.specs.Turns.{Turns}
use Rattle.jt_histories.proofs.Members.{has_moved}
use Rattle.jt_histories.proofs.OnePaths.{one_moved}
use Rattle.jt_histories.proofs.Keeps.{entry_keeps, holds_moved}

module _ (S : Type 0) (w : World S) where
  -- one more turn at the end
  pub turns_more : (k : ℕ) (more : List Entry) (log : List Entry) (mine mid : List (Held S)) (j : Held S) (others : List (Held S)) (e : Entry) → Turns S w k log mine more mid → IsPermutation mid (j ∷ others) → shard e ≡ k → Makes S w (log ++ more) j e → Turns S w k log mine (more ++ e ∷ []) (left_after S w j e (coming S w j) ++ others)
  turns_more k [] log mine mid j others e t p s m =
      (j, others, IsPermutation-trans mine mid (j ∷ others) t p, s, subst (λ l. Makes S w l j e) (append-nil log) m, IsPermutation-refl (left_after S w j e (coming S w j) ++ others))
  turns_more k (x ∷ more) log mine mid j others e t p s m = (
    t.0,
    t.1,
    t.2,
    t.3,
    t.4,
    turns_more k more (log ++ x ∷ []) (left_after S w t.0 x (coming S w t.0) ++ t.1) mid j others e t.5 p s (subst (λ l. Makes S w l j e) (sym (append_assoc log (x ∷ []) more)) m),
  )

  -- jobs that only change places
  pub moved_keeps : (logs : List (List Entry)) (jobs jobs' : List (Held S)) → IsPermutation jobs jobs' → Holds S w logs jobs → Holds S w logs jobs'
  moved_keeps logs jobs jobs' p k = holds_moved S w logs jobs jobs' k
      (has_moved S jobs jobs' p) (has_moved S jobs' jobs (IsPermutation-sym jobs jobs' p)) (one_moved S jobs jobs' p k.one_path)

module _ (S : Type 0) (w : World S) (laws : Laws S w) where
  pub shut_keeps : (k : ℕ) → k < 16 → (more : List Entry) (logs : List (List Entry)) (log : List Entry) (mine mine' rest : List (Held S)) → get_or logs k [] ≡ log → Holds S w logs (mine ++ rest) → Turns S w k log mine more mine' → Holds S w (set logs k (log ++ more)) (mine' ++ rest)
  shut_keeps k small [] logs log mine mine' rest e h t =
      subst (λ l. Holds S w l (mine' ++ rest)) (sym (ap (set logs k) (append-nil log ∙ sym e) ∙ set-get_or logs k []))
      (moved_keeps S w logs (mine ++ rest) (mine' ++ rest) (IsPermutation-append_left rest mine mine' t) h)
  shut_keeps k small (x ∷ more) logs log mine mine' rest e h t =
      let j = t.0 in
      let others = t.1 in
      let here : Holds S w logs (j ∷ (others ++ rest)) = moved_keeps S w logs (mine ++ rest) ((j ∷ others) ++ rest) (IsPermutation-append_left rest mine (j ∷ others) t.2) h in
      let at : shard x ≡ k = t.3 in
      let makes : Makes S w (get_or logs (shard x) []) j x = subst (λ l. Makes S w l j x) (sym (ap (λ n. get_or logs n []) at ∙ e)) t.4 in
      let after = entry_keeps S w laws logs j (others ++ rest) x here makes in
      let logs2 = set logs k (log ++ x ∷ []) in
      let same : with_entry logs x ≡ logs2 =
      ap (λ n. set logs n (get_or logs n [] ++ x ∷ [])) at ∙ ap (λ l. set logs k (l ++ x ∷ [])) e in
      let next : Holds S w logs2 ((left_after S w j x (coming S w j) ++ others) ++ rest) =
      subst (λ l. Holds S w logs2 l) (sym (append_assoc (left_after S w j x (coming S w j)) others rest)) (subst (λ l. Holds S w l (left_after S w j x (coming S w j) ++ (others ++ rest))) same after) in
      let many = h.sixteen in
      let again : get_or logs2 k [] ≡ log ++ x ∷ [] = get_or-set_same logs k (log ++ x ∷ []) [] (omega (arith, small, many)) in
      subst (λ l. Holds S w l (mine' ++ rest)) (set-set logs k (log ++ x ∷ []) ((log ++ x ∷ []) ++ more) ∙ ap (set logs k) (append_assoc log (x ∷ []) more))
      (shut_keeps k small more logs2 (log ++ x ∷ []) (left_after S w j x (coming S w j) ++ others) mine' rest again next t.5)
