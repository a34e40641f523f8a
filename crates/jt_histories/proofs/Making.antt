-- Entries that jobs make one after another.
use Rattle.std.proofs.Common.{◌≡◌, ℕ, List, [], ◌∷◌, ◌++◌, sym, ap, ◌∙◌, subst, arith, length, nat_eq, get_or, append_assoc}
use Rattle.std.specs.List.Sorted.{IsPermutation}
use Rattle.std.proofs.lemmas.List.{append-nil}
use Rattle.std.proofs.lemmas.List.Elements.{filter-append}
use Rattle.std.proofs.lemmas.List.Sorted.{IsPermutation-refl, IsPermutation-trans, IsPermutation-append_left}
use Rattle.jt_base.specs.declared.entry.Entry.{Entry}
use Rattle.jt_base.specs.Jobs.{Held}
use Rattle.jt_laws.specs.Entries.{object, shard, of_shard, Ordered}
use Rattle.jt_laws.specs.Histories.{World}
use Rattle.jt_histories.specs.Kept.{Laws}
use Rattle.jt_histories.specs.Merges.{IsMerge}
use Rattle.jt_histories.specs.Jobs.{Makes, Holds, left_after, coming}
use Rattle.jt_histories.specs.Made.{with_entry, Made}
use Rattle.jt_histories.proofs.Orders.{shard_small}
use Rattle.jt_histories.proofs.Logs.{as_many, entry_logged}
use Rattle.jt_histories.proofs.Keeps.{entry_keeps}
use Rattle.jt_histories.proofs.Turning.{moved_keeps}

module _ (S : Type 0) (w : World S) (laws : Laws S w) where
  pub made_keeps : (es : List Entry) (logs logs' : List (List Entry)) (mine left rest : List (Held S)) → Holds S w logs (mine ++ rest) → Made S w logs mine es logs' left → Holds S w logs' (left ++ rest)
  made_keeps [] logs logs' mine left rest h t =
      moved_keeps S w logs' (mine ++ rest) (left ++ rest) (IsPermutation-append_left rest mine left t.1) (subst (λ l. Holds S w l (mine ++ rest)) t.0 h)
  made_keeps (e ∷ es) logs logs' mine left rest h t =
      let j = t.0 in
      let others = t.1 in
      let news = left_after S w j e (coming S w j) in
      let here : Holds S w logs (j ∷ (others ++ rest)) = moved_keeps S w logs (mine ++ rest) ((j ∷ others) ++ rest) (IsPermutation-append_left rest mine (j ∷ others) t.2) h in
      let next : Holds S w (with_entry logs e) (news ++ (others ++ rest)) = entry_keeps S w laws logs j (others ++ rest) e here t.3 in
      made_keeps es (with_entry logs e) logs' (news ++ others) left rest (subst (λ l. Holds S w (with_entry logs e) l) (sym (append_assoc news others rest)) next) t.4

module _ (S : Type 0) (w : World S) where
  pub made_grows : (es : List Entry) (logs logs' : List (List Entry)) (mine left : List (Held S)) → length logs ≡ 16 → Made S w logs mine es logs' left → (length logs' ≡ 16) × ((k : ℕ) → get_or logs' k [] ≡ get_or logs k [] ++ of_shard k es)
  made_grows [] logs logs' mine left n t = (ap length (sym t.0) ∙ n, λ k. ap (λ ls. get_or ls k []) (sym t.0) ∙ sym (append-nil (get_or logs k [])))
  made_grows (e ∷ es) logs logs' mine left n t =
      let more : length (with_entry logs e) ≡ 16 = as_many logs e ∙ n in
      let small = shard_small (object e) in
      let rest = made_grows es (with_entry logs e) logs' (left_after S w t.0 e (coming S w t.0) ++ t.1) left more t.4 in (
        rest.0,
        λ k. rest.1 k
            ∙ ap (λ l. l ++ of_shard k es) (entry_logged logs e (omega (arith, small, n)) k)
            ∙ append_assoc (get_or logs k []) (of_shard k (e ∷ [])) (of_shard k es)
            ∙ ap (λ l. get_or logs k [] ++ l) (sym (filter-append (λ x. nat_eq (shard x) k) (e ∷ []) es)),
      )

  pub merge_grows : (es h : List Entry) (logs logs' : List (List Entry)) (mine left : List (Held S)) → length logs ≡ 16 → Made S w logs mine es logs' left → IsMerge logs h → Ordered (h ++ es) → IsMerge logs' (h ++ es)
  merge_grows es h logs logs' mine left n t m o = record {
    ordered = o;
    logged = λ k. filter-append (λ x. nat_eq (shard x) k) h es ∙ ap (λ l. l ++ of_shard k es) (m.logged k) ∙ sym ((made_grows es logs logs' mine left n t).1 k);
  }

  -- one entry more at the end
  pub made_more : (es : List Entry) (logs logs' : List (List Entry)) (mine mid : List (Held S)) (j : Held S) (others : List (Held S)) (e : Entry) → Made S w logs mine es logs' mid → IsPermutation mid (j ∷ others) → Makes S w (get_or logs' (shard e) []) j e → Made S w logs mine (es ++ e ∷ []) (with_entry logs' e) (left_after S w j e (coming S w j) ++ others)
  made_more [] logs logs' mine mid j others e t p m = (
    j,
    others,
    IsPermutation-trans mine mid (j ∷ others) t.1 p,
    subst (λ ls. Makes S w (get_or ls (shard e) []) j e) (sym t.0) m,
    (ap (λ ls. with_entry ls e) t.0, IsPermutation-refl (left_after S w j e (coming S w j) ++ others)),
  )
  made_more (x ∷ es) logs logs' mine mid j others e t p m =
      (t.0, t.1, t.2, t.3, made_more es (with_entry logs x) logs' (left_after S w t.0 x (coming S w t.0) ++ t.1) mid j others e t.4 p m)
