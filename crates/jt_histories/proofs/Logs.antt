-- One entry more at the end of its shard's log.
use Rattle.std.proofs.Common.{◌≡◌, ℕ, ◌<◌, List, [], ◌∷◌, ◌++◌, sym, ap, ◌∙◌, nat_eq, length, get_or}
use Rattle.std.proofs.lemmas.Bool.{eqb-true, eqb-false}
use Rattle.std.proofs.lemmas.List.{append-nil, length-set, get_or-set_same, get_or-set_other}
use Rattle.std.proofs.lemmas.List.Elements.{filter-append}
use Rattle.jt_base.specs.declared.entry.Entry.{Entry}
use Rattle.jt_laws.specs.Entries.{shard, of_shard}
use Rattle.jt_histories.specs.Made.{with_entry}
use Rattle.jt_histories.proofs.Lists.{by_test, filter_yes, filter_no}

pub as_many : (logs : List (List Entry)) (e : Entry) → length (with_entry logs e) ≡ length logs
as_many logs e = length-set logs (shard e) (get_or logs (shard e) [] ++ e ∷ [])

-- each log goes on by the entry where it is of this shard
pub entry_logged : (logs : List (List Entry)) (e : Entry) → shard e < length logs → (k : ℕ) → get_or (with_entry logs e) k [] ≡ get_or logs k [] ++ of_shard k (e ∷ [])
entry_logged logs e r k = by_test (nat_eq (shard e) k)
    (λ y. let q = eqb-true (shard e) k y in
    ap (λ n. get_or (with_entry logs e) n []) (sym q)
    ∙ get_or-set_same logs (shard e) (get_or logs (shard e) [] ++ e ∷ []) [] r
    ∙ ap (λ n. get_or logs n [] ++ e ∷ []) q
    ∙ ap (λ l. get_or logs k [] ++ l) (sym (filter_yes (λ x. nat_eq (shard x) k) e [] y)))
    (λ n. get_or-set_other logs (shard e) k (get_or logs (shard e) [] ++ e ∷ []) [] (λ q. eqb-false (shard e) k n (sym q))
    ∙ sym (append-nil (get_or logs k []))
    ∙ ap (λ l. get_or logs k [] ++ l) (sym (filter_no (λ x. nat_eq (shard x) k) e [] n)))

-- where the logs are the parts of a list by shard, so they are with the entry behind both
pub parts_more : (logs : List (List Entry)) (h : List Entry) (e : Entry) → shard e < length logs → ((k : ℕ) → of_shard k h ≡ get_or logs k []) → (k : ℕ) → of_shard k (h ++ e ∷ []) ≡ get_or (with_entry logs e) k []
parts_more logs h e r m k =
    filter-append (λ x. nat_eq (shard x) k) h (e ∷ []) ∙ ap (λ l. l ++ of_shard k (e ∷ [])) (m k) ∙ sym (entry_logged logs e r k)
