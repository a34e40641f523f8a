-- Amid an opening: jobs move between the open shards and the hand, and a job of the hand makes an entry.
use Rattle.std.proofs.Common.{List, [], ◌∷◌, ◌++◌, refl, subst, get_or, append_assoc}
use Rattle.std.specs.List.Sorted.{IsPermutation}
use Rattle.std.proofs.lemmas.List.Sorted.{IsPermutation-refl, IsPermutation-trans, IsPermutation-append_left, IsPermutation-append_right, IsPermutation-append_comm, IsPermutation-middle}
use Rattle.jt_base.specs.declared.entry.Entry.{Entry}
use Rattle.jt_base.specs.Jobs.{Held}
use Rattle.jt_laws.specs.Entries.{shard}
use Rattle.jt_laws.specs.Histories.{World}
use Rattle.jt_histories.specs.Jobs.{Makes, left_after, coming}
use Rattle.jt_histories.specs.Made.{with_entry, Amid}
use Rattle.jt_histories.proofs.Making.{made_more}

-- the first two of three parts change places
swapped : {A : Type 0} (a b c : List A) → IsPermutation (a ++ (b ++ c)) (b ++ (a ++ c))
swapped a b c = subst (λ l. IsPermutation l (b ++ (a ++ c))) (append_assoc a b c)
    (subst (IsPermutation ((a ++ b) ++ c)) (append_assoc b a c) (IsPermutation-append_left c (a ++ b) (b ++ a) (IsPermutation-append_comm a b)))

module _ (S : Type 0) (w : World S) (logs : List (List Entry)) (mine : List (Held S)) where
  pub amid_begins : (inside hand : List (Held S)) → IsPermutation mine (inside ++ hand) → Amid S w logs mine logs inside hand
  amid_begins inside hand p = record { entries = []; left = mine; made = (refl, IsPermutation-refl mine); split = p }

  pub amid_moves : (logs' : List (List Entry)) (inside hand inside' hand' : List (Held S)) → Amid S w logs mine logs' inside hand → IsPermutation (inside ++ hand) (inside' ++ hand') → Amid S w logs mine logs' inside' hand'
  amid_moves logs' inside hand inside' hand' a p = record { entries = a.entries; left = a.left; made = a.made; split = IsPermutation-trans a.left (inside ++ hand) (inside' ++ hand') a.split p }

  pub amid_enters : (logs' : List (List Entry)) (inside hand : List (Held S)) (j : Held S) (others : List (Held S)) (e : Entry) → Amid S w logs mine logs' inside hand → IsPermutation hand (j ∷ others) → Makes S w (get_or logs' (shard e) []) j e → Amid S w logs mine (with_entry logs' e) inside (left_after S w j e (coming S w j) ++ others)
  amid_enters logs' inside hand j others e a p m =
      let news = left_after S w j e (coming S w j) in
      let first : IsPermutation (inside ++ hand) (j ∷ (inside ++ others)) =
      IsPermutation-trans (inside ++ hand) (inside ++ (j ∷ others)) (j ∷ (inside ++ others)) (IsPermutation-append_right inside hand (j ∷ others) p) (IsPermutation-middle inside j others) in
      record {
        entries = a.entries ++ e ∷ [];
        left = news ++ (inside ++ others);
        made = made_more S w a.entries logs logs' mine a.left j (inside ++ others) e a.made (IsPermutation-trans a.left (inside ++ hand) (j ∷ (inside ++ others)) a.split first) m;
        split = swapped news inside others;
      }
