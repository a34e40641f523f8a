-- Entries that jobs make one after another, each at whatever shard, and an opening of several shards.
use Rattle.std.specs.Prelude.{◌≡◌, List, [], ◌∷◌, ◌++◌, get_or, set}
use Rattle.std.specs.List.Sorted.{IsPermutation}
use Rattle.jt_base.specs.declared.entry.Entry.{Entry}
use Rattle.jt_base.specs.Jobs.{Held}
use Rattle.jt_laws.specs.Entries.{shard}
use Rattle.jt_laws.specs.Histories.{World}
use Rattle.jt_histories.specs.Jobs.{Makes, left_after, coming}

-- an entry at the end of its shard's log
abbrev pub with_entry : List (List Entry) → Entry → List (List Entry)
with_entry logs e = set logs (shard e) (get_or logs (shard e) [] ++ e ∷ [])

module _ (S : Type 0) (world : World S) where
  -- from these logs and jobs, by these entries in the order in which they are made, to those logs and jobs
  abbrev pub Made : List (List Entry) → List (Held S) → List Entry → List (List Entry) → List (Held S) → Type 0
  Made logs mine [] logs' left = (logs ≡ logs') × IsPermutation mine left
  Made logs mine (e ∷ es) logs' left =
      (j : Held S) × (others : List (Held S)) × IsPermutation mine (j ∷ others) × Makes S world (get_or logs (shard e) []) j e
      × Made (with_entry logs e) (left_after S world j e (coming S world j) ++ others) es logs' left

  -- Amid an opening of several shards, which began with these logs and jobs: entries were made that led to
  -- those logs, and of the jobs that they left some are inside the open shards and the others in the hand.
  pub record Amid (logs : List (List Entry)) (mine : List (Held S)) (logs' : List (List Entry)) (inside hand : List (Held S)) : Type 0 where
    pub entries : List Entry
    pub left : List (Held S)
    pub made : Made logs mine entries logs' left
    pub split : IsPermutation left (inside ++ hand)
