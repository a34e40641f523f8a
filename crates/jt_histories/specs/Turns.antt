-- What happens to one shard while it is open: entries in turn, each by a job that is there.
use Rattle.std.specs.Prelude.{◌≡◌, ℕ, List, [], ◌∷◌, ◌++◌}
use Rattle.std.specs.List.Sorted.{IsPermutation}
use Rattle.jt_base.specs.declared.entry.Entry.{Entry}
use Rattle.jt_laws.specs.Entries.{shard}
use Rattle.jt_laws.specs.Histories.{World}
use Rattle.jt_base.specs.Jobs.{Held}
use Rattle.jt_histories.specs.Jobs.{Makes, left_after, coming}

module _ (S : Type 0) (world : World S) where
  -- from the log of shard k and these jobs, by these further entries in turn, to those jobs
  abbrev pub Turns : ℕ → List Entry → List (Held S) → List Entry → List (Held S) → Type 0
  Turns k log mine [] mine' = IsPermutation mine mine'
  Turns k log mine (e ∷ es) mine' =
      (j : Held S) × (others : List (Held S)) × IsPermutation mine (j ∷ others) × (shard e ≡ k) × Makes S world log j e
      × Turns k (log ++ e ∷ []) (left_after S world j e (coming S world j) ++ others) es mine'
