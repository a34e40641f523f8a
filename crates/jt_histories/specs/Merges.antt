-- The merge of sixteen logs: their entries in the order of stamp, then shard.
use Rattle.std.specs.Prelude.{◌≡◌, ℕ, List, [], ◌∷◌, cond, nat_lt, get_or, Vec}
use Rattle.std.specs.Global.{Global}
use Rattle.jt_base.specs.declared.entry.Entry.{Entry}
use Rattle.jt_laws.specs.Entries.{shard, of_shard, Each, Rising, Ordered, key}

-- h is the merge of these logs, of which the k-th is that of shard k
pub record IsMerge (logs : List (List Entry)) (h : List Entry) : Type 0 where
  pub ordered : Ordered h
  pub logged : (k : ℕ) → of_shard k h ≡ get_or logs k []

-- each entry stands in its shard's log, and the stamps of each log rise
pub record AreLogs (logs : List (List Entry)) : Type 0 where
  pub shards : (k : ℕ) → Each (λ e. shard e ≡ k) (get_or logs k [])
  pub rise : (k : ℕ) → Rising (get_or logs k [])

abbrev pub items_of : Vec Entry Global → List Entry
items_of log = log.items

-- an entry put in its place
abbrev pub insert_entry : Entry → List Entry → List Entry
insert_entry e [] = e ∷ []
insert_entry e (x ∷ xs) = cond (nat_lt (key e) (key x)) (e ∷ x ∷ xs) (x ∷ insert_entry e xs)

abbrev pub in_order : List Entry → List Entry
in_order [] = []
in_order (e ∷ es) = insert_entry e (in_order es)
