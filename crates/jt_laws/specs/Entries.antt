-- Entries: their objects and shards, and the parts of a list of entries.
use Rattle.std.specs.Prelude.{◌≡◌, ℕ, ◌+◌, ◌*◌, ◌<◌, List, [], ◌∷◌, Bool, true, false, ◌&&◌, nat_eq, nat_lt, max, filter, ◌⊎◌}
use Rattle.jt_base.specs.declared.operation.Op.{Op}
use Rattle.jt_base.specs.declared.operation.Op.TheVariants.{End, Fail, Spawn}
use Rattle.jt_base.specs.declared.operation.Reply.{Reply}
use Rattle.jt_base.specs.declared.entry.Entry.{Entry}
use Rattle.jt_base.specs.declared.name.Name.{Name}
use Rattle.jt_base.specs.declared.object.Object.{Object}
use Rattle.jt_base.specs.declared.object.Object.TheVariants.{Printer, Task, Named}
use Rattle.jt_base.specs.Names.{shards}
use Rattle.jt_base.specs.Objects.{object_of, shard_of_object}

abbrev pub same_path : List ℕ → List ℕ → Bool
same_path [] [] = true
same_path [] (y ∷ ys) = false
same_path (x ∷ xs) [] = false
same_path (x ∷ xs) (y ∷ ys) = nat_eq x y && same_path xs ys

abbrev pub same_name : Name → Name → Bool
same_name n m = nat_eq n.number m.number && same_path n.path m.path

abbrev pub same_object : Object → Object → Bool
same_object Printer Printer = true
same_object Printer (Task q) = false
same_object Printer (Named m) = false
same_object (Task p) Printer = false
same_object (Task p) (Task q) = same_path p q
same_object (Task p) (Named m) = false
same_object (Named n) Printer = false
same_object (Named n) (Task q) = false
same_object (Named n) (Named m) = same_name n m

abbrev pub object : Entry → Object
object e = object_of e.task e.op

abbrev pub shard : Entry → ℕ
shard e = shard_of_object (object e)

-- whether an operation makes the task of this path
abbrev pub spawns : Op → List ℕ → Bool
spawns (Spawn path how) q = same_path path q
spawns op q = false

-- whether an operation is a task's last
abbrev pub ends : Op → Bool
ends (End value) = true
ends (Fail fault) = true
ends op = false

abbrev pub reply_of : Entry → Reply
reply_of e = e.reply

-- the entries of a task, of an object, of a shard; those with a smaller stamp
abbrev pub of_task : List ℕ → List Entry → List Entry
of_task path h = filter (λ e. same_path e.task path) h

abbrev pub of_object : Object → List Entry → List Entry
of_object o h = filter (λ e. same_object (object e) o) h

abbrev pub of_shard : ℕ → List Entry → List Entry
of_shard k h = filter (λ e. nat_eq (shard e) k) h

abbrev pub below : ℕ → List Entry → List Entry
below stamp h = filter (λ e. nat_lt e.stamp stamp) h

-- the greatest stamp, or 0
abbrev pub top : List Entry → ℕ
top [] = 0
top (e ∷ es) = max e.stamp (top es)

-- an entry stands in a list
abbrev pub In : Entry → List Entry → Type 0
In e [] = ⊥
In e (x ∷ xs) = (x ≡ e) ⊎ In e xs

-- a fact holds of every entry
abbrev pub Each : (Entry → Type 0) → List Entry → Type 0
Each P [] = Unit {0}
Each P (x ∷ xs) = P x × Each P xs

-- strictly rising stamps
abbrev pub Rising : List Entry → Type 0
Rising [] = Unit {0}
Rising (e ∷ es) = Each (λ x. e.stamp < x.stamp) es × Rising es

-- the place of an entry in the order of stamp, then shard
abbrev pub key : Entry → ℕ
key e = e.stamp * shards + shard e

-- strictly rising by stamp, then shard
abbrev pub Ordered : List Entry → Type 0
Ordered [] = Unit {0}
Ordered (e ∷ es) = Each (λ x. key e < key x) es × Ordered es
