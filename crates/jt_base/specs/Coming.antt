-- What comes next for a task.
use Rattle.std.specs.Prelude.{◌≡◌, ℕ, zero, suc, ◌+◌, List, [], ◌∷◌, ◌++◌, Option, Some, None, Bool, true, false}
use Rattle.jt_base.specs.declared.operation.How.{How}
use Rattle.jt_base.specs.declared.operation.Op.{Op}
use Rattle.jt_base.specs.declared.operation.Op.TheVariants.{Spawn}
use Rattle.jt_base.specs.declared.operation.Reply.{Reply}

-- an operation; a spawn with the child's start; or nothing any more
pub data Next (S : Type 0) : Type 0 where
  Needs : (op : Op) → Next S
  Spawns : (op : Op) (start : S) → Next S
  Over : Next S

abbrev pub op_of : {S : Type 0} → Option (Next S) → Option Op
op_of None = None
op_of (Some (Needs op)) = Some op
op_of (Some (Spawns op start)) = Some op
op_of (Some Over) = None

abbrev pub is_spawn : Op → Bool
is_spawn (Spawn path how) = true
is_spawn op = false

-- 1 where a task is spawned next
abbrev pub one_spawn : {S : Type 0} → Option (Next S) → ℕ
one_spawn None = 0
one_spawn (Some (Needs op)) = 0
one_spawn (Some (Spawns op start)) = 1
one_spawn (Some Over) = 0

-- how many spawns were answered by these replies, the further ones behind those before
abbrev pub spawned_from : {S : Type 0} → (List Reply → Option (Next S)) → List Reply → List Reply → ℕ
spawned_from next before [] = 0
spawned_from next before (r ∷ rs) = one_spawn (next before) + spawned_from next (before ++ r ∷ []) rs

abbrev pub spawned_by : {S : Type 0} → (List Reply → Option (Next S)) → List Reply → ℕ
spawned_by next replies = spawned_from next [] replies

-- an operation makes the child of this number
abbrev pub SpawnsChild : List ℕ → ℕ → Op → Type 0
SpawnsChild path k op = (how : How) × (op ≡ Spawn (path ++ k ∷ []) how)
