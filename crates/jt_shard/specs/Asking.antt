-- Whether an object in a state allows a task's operation.
use Rattle.std.specs.Prelude.{ℕ, List, true, false}
use Rattle.jt_base.specs.declared.operation.Op.{Op}
use Rattle.jt_base.specs.Objects.{object_of}
use Rattle.jt_laws.specs.Objects.{Allowed}
use Rattle.jt_objects.specs.States.{ObjectState, left_by}
use Rattle.jt_objects.specs.Needs.{state_of, HasObjectRoom}
use Rattle.jt_objects.specs.declared.shared.Shared.{Shared}

-- the operation is allowed, or isn't, whatever lawful entries of its object left the state
abbrev pub Allows : Shared → List ℕ → Op → Type 0
Allows s task op = Allowed ObjectState (left_by (object_of task op)) task op (state_of s) true

abbrev pub Refuses : Shared → List ℕ → Op → Type 0
Refuses s task op = Allowed ObjectState (left_by (object_of task op)) task op (state_of s) false

-- memory is reserved in the object for whatever operation comes next
abbrev pub HasAnyRoom : Shared → Type 0
HasAnyRoom s = (op : Op) → HasObjectRoom s op
