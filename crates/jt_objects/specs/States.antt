-- The state of any object that tasks share, and the one that a list of its entries leaves.
use Rattle.std.specs.Prelude.{ℤ, List, [], ◌∷◌, Option, Some, None, Bool, true, false, if◌then◌else◌, option_map}
use Rattle.std.specs.List.{list_all}
use Rattle.jt_base.specs.declared.object.Object.{Object}
use Rattle.jt_base.specs.declared.object.Object.TheVariants as object
use Rattle.jt_base.specs.declared.operation.Op.{Op}
use Rattle.jt_base.specs.declared.operation.Op.TheVariants.{NewChannel, NewAtomic, NewEvent, NewCondition, NewLock, NewSemaphore}
use Rattle.jt_base.specs.declared.entry.Entry.{Entry}
use Rattle.jt_laws.specs.Entries.{object, same_object}
use Rattle.jt_laws.specs.Channels.{Channel, channel_left_by}
use Rattle.jt_laws.specs.Atomics.{atomic_left_by}
use Rattle.jt_conditions.specs.declared.completion.Completion.{Completion}
use Rattle.jt_conditions.specs.Completions.{completion_left_by}
use Rattle.jt_conditions.specs.Events.{EventState, event_left_by}
use Rattle.jt_conditions.specs.Conditions.{Condition, condition_left_by}
use Rattle.jt_conditions.specs.Locks.{Holder, lock_left_by}
use Rattle.jt_conditions.specs.Semaphores.{Semaphore, semaphore_left_by}

-- the printer, which has none; a task's completion, none before its Spawn; a named object that isn't
-- made yet; and each kind of named object
pub data ObjectState : Type 0 where
  OfPrinter : ObjectState
  OfTask : (completion : Option Completion) → ObjectState
  Unmade : ObjectState
  OfChannel : (channel : Channel) → ObjectState
  OfAtomic : (value : ℤ) → ObjectState
  OfEvent : (event : EventState) → ObjectState
  OfCondition : (condition : Condition) → ObjectState
  OfLock : (holder : Option Holder) → ObjectState
  OfSemaphore : (semaphore : Semaphore) → ObjectState

-- the operations that make a named object
abbrev pub makes_object : Op → Bool
makes_object (NewChannel name capacity) = true
makes_object (NewAtomic name v) = true
makes_object (NewEvent name auto) = true
makes_object (NewCondition name) = true
makes_object (NewLock name) = true
makes_object (NewSemaphore name count) = true
makes_object op = false

-- each entry is one of the object
abbrev pub are_of : Object → List Entry → Bool
are_of o own = list_all (λ e. same_object (object e) o) own

-- a named object is of the kind that its first entry makes
abbrev pub made_by : Op → List Entry → Option ObjectState
made_by (NewChannel name capacity) own = option_map OfChannel (channel_left_by own)
made_by (NewAtomic name v) own = option_map OfAtomic (atomic_left_by own)
made_by (NewEvent name auto) own = option_map OfEvent (event_left_by own)
made_by (NewCondition name) own = option_map OfCondition (condition_left_by own)
made_by (NewLock name) own = option_map OfLock (lock_left_by own)
made_by (NewSemaphore name count) own = option_map OfSemaphore (semaphore_left_by own)
made_by op own = None

abbrev pub named_left_by : List Entry → Option ObjectState
named_left_by [] = Some Unmade
named_left_by (e ∷ es) = made_by e.op (e ∷ es)

abbrev pub state_of_object : Object → List Entry → Option ObjectState
state_of_object object.Printer own = Some OfPrinter
state_of_object (object.Task path) own = Some (OfTask (completion_left_by path own))
state_of_object (object.Named name) own = named_left_by own

-- the state that a list of the object's entries leaves
abbrev pub left_by : Object → List Entry → Option ObjectState
left_by o own = if are_of o own then state_of_object o own else None
