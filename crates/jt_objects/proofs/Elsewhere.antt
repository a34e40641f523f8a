-- The operations on one kind of named object have a named object.
use Rattle.std.proofs.Common.{◌≡◌, ℕ, List, false, refl}
use Rattle.jt_base.specs.declared.operation.Op.{Op}
use Rattle.jt_base.specs.declared.operation.Op.TheVariants.{Notify, Reset, EWait, Lock, Unlock, Acquire, Release}
use Rattle.jt_base.specs.declared.name.Name.{Name}
use Rattle.jt_base.specs.declared.object.Object.TheVariants.{Named}
use Rattle.jt_base.specs.Objects.{object_of}
use Rattle.jt_conditions.specs.Events.{is_event_op}
use Rattle.jt_conditions.specs.Locks.{is_lock_op}
use Rattle.jt_conditions.specs.Semaphores.{is_semaphore_op}

pub event_elsewhere : (op : Op) (task : List ℕ) → ((name : Name) → object_of task op ≡ Named name → ⊥) → is_event_op op ≡ false
event_elsewhere (Notify name) task n = absurd (n name refl)
event_elsewhere (Reset name) task n = absurd (n name refl)
event_elsewhere (EWait name) task n = absurd (n name refl)
event_elsewhere op task n = refl

pub lock_elsewhere : (op : Op) (task : List ℕ) → ((name : Name) → object_of task op ≡ Named name → ⊥) → is_lock_op op ≡ false
lock_elsewhere (Lock name) task n = absurd (n name refl)
lock_elsewhere (Unlock name) task n = absurd (n name refl)
lock_elsewhere op task n = refl

pub semaphore_elsewhere : (op : Op) (task : List ℕ) → ((name : Name) → object_of task op ≡ Named name → ⊥) → is_semaphore_op op ≡ false
semaphore_elsewhere (Acquire name) task n = absurd (n name refl)
semaphore_elsewhere (Release name) task n = absurd (n name refl)
semaphore_elsewhere op task n = refl
