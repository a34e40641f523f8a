-- A named object is of the kind that its first entry makes.
use Rattle.std.proofs.Common.{◌≡◌, List, Option, Some, None, Bool, true, false, refl, sym, ap, ◌∙◌}
use Rattle.std.specs.Prelude.{ℤ, option_map}
use Rattle.jt_base.specs.declared.operation.Op.{Op}
use Rattle.jt_base.specs.declared.operation.Op.TheVariants.{NewChannel, NewAtomic, NewEvent, NewCondition, NewLock, NewSemaphore}
use Rattle.jt_base.specs.declared.entry.Entry.{Entry}
use Rattle.jt_base.specs.declared.value.Kind.{Kind}
use Rattle.jt_base.specs.declared.value.Kind.TheVariants as kind
use Rattle.jt_laws.specs.Channels.{Channel, channel_left_by}
use Rattle.jt_laws.specs.Atomics.{atomic_left_by}
use Rattle.jt_conditions.specs.Events.{EventState, event_left_by}
use Rattle.jt_conditions.specs.Conditions.{Condition, condition_left_by}
use Rattle.jt_conditions.specs.Locks.{Holder, lock_left_by}
use Rattle.jt_conditions.specs.Semaphores.{Semaphore, semaphore_left_by}
use Rattle.jt_objects.specs.States.{ObjectState, OfPrinter, OfTask, Unmade, OfChannel, OfAtomic, OfEvent, OfCondition, OfLock, OfSemaphore, made_by}

abbrev pub kind_of : ObjectState → Option Kind
kind_of OfPrinter = None
kind_of (OfTask completion) = None
kind_of Unmade = None
kind_of (OfChannel c) = Some kind.Channel
kind_of (OfAtomic v) = Some kind.Atomic
kind_of (OfEvent e) = Some kind.Event
kind_of (OfCondition c) = Some kind.Condition
kind_of (OfLock holder) = Some kind.Lock
kind_of (OfSemaphore s) = Some kind.Semaphore

abbrev pub kind_by : Op → Option Kind
kind_by (NewChannel name capacity) = Some kind.Channel
kind_by (NewAtomic name v) = Some kind.Atomic
kind_by (NewEvent name auto) = Some kind.Event
kind_by (NewCondition name) = Some kind.Condition
kind_by (NewLock name) = Some kind.Lock
kind_by (NewSemaphore name count) = Some kind.Semaphore
kind_by op = None

mapped : {A : Type 0} (o : Option A) (f : A → ObjectState) (s : ObjectState) → option_map f o ≡ Some s → (a : A) × (o ≡ Some a) × (f a ≡ s)
mapped None f s h = absurd (cc)
mapped (Some a) f s h = (a, refl, cc)

kind_made : (op : Op) (own : List Entry) (s : ObjectState) → made_by op own ≡ Some s → kind_of s ≡ kind_by op
kind_made (NewChannel name c) own s h = sym (ap kind_of (mapped (channel_left_by own) OfChannel s h).2)
kind_made (NewAtomic name v) own s h = sym (ap kind_of (mapped (atomic_left_by own) OfAtomic s h).2)
kind_made (NewEvent name auto) own s h = sym (ap kind_of (mapped (event_left_by own) OfEvent s h).2)
kind_made (NewCondition name) own s h = sym (ap kind_of (mapped (condition_left_by own) OfCondition s h).2)
kind_made (NewLock name) own s h = sym (ap kind_of (mapped (lock_left_by own) OfLock s h).2)
kind_made (NewSemaphore name n) own s h = sym (ap kind_of (mapped (semaphore_left_by own) OfSemaphore s h).2)
kind_made op own s h = absurd (cc)

-- it is a named object of some kind
abbrev pub has_kind : Option Kind → Bool
has_kind None = false
has_kind (Some k) = true

pub is_made : (op : Op) (own : List Entry) (s : ObjectState) → made_by op own ≡ Some s → has_kind (kind_of s) ≡ true
is_made (NewChannel name c) own s h = ap has_kind (kind_made (NewChannel name c) own s h)
is_made (NewAtomic name v) own s h = ap has_kind (kind_made (NewAtomic name v) own s h)
is_made (NewEvent name auto) own s h = ap has_kind (kind_made (NewEvent name auto) own s h)
is_made (NewCondition name) own s h = ap has_kind (kind_made (NewCondition name) own s h)
is_made (NewLock name) own s h = ap has_kind (kind_made (NewLock name) own s h)
is_made (NewSemaphore name n) own s h = ap has_kind (kind_made (NewSemaphore name n) own s h)
is_made op own s h = absurd (cc)

-- the states of one kind are those that its own definition gives
pub record IsKind (S : Type 0) (left : List Entry → Option S) (into : S → ObjectState) : Type 0 where
  pub kind : Kind
  pub is : (s : S) → kind_of (into s) ≡ Some kind
  pub same : (a b : S) → into a ≡ into b → a ≡ b
  pub here : (op : Op) → kind_by op ≡ Some kind → (own : List Entry) → made_by op own ≡ option_map into (left own)

module _ (S : Type 0) (left : List Entry → Option S) (into : S → ObjectState) (k : IsKind S left into) where
  pub made : (s : S) → has_kind (kind_of (into s)) ≡ true
  made s = ap has_kind (k.is s)

  made_here : (op : Op) (own : List Entry) (s : S) → made_by op own ≡ Some (into s) → (more : List Entry) → made_by op more ≡ option_map into (left more)
  made_here op own s h = k.here op (sym (kind_made op own (into s) h) ∙ k.is s)

  pub down : (op : Op) (own : List Entry) (s : S) → made_by op own ≡ Some (into s) → left own ≡ Some s
  down op own s h =
      let m = mapped (left own) into (into s) (sym (made_here op own s h own) ∙ h) in m.1 ∙ ap Some (k.same m.0 s m.2)

  pub up : (op : Op) (own : List Entry) (s : S) → made_by op own ≡ Some (into s) → (more : List Entry) (t : S) → left more ≡ Some t → made_by op more ≡ Some (into t)
  up op own s h more t l = made_here op own s h more ∙ ap (option_map into) l

channel_here : (op : Op) → kind_by op ≡ Some kind.Channel → (own : List Entry) → made_by op own ≡ option_map OfChannel (channel_left_by own)
channel_here (NewChannel name c) h own = refl
channel_here op h own = absurd (cc)

pub channels : IsKind Channel channel_left_by OfChannel
channels = record {
  kind = kind.Channel;
  is = λ s. refl;
  same = λ a b h. cc;
  here = channel_here;
}

atomic_here : (op : Op) → kind_by op ≡ Some kind.Atomic → (own : List Entry) → made_by op own ≡ option_map OfAtomic (atomic_left_by own)
atomic_here (NewAtomic name v) h own = refl
atomic_here op h own = absurd (cc)

pub atomics : IsKind ℤ atomic_left_by OfAtomic
atomics = record {
  kind = kind.Atomic;
  is = λ s. refl;
  same = λ a b h. cc;
  here = atomic_here;
}

event_here : (op : Op) → kind_by op ≡ Some kind.Event → (own : List Entry) → made_by op own ≡ option_map OfEvent (event_left_by own)
event_here (NewEvent name auto) h own = refl
event_here op h own = absurd (cc)

pub events : IsKind EventState event_left_by OfEvent
events = record {
  kind = kind.Event;
  is = λ s. refl;
  same = λ a b h. cc;
  here = event_here;
}

condition_here : (op : Op) → kind_by op ≡ Some kind.Condition → (own : List Entry) → made_by op own ≡ option_map OfCondition (condition_left_by own)
condition_here (NewCondition name) h own = refl
condition_here op h own = absurd (cc)

pub conditions : IsKind Condition condition_left_by OfCondition
conditions = record {
  kind = kind.Condition;
  is = λ s. refl;
  same = λ a b h. cc;
  here = condition_here;
}

lock_here : (op : Op) → kind_by op ≡ Some kind.Lock → (own : List Entry) → made_by op own ≡ option_map OfLock (lock_left_by own)
lock_here (NewLock name) h own = refl
lock_here op h own = absurd (cc)

pub locks : IsKind (Option Holder) lock_left_by OfLock
locks = record {
  kind = kind.Lock;
  is = λ s. refl;
  same = λ a b h. cc;
  here = lock_here;
}

semaphore_here : (op : Op) → kind_by op ≡ Some kind.Semaphore → (own : List Entry) → made_by op own ≡ option_map OfSemaphore (semaphore_left_by own)
semaphore_here (NewSemaphore name n) h own = refl
semaphore_here op h own = absurd (cc)

pub semaphores : IsKind Semaphore semaphore_left_by OfSemaphore
semaphores = record {
  kind = kind.Semaphore;
  is = λ s. refl;
  same = λ a b h. cc;
  here = semaphore_here;
}
