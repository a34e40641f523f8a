-- What is shared, as contracts see it, and what an operation needs of it beforehand.
use Rattle.std.specs.Prelude.{ℕ, ◌<◌, ◌^◌, List, Option}
use Rattle.jt_base.specs.declared.operation.Op.{Op}
use Rattle.jt_base.specs.declared.operation.Op.TheVariants.{Put, Offer, Lock, CWait}
use Rattle.jt_laws.specs.Channels.{Channel}
use Rattle.jt_channels.specs.Steps.{numbered}
use Rattle.jt_conditions.specs.Locks.{Holder, level_in}
use Rattle.jt_objects.specs.States.{ObjectState, OfPrinter, OfTask, Unmade, OfChannel, OfAtomic, OfEvent, OfCondition, OfLock, OfSemaphore}
use Rattle.jt_objects.specs.declared.shared.Shared.{Shared}
use Rattle.jt_objects.specs.declared.shared.Shared.TheVariants as shared

-- the state alone
abbrev pub state_of : Shared → ObjectState
state_of shared.Printer = OfPrinter
state_of (shared.Task completion) = OfTask completion
state_of shared.Unmade = Unmade
state_of (shared.Channel c) = OfChannel c.state
state_of (shared.Atomic v) = OfAtomic v
state_of (shared.Event e) = OfEvent e
state_of (shared.Condition c) = OfCondition c.state
state_of (shared.Lock holder) = OfLock holder
state_of (shared.Semaphore s) = OfSemaphore s

-- memory is reserved for the item or the waiting task that the operation leaves there
abbrev pub HasChannelRoom : ℕ → Op → Type 0
HasChannelRoom room (Put name v) = 0 < room
HasChannelRoom room (Offer name v) = 0 < room
HasChannelRoom room op = Unit {0}

abbrev pub HasConditionRoom : ℕ → Op → Type 0
HasConditionRoom room (CWait name) = 0 < room
HasConditionRoom room op = Unit {0}

abbrev pub HasObjectRoom : Shared → Op → Type 0
HasObjectRoom (shared.Channel c) op = HasChannelRoom c.room op
HasObjectRoom (shared.Condition c) op = HasConditionRoom c.room op
HasObjectRoom s op = Unit {0}

-- the number that the operation raises is small: that of a channel's offers, or the task's level of a
-- lock
abbrev pub HasFewOffers : Channel → Op → Type 0
HasFewOffers c (Offer name v) = numbered c < 2 ^ 32
HasFewOffers c op = Unit {0}

abbrev pub IsLevelSmall : Option Holder → List ℕ → Op → Type 0
IsLevelSmall holder task (Lock name) = level_in holder task < 2 ^ 32
IsLevelSmall holder task op = Unit {0}

abbrev pub IsWithin : ObjectState → List ℕ → Op → Type 0
IsWithin (OfChannel c) task op = HasFewOffers c op
IsWithin (OfCondition c) task op = IsLevelSmall c.holder task op
IsWithin (OfLock holder) task op = IsLevelSmall holder task op
IsWithin s task op = Unit {0}
