use Rattle.std.proofs.Common.{◌≡◌, ℕ, List, Option, Bool, sym, subst}
use Rattle.std.specs.Prelude.{ℤ}
use Rattle.jt_base.specs.declared.operation.Op.{Op}
use Rattle.jt_base.specs.Objects.{object_of}
use Rattle.jt_laws.specs.Channels.{Channel, channel_left_by}
use Rattle.jt_laws.specs.Atomics.{atomic_left_by}
use Rattle.jt_laws.specs.Objects.{Allowed}
use Rattle.jt_conditions.specs.Conditions.{Condition, condition_left_by}
use Rattle.jt_conditions.specs.Events.{EventState, event_left_by}
use Rattle.jt_conditions.specs.Locks.{Holder, lock_left_by}
use Rattle.jt_conditions.specs.Semaphores.{Semaphore, semaphore_left_by}
use Rattle.jt_objects.specs.declared.shared.Shared.{Shared}
use Rattle.jt_objects.specs.States.{ObjectState, OfChannel, OfAtomic, OfEvent, OfCondition, OfLock, OfSemaphore, left_by}
use Rattle.jt_objects.specs.Needs.{state_of}
use Rattle.jt_objects.proofs.KindLeft.{channels, atomics, events, conditions, locks, semaphores}
use Rattle.jt_objects.proofs.Left as kind
use Rattle.jt_objects.proofs.Answering.{unmade_allowed}
use Rattle.jt_objects.proofs.shared.Shared.allows.Goals as goal

-- of a state under another name
at : (task : List ℕ) (op : Op) (self variant : Shared) (answer : Bool) → self ≡ variant → Allowed ObjectState (left_by (object_of task op)) task op (state_of variant) answer → Allowed ObjectState (left_by (object_of task op)) task op (state_of self) answer
at task op self variant answer is a =
    subst (λ (s : Shared). Allowed ObjectState (left_by (object_of task op)) task op (state_of s) answer) (sym is) a

pub returns-in-Task : goal.returns-in-Task
returns-in-Task c =
    at c.args.task.now c.args.op.now c.args.self.now _ c.allows_task.result c.in-Task.is (c.allows_task.ensures c.args.task.now)

pub returns-in-Unmade : goal.returns-in-Unmade
returns-in-Unmade c =
    at c.args.task.now c.args.op.now c.args.self.now _ c.makes_object.result c.in-Unmade.is (unmade_allowed c.args.task.now c.args.op.now c.makes_object.result c.makes_object.ensures)

pub returns-in-Channel : goal.returns-in-Channel
returns-in-Channel c =
    let given = c.allows in
    at c.args.task.now c.args.op.now c.args.self.now _ given.result c.in-Channel.is (kind.allowed Channel channel_left_by OfChannel channels c.args.task.now c.args.op.now c.in-Channel.channel.state given.result (given.ensures.law c.args.task.now))

pub returns-in-Atomic : goal.returns-in-Atomic
returns-in-Atomic c =
    let given = c.allows-in-Atomic in
    at c.args.task.now c.args.op.now c.args.self.now _ given.result c.in-Atomic.is (kind.allowed ℤ atomic_left_by OfAtomic atomics c.args.task.now c.args.op.now c.in-Atomic.atomic given.result (given.ensures.law c.args.task.now))

pub returns-in-Event : goal.returns-in-Event
returns-in-Event c =
    let given = c.allows-in-Event in
    at c.args.task.now c.args.op.now c.args.self.now _ given.result c.in-Event.is (kind.allowed EventState event_left_by OfEvent events c.args.task.now c.args.op.now c.in-Event.event given.result (given.ensures.law c.args.task.now))

pub returns-in-Condition : goal.returns-in-Condition
returns-in-Condition c =
    let given = c.allows-in-Condition in
    at c.args.task.now c.args.op.now c.args.self.now _ given.result c.in-Condition.is (kind.allowed Condition condition_left_by OfCondition conditions c.args.task.now c.args.op.now c.in-Condition.condition.state given.result given.ensures.law)

pub returns-in-Lock : goal.returns-in-Lock
returns-in-Lock c =
    let given = c.allows-in-Lock in
    at c.args.task.now c.args.op.now c.args.self.now _ given.result c.in-Lock.is (kind.allowed (Option Holder) lock_left_by OfLock locks c.args.task.now c.args.op.now c.in-Lock.lock given.result given.ensures.law)

pub returns-in-Semaphore : goal.returns-in-Semaphore
returns-in-Semaphore c =
    let given = c.allows-in-Semaphore in
    at c.args.task.now c.args.op.now c.args.self.now _ given.result c.in-Semaphore.is (kind.allowed Semaphore semaphore_left_by OfSemaphore semaphores c.args.task.now c.args.op.now c.in-Semaphore.semaphore given.result (given.ensures.law c.args.task.now))
