use Rattle.std.proofs.Common.{Option, sym, ap, ◌∙◌, subst}
use Rattle.jt_base.specs.Objects.{object_of}
use Rattle.jt_laws.specs.Channels.{Channel, channel_left_by}
use Rattle.jt_laws.specs.Objects.{Asked}
use Rattle.jt_conditions.specs.Conditions.{Condition, condition_left_by}
use Rattle.jt_conditions.specs.Events.{EventState, event_left_by, is_event_op}
use Rattle.jt_conditions.specs.Locks.{Holder, lock_left_by, is_lock_op}
use Rattle.jt_conditions.specs.Semaphores.{Semaphore, semaphore_left_by, is_semaphore_op}
use Rattle.jt_objects.specs.declared.shared.Shared.{Shared}
use Rattle.jt_objects.specs.declared.shared.Shared.TheVariants as shared
use Rattle.jt_objects.specs.States.{ObjectState, OfChannel, OfEvent, OfCondition, OfLock, OfSemaphore, left_by}
use Rattle.jt_objects.specs.Needs.{state_of}
use Rattle.jt_objects.proofs.KindLeft.{channels, events, conditions, locks, semaphores}
use Rattle.jt_objects.proofs.Left as kind
use Rattle.jt_objects.proofs.Elsewhere.{event_elsewhere, lock_elsewhere, semaphore_elsewhere}
use Rattle.jt_objects.proofs.shared.Shared.ask.Goals as goal

pub returns-in-Channel-clause-law : goal.returns-in-Channel-clause-law
returns-in-Channel-clause-law c =
    let task = c.args.task.now in
    let op = c.args.op.now in
    subst (λ (s : Shared). Asked ObjectState (left_by (object_of task op)) task op (state_of s) c.ask.result (OfChannel c.ask.new.self.state)) (sym c.in-Channel.is)
    (kind.asked Channel channel_left_by OfChannel channels task op c.in-Channel.channel.state c.ask.result c.ask.new.self.state (c.ask.ensures.law task) (λ h. ap (λ w. w.state) (c.ask.ensures.not_yet h)))

pub returns-in-Condition-clause-law : goal.returns-in-Condition-clause-law
returns-in-Condition-clause-law c =
    let task = c.args.task.now in
    let op = c.args.op.now in
    let ask = c.ask-in-Condition in
    subst (λ (s : Shared). Asked ObjectState (left_by (object_of task op)) task op (state_of s) ask.result (OfCondition ask.new.self.state)) (sym c.in-Condition.is)
    (kind.asked Condition condition_left_by OfCondition conditions task op c.in-Condition.condition.state ask.result ask.new.self.state ask.ensures.law (λ h. ap (λ w. w.state) (ask.ensures.not_yet h)))

pub returns-in-Event-clause-law : goal.returns-in-Event-clause-law
returns-in-Event-clause-law c =
    let task = c.args.task.now in
    let op = c.args.op.now in
    let ask = c.ask-in-Event in
    subst (λ (s : Shared). Asked ObjectState (left_by (object_of task op)) task op (state_of s) ask.result (OfEvent ask.new.self)) (sym c.in-Event.is)
    (kind.asked EventState event_left_by OfEvent events task op c.in-Event.event ask.result ask.new.self (ask.ensures.law task) (kind.stays_by EventState event_left_by OfEvent events is_event_op event_elsewhere task op c.in-Event.event ask.result ask.new.self (ask.ensures.law task) ask.ensures.others))

pub returns-in-Event-clause-not_yet : goal.returns-in-Event-clause-not_yet
returns-in-Event-clause-not_yet c h =
    let task = c.args.task.now in
    let op = c.args.op.now in
    let ask = c.ask-in-Event in
    ap shared.Event (kind.stays_by EventState event_left_by OfEvent events is_event_op event_elsewhere task op c.in-Event.event ask.result ask.new.self (ask.ensures.law task) ask.ensures.others h) ∙ sym c.in-Event.is

pub returns-in-Lock-clause-law : goal.returns-in-Lock-clause-law
returns-in-Lock-clause-law c =
    let task = c.args.task.now in
    let op = c.args.op.now in
    let ask = c.ask-in-Lock in
    subst (λ (s : Shared). Asked ObjectState (left_by (object_of task op)) task op (state_of s) ask.result (OfLock ask.new.self)) (sym c.in-Lock.is)
    (kind.asked (Option Holder) lock_left_by OfLock locks task op c.in-Lock.lock ask.result ask.new.self ask.ensures.law (kind.stays_by (Option Holder) lock_left_by OfLock locks is_lock_op lock_elsewhere task op c.in-Lock.lock ask.result ask.new.self ask.ensures.law ask.ensures.others))

pub returns-in-Lock-clause-not_yet : goal.returns-in-Lock-clause-not_yet
returns-in-Lock-clause-not_yet c h =
    let task = c.args.task.now in
    let op = c.args.op.now in
    let ask = c.ask-in-Lock in
    ap shared.Lock (kind.stays_by (Option Holder) lock_left_by OfLock locks is_lock_op lock_elsewhere task op c.in-Lock.lock ask.result ask.new.self ask.ensures.law ask.ensures.others h) ∙ sym c.in-Lock.is

pub returns-in-Semaphore-clause-law : goal.returns-in-Semaphore-clause-law
returns-in-Semaphore-clause-law c =
    let task = c.args.task.now in
    let op = c.args.op.now in
    let ask = c.ask-in-Semaphore in
    subst (λ (s : Shared). Asked ObjectState (left_by (object_of task op)) task op (state_of s) ask.result (OfSemaphore ask.new.self)) (sym c.in-Semaphore.is)
    (kind.asked Semaphore semaphore_left_by OfSemaphore semaphores task op c.in-Semaphore.semaphore ask.result ask.new.self (ask.ensures.law task) (kind.stays_by Semaphore semaphore_left_by OfSemaphore semaphores is_semaphore_op semaphore_elsewhere task op c.in-Semaphore.semaphore ask.result ask.new.self (ask.ensures.law task) ask.ensures.others))

pub returns-in-Semaphore-clause-not_yet : goal.returns-in-Semaphore-clause-not_yet
returns-in-Semaphore-clause-not_yet c h =
    let task = c.args.task.now in
    let op = c.args.op.now in
    let ask = c.ask-in-Semaphore in
    ap shared.Semaphore (kind.stays_by Semaphore semaphore_left_by OfSemaphore semaphores is_semaphore_op semaphore_elsewhere task op c.in-Semaphore.semaphore ask.result ask.new.self (ask.ensures.law task) ask.ensures.others h) ∙ sym c.in-Semaphore.is
