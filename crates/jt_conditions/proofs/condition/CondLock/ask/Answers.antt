-- Each arm answers by the law of conditions.
use Rattle.std.proofs.Common.{ap, ◌∙◌}
use Rattle.jt_base.specs.declared.operation.Op.TheVariants.{Lock, Unlock, CWait, CBack, CNotify}
use Rattle.jt_base.specs.declared.operation.Reply.TheVariants as reply
use Rattle.jt_base.specs.declared.entry.Ask.TheVariants.{Done}
use Rattle.jt_conditions.specs.Locks.{lock_answer, after_lock, reply_to, after_unlock}
use Rattle.jt_conditions.specs.Conditions.{Condition, condition_left_by, held_by, after_wait, notify_answer, after_notify, back_answer, after_back}
use Rattle.jt_conditions.proofs.Asking.{asked_at}
use Rattle.jt_conditions.proofs.ConditionLaw.{lock_asked, unlock_asked, wait_asked}
use Rattle.jt_conditions.proofs.NotifyLaw.{back_asked, notify_asked}
use Rattle.jt_conditions.proofs.condition.CondLock.ask.Goals as goal

pub returns-in-Lock-clause-law : goal.returns-in-Lock-clause-law
returns-in-Lock-clause-law c name o =
    let state = ap (λ w. w.state) c.self.view_is in
    asked_at Condition condition_left_by c.args.task.now (Lock c.in-Lock.field-0) c.args.op.now c.args.self.now.state _ (lock_answer c.args.self.now.state.holder c.args.task.now) _ (held_by c.args.self.now.state (after_lock c.args.self.now.state.holder c.args.task.now)) c.in-Lock.is
    (c.lock.ensures.answer ∙ ap (λ s. lock_answer s.holder c.args.task.now) state)
    (ap (λ h. record { holder = h; waiting = c.self.inside.waiting.state; absent = c.self.inside.absent.state }) c.lock.ensures.after ∙ ap (λ s. held_by s (after_lock s.holder c.args.task.now)) state)
    (lock_asked c.args.task.now c.in-Lock.field-0 c.args.self.now.state)

pub returns-in-Unlock-clause-law : goal.returns-in-Unlock-clause-law
returns-in-Unlock-clause-law c name o =
    let state = ap (λ w. w.state) c.self-in-Unlock.view_is in
    asked_at Condition condition_left_by c.args.task.now (Unlock c.in-Unlock.field-0) c.args.op.now c.args.self.now.state _ (Done (reply_to c.args.self.now.state.holder c.args.task.now reply.Ok)) _ (held_by c.args.self.now.state (after_unlock c.args.self.now.state.holder c.args.task.now)) c.in-Unlock.is
    (c.unlock.ensures.answer ∙ ap (λ s. Done (reply_to s.holder c.args.task.now reply.Ok)) state)
    (ap (λ h. record { holder = h; waiting = c.self-in-Unlock.inside.waiting.state; absent = c.self-in-Unlock.inside.absent.state }) c.unlock.ensures.after ∙ ap (λ s. held_by s (after_unlock s.holder c.args.task.now)) state)
    (unlock_asked c.args.task.now c.in-Unlock.field-0 c.args.self.now.state)

pub returns-in-CWait-clause-law : goal.returns-in-CWait-clause-law
returns-in-CWait-clause-law c name o =
    asked_at Condition condition_left_by c.args.task.now (CWait c.in-CWait.field-0) c.args.op.now c.args.self.now.state _ (Done (reply_to c.args.self.now.state.holder c.args.task.now reply.Ok)) _ (after_wait c.args.self.now.state c.args.task.now) c.in-CWait.is c.wait.ensures.answer c.wait.ensures.after (wait_asked c.args.task.now c.in-CWait.field-0 c.args.self.now.state)

pub returns-in-CBack-clause-law : goal.returns-in-CBack-clause-law
returns-in-CBack-clause-law c name o =
    asked_at Condition condition_left_by c.args.task.now (CBack c.in-CBack.field-0) c.args.op.now c.args.self.now.state _ (back_answer c.args.self.now.state c.args.task.now) _ (after_back c.args.self.now.state c.args.task.now) c.in-CBack.is c.back.ensures.answer c.back.ensures.after (back_asked c.args.task.now c.in-CBack.field-0 c.args.self.now.state)

pub returns-in-CNotify-clause-law : goal.returns-in-CNotify-clause-law
returns-in-CNotify-clause-law c name o =
    asked_at Condition condition_left_by c.args.task.now (CNotify c.in-CNotify.field-0 c.in-CNotify.all) c.args.op.now c.args.self.now.state _ (notify_answer c.args.self.now.state c.args.task.now c.in-CNotify.all) _ (after_notify c.args.self.now.state c.args.task.now c.in-CNotify.all) c.in-CNotify.is c.notify.ensures.answer c.notify.ensures.after (notify_asked c.args.task.now c.in-CNotify.field-0 c.in-CNotify.all c.args.self.now.state)
