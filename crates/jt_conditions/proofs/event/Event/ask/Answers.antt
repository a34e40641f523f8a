-- Each arm answers by the law of events.
use Rattle.std.proofs.Common.{refl, ap, true, false}
use Rattle.jt_base.specs.declared.operation.Op.TheVariants.{Notify, Reset, EWait}
use Rattle.jt_base.specs.declared.operation.Reply.TheVariants as reply
use Rattle.jt_base.specs.declared.entry.Ask.TheVariants.{Done}
use Rattle.jt_conditions.specs.Events.{EventState, event_left_by, event_wait_answer, event_after_wait}
use Rattle.jt_conditions.proofs.Asking.{asked_at}
use Rattle.jt_conditions.proofs.EventLaw.{notify_asked, reset_asked, wait_asked}
use Rattle.jt_conditions.proofs.event.Event.ask.Goals as goal

pub returns-in-Notify-clause-law : goal.returns-in-Notify-clause-law
returns-in-Notify-clause-law c task name o =
    asked_at EventState event_left_by task (Notify c.in-Notify.field-0) c.args.op.now c.args.self.now (Done reply.Ok) (Done reply.Ok) _ (record { auto = c.args.self.now.auto; set = true }) c.in-Notify.is refl (ap (λ s. record { auto = s.auto; set = true }) c.self.view_is) (notify_asked task c.in-Notify.field-0 c.args.self.now)

pub returns-in-Reset-clause-law : goal.returns-in-Reset-clause-law
returns-in-Reset-clause-law c task name o =
    asked_at EventState event_left_by task (Reset c.in-Reset.field-0) c.args.op.now c.args.self.now (Done reply.Ok) (Done reply.Ok) _ (record { auto = c.args.self.now.auto; set = false }) c.in-Reset.is refl (ap (λ s. record { auto = s.auto; set = false }) c.self-in-Reset.view_is) (reset_asked task c.in-Reset.field-0 c.args.self.now)

pub returns-in-EWait-clause-law : goal.returns-in-EWait-clause-law
returns-in-EWait-clause-law c task name o =
    asked_at EventState event_left_by task (EWait c.in-EWait.field-0) c.args.op.now c.args.self.now _ (event_wait_answer c.args.self.now) _ (event_after_wait c.args.self.now) c.in-EWait.is c.wait.ensures.answer c.wait.ensures.after (wait_asked task c.in-EWait.field-0 c.args.self.now)
