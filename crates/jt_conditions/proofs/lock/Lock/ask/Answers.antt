-- Each arm answers by the law of locks.
use Rattle.std.proofs.Common.{Option}
use Rattle.jt_base.specs.declared.operation.Op.TheVariants.{Lock, Unlock}
use Rattle.jt_base.specs.declared.operation.Reply.TheVariants as reply
use Rattle.jt_base.specs.declared.entry.Ask.TheVariants.{Done}
use Rattle.jt_conditions.specs.Locks.{Holder, lock_left_by, lock_answer, after_lock, reply_to, after_unlock}
use Rattle.jt_conditions.proofs.Asking.{asked_at}
use Rattle.jt_conditions.proofs.LockLaw.{lock_asked, unlock_asked}
use Rattle.jt_conditions.proofs.lock.Lock.ask.Goals as goal

pub returns-in-Lock-clause-law : goal.returns-in-Lock-clause-law
returns-in-Lock-clause-law c name o =
    asked_at (Option Holder) lock_left_by c.args.task.now (Lock c.in-Lock.field-0) c.args.op.now c.args.self.now _ (lock_answer c.args.self.now c.args.task.now) _ (after_lock c.args.self.now c.args.task.now) c.in-Lock.is c.lock.ensures.answer c.lock.ensures.after (lock_asked c.args.task.now c.in-Lock.field-0 c.args.self.now)

pub returns-in-Unlock-clause-law : goal.returns-in-Unlock-clause-law
returns-in-Unlock-clause-law c name o =
    asked_at (Option Holder) lock_left_by c.args.task.now (Unlock c.in-Unlock.field-0) c.args.op.now c.args.self.now _ (Done (reply_to c.args.self.now c.args.task.now reply.Ok)) _ (after_unlock c.args.self.now c.args.task.now) c.in-Unlock.is c.unlock.ensures.answer c.unlock.ensures.after (unlock_asked c.args.task.now c.in-Unlock.field-0 c.args.self.now)
