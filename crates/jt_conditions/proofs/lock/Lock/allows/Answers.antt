-- A lock is allowed where it would be answered by a reply.
use Rattle.std.proofs.Common.{Option}
use Rattle.jt_base.specs.declared.operation.Op.TheVariants.{Lock}
use Rattle.jt_conditions.specs.Locks.{Holder, lock_left_by, lock_answer, after_lock}
use Rattle.jt_conditions.proofs.Asking.{allowed_by}
use Rattle.jt_conditions.proofs.LockLaw.{lock_asked}
use Rattle.jt_conditions.proofs.lock.Lock.allows.Goals as goal

pub returns-in-Lock-clause-law : goal.returns-in-Lock-clause-law
returns-in-Lock-clause-law c name o =
    allowed_by (Option Holder) lock_left_by c.args.task.now (Lock c.in-Lock.field-0) c.args.op.now c.args.self.now _ (lock_answer c.args.self.now c.args.task.now) (after_lock c.args.self.now c.args.task.now) c.in-Lock.is c.is_free_to.ensures (lock_asked c.args.task.now c.in-Lock.field-0 c.args.self.now)
