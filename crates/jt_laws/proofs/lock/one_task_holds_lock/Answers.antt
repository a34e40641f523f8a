-- Entry by entry.
use Rattle.jt_laws.proofs.LockLaws.{one_holds}
use Rattle.jt_laws.proofs.lock.one_task_holds_lock.Goals as goal

pub returns : goal.returns
returns c = one_holds
