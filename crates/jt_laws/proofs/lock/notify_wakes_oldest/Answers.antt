-- The waiting list, and the returns that stay within its waits.
use Rattle.jt_laws.proofs.Notified.{wakes_oldest}
use Rattle.jt_laws.proofs.lock.notify_wakes_oldest.Goals as goal

pub returns : goal.returns
returns c = wakes_oldest
