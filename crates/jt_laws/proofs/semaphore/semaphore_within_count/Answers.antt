-- Entry by entry.
use Rattle.jt_laws.proofs.SemaphoreLaws.{within_count}
use Rattle.jt_laws.proofs.semaphore.semaphore_within_count.Goals as goal

pub returns : goal.returns
returns c = within_count
