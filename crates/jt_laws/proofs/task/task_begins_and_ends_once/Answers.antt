-- Entry by entry.
use Rattle.jt_laws.proofs.TaskResults.{begins_and_ends_once}
use Rattle.jt_laws.proofs.task.task_begins_and_ends_once.Goals as goal

pub returns : goal.returns
returns c = begins_and_ends_once
