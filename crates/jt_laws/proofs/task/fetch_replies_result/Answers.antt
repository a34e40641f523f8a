-- The entry that ends the task.
use Rattle.jt_laws.proofs.TaskResults.{fetch_replies}
use Rattle.jt_laws.proofs.task.fetch_replies_result.Goals as goal

pub returns : goal.returns
returns c = λ own task path r e. fetch_replies own r e
