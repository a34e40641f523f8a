-- The name is that of the row, which leads back to the function.
use Rattle.jt_functions.proofs.Named.{named_again}
use Rattle.jt_functions.proofs.function.Function.name.Goals as goal

pub returns-clause-again : goal.returns-clause-again
returns-clause-again c = rw c.row.ensures.name (named_again c.args.self)
