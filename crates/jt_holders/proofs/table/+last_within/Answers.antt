-- The goals for which the first search finds nothing.
use Rattle.std.proofs.Common.{arith}
use Rattle.std.proofs.lemmas.Grind.{common_steps}
use Rattle.jt_holders.proofs.table.+last_within.Goals as goal

pub returns-else-last-depth : goal.returns-else-last-depth
returns-else-last-depth t c = grind (arith, common_steps)

pub returns-then-last-depth : goal.returns-then-last-depth
returns-then-last-depth t c = grind (arith, common_steps)

pub returns-in-None : goal.returns-in-None
returns-in-None t c = grind (arith, common_steps)
