-- The goals for which the first search finds nothing.
use Rattle.std.proofs.Common.{arith}
use Rattle.std.proofs.lemmas.Grind.{common_steps}
use Rattle.jt_bind.proofs.walk.Walk.enter.Goals as goal

pub returns-in_ok-enter-in-len1-up : goal.returns-in_ok-enter-in-len1-up
returns-in_ok-enter-in-len1-up c = grind (arith, common_steps)
