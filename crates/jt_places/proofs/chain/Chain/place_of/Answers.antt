-- The goals for which the first search finds nothing.
use Rattle.std.proofs.Common.{arith}
use Rattle.std.proofs.lemmas.Grind.{common_steps}
use Rattle.jt_places.proofs.chain.Chain.place_of.Goals as goal

pub returns : goal.returns
returns c = grind (arith, common_steps)
