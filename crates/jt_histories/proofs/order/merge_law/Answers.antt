-- A list in order is known by its parts, and legality depends on the parts alone.
use Rattle.jt_histories.proofs.Legal.{merged_legal}
use Rattle.jt_histories.proofs.order.merge_law.Goals as goal

pub returns : goal.returns
returns g c = λ world laws made merged l t o s. merged_legal _ world laws made merged l t o s
