-- By stamps.
use Rattle.jt_histories.proofs.Legal.{legal_same}
use Rattle.jt_histories.proofs.order.locality_law.Goals as goal

pub returns : goal.returns
returns g c = λ world laws h k same l s. legal_same _ world laws h k same l s
