-- Entry by entry.
use Rattle.jt_histories.proofs.Resting.{history_front}
use Rattle.jt_histories.proofs.order.front_is_legal.Goals as goal

pub returns : goal.returns
returns g c = λ world front back l. history_front _ world front back l
