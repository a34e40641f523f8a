-- Entry by entry.
use Rattle.jt_histories.proofs.Making.{made_grows}
use Rattle.jt_histories.proofs.opening.made_grows.Goals as goal

pub returns : goal.returns
returns g c = λ world logs logs' mine left entries n m. made_grows _ world entries logs logs' mine left n m
