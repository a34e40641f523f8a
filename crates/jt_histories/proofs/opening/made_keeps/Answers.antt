-- Entry by entry.
use Rattle.jt_histories.proofs.Making.{made_keeps}
use Rattle.jt_histories.proofs.opening.made_keeps.Goals as goal

pub returns : goal.returns
returns g c = λ world laws logs logs' mine left rest entries h m. made_keeps _ world laws entries logs logs' mine left rest h m
