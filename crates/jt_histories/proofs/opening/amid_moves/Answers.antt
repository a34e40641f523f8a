-- No further entries.
use Rattle.jt_histories.proofs.Amid.{amid_moves}
use Rattle.jt_histories.proofs.opening.amid_moves.Goals as goal

pub returns : goal.returns
returns g c = λ world logs logs' mine inside hand inside' hand' a p. amid_moves _ world logs mine logs' inside hand inside' hand' a p
