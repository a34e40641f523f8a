-- No entries yet.
use Rattle.jt_histories.proofs.Amid.{amid_begins}
use Rattle.jt_histories.proofs.opening.amid_begins.Goals as goal

pub returns : goal.returns
returns g c = λ world logs mine inside hand p. amid_begins _ world logs mine inside hand p
