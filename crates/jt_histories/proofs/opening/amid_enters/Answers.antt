-- One entry more at the end.
use Rattle.jt_histories.proofs.Amid.{amid_enters}
use Rattle.jt_histories.proofs.opening.amid_enters.Goals as goal

pub returns : goal.returns
returns g c = λ world logs logs' mine inside hand others j e a p m. amid_enters _ world logs mine logs' inside hand j others e a p m
