-- Such lists are told by their members.
use Rattle.jt_histories.proofs.OnePaths.{cancel_front}
use Rattle.jt_histories.proofs.opening.cancel_front.Goals as goal

pub returns : goal.returns
returns g c = λ front back back' o p. cancel_front _ front back back' o p
