-- Entry by entry.
use Rattle.jt_histories.proofs.Reaching.{legal_is_reached}
use Rattle.jt_histories.proofs.given.legal_is_reached.Goals as goal

pub returns : goal.returns
returns g c = λ world laws over h l. legal_is_reached _ world laws over h l
