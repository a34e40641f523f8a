-- Its task is live, so its job is there; and the entry fits the entries before it.
use Rattle.jt_histories.proofs.NextEntry.{legal_is_made}
use Rattle.jt_histories.proofs.given.legal_is_made.Goals as goal

pub returns : goal.returns
returns g c = λ world over h e logs jobs l k m. legal_is_made _ world over h e logs jobs l k m
