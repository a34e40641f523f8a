-- One more entry after another, and entry by entry.
use Rattle.jt_histories.proofs.Stamped.{made_kept}
use Rattle.jt_histories.proofs.Legal.{kept_made}
use Rattle.jt_histories.proofs.order.legal_by_stamps.Goals as goal

pub returns : goal.returns
returns g c = record { kept = λ world h l s. made_kept _ world h l s; made = λ world laws h k. kept_made _ world laws h k }
