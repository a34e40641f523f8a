-- Turn by turn.
use Rattle.jt_histories.proofs.Turning.{shut_keeps}
use Rattle.jt_histories.proofs.world.shut_keeps.Goals as goal

pub returns : goal.returns
returns g c = λ world laws k small logs log more mine left rest e h t. shut_keeps _ world laws k small more logs log mine left rest e h t
