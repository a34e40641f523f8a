-- Turn by turn.
use Rattle.jt_histories.proofs.Turning.{turns_more}
use Rattle.jt_histories.proofs.world.turns_grow.Goals as goal

pub returns : goal.returns
returns g c = λ world k log more mine mid j others e t p s m. turns_more _ world k more log mine mid j others e t p s m
