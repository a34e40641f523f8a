-- The same jobs.
use Rattle.jt_histories.proofs.Turning.{moved_keeps}
use Rattle.jt_histories.proofs.world.moved_keeps.Goals as goal

pub returns : goal.returns
returns g c = λ world logs jobs moved p h. moved_keeps _ world logs jobs moved p h
