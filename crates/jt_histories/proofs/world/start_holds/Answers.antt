-- No entry, and main alone is live.
use Rattle.jt_histories.proofs.Start.{holds_start}
use Rattle.jt_histories.proofs.world.start_holds.Goals as goal

pub returns : goal.returns
returns g c = λ world. holds_start _ world
