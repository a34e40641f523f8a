-- Each live task has its job, and nothing comes for the others.
use Rattle.jt_histories.proofs.Resting.{merge_at_rest}
use Rattle.jt_histories.proofs.world.stuck_is_rest.Goals as goal

pub returns : goal.returns
returns g c = λ world over logs jobs h k stuck m. merge_at_rest _ world over logs jobs h k stuck m
