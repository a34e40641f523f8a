-- The job's entry fits, and its stamp is the one after those of its task and its shard.
use Rattle.jt_histories.proofs.Resting.{merge_meets}
use Rattle.jt_histories.proofs.world.limit_is_met.Goals as goal

pub returns : goal.returns
returns g c = λ world logs jobs h j e k i a m. merge_meets _ world logs jobs h j e k i a m
