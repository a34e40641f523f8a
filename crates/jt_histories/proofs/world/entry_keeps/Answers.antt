-- The entry lands behind all of its task and of its shard.
use Rattle.jt_histories.proofs.Keeps.{entry_keeps}
use Rattle.jt_histories.proofs.world.entry_keeps.Goals as goal

pub returns : goal.returns
returns g c = λ world laws logs j rest e h m. entry_keeps _ world laws logs j rest e h m
