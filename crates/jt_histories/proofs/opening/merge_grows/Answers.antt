-- Each log goes on by the entries of its shard.
use Rattle.jt_histories.proofs.Making.{merge_grows}
use Rattle.jt_histories.proofs.opening.merge_grows.Goals as goal

pub returns : goal.returns
returns g c = λ world logs logs' mine left h entries n m i o. merge_grows _ world entries h logs logs' mine left n m i o
