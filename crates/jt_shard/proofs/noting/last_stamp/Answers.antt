-- The last entry is the one at the end of the list.
use Rattle.jt_shard.proofs.Stamps.{last_some, last_none}
use Rattle.jt_shard.proofs.noting.last_stamp.Goals as goal

pub returns-in-Some : goal.returns-in-Some
returns-in-Some c = last_some c.args.log.now _ c.in-Some.ensures.value

pub returns-in-None : goal.returns-in-None
returns-in-None c = last_none c.args.log.now c.in-None.ensures.value
