use Rattle.jt_laws.proofs.Shut.{landed_after_take}
use Rattle.jt_laws.proofs.channel.landed_after_take.Goals as goal

pub returns : goal.returns
returns c = landed_after_take
