use Rattle.jt_laws.proofs.Shut.{closed_for_good}
use Rattle.jt_laws.proofs.channel.channel_closed_for_good.Goals as goal

pub returns : goal.returns
returns c = closed_for_good
