use Rattle.jt_laws.proofs.Possible.{possible}
use Rattle.jt_laws.proofs.object.reply_is_possible.Goals as goal

pub returns : goal.returns
returns c = possible
