use Rattle.jt_laws.proofs.Fifo.{in_order}
use Rattle.jt_laws.proofs.channel.channel_first_in_first_out.Goals as goal

pub returns : goal.returns
returns c = in_order
