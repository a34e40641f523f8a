use Rattle.jt_laws.proofs.Offers.{offers_le}
use Rattle.jt_laws.proofs.channel.channel_offers_are_entries.Goals as goal

pub returns : goal.returns
returns c = offers_le
