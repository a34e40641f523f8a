use Rattle.jt_words.proofs.Limits.{within_limits}
use Rattle.jt_words.proofs.laws.commands_are_within_limits.Goals as goal

pub returns : goal.returns
returns c = within_limits
