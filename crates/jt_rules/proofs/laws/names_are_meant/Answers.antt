-- Mark by mark.
use Rattle.jt_rules.proofs.Meant.{names_meant}
use Rattle.jt_rules.proofs.laws.names_are_meant.Goals as goal

pub returns : goal.returns
returns c = names_meant
