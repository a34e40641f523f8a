use Rattle.jt_objects.proofs.Within.{within}
use Rattle.jt_objects.proofs.laws.few_entries_are_within.Goals as goal

pub returns : goal.returns
returns c = within
