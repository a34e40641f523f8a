-- Entry by entry.
use Rattle.jt_laws.proofs.Levels.{levels_add_up as adds}
use Rattle.jt_laws.proofs.lock.levels_add_up.Goals as goal

pub returns : goal.returns
returns c = adds
