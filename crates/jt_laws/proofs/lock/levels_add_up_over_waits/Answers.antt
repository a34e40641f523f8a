-- Each list has a last wait or return of the task, and from there on its locks and unlocks count.
use Rattle.jt_laws.proofs.Levels.{adds_up, every_list}
use Rattle.jt_laws.proofs.Parts.{returned}
use Rattle.jt_laws.proofs.lock.levels_add_up_over_waits.Goals as goal

pub returns : goal.returns
returns c = record { returned = returned; adds_up = adds_up; every_list = every_list }
