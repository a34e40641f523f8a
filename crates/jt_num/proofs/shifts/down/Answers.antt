use Rattle.jt_num.proofs.ShiftLemmas.{down_word}
use Rattle.jt_num.proofs.shifts.down.Goals as goal

pub returns : goal.returns
returns c = down_word _ _ _ c.ranges.a c.min.ensures
