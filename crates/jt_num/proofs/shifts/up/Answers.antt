use Rattle.jt_num.proofs.ShiftLemmas.{up_low, up_high}
use Rattle.jt_num.proofs.shifts.up.Goals as goal

pub returns-then-count-lt64 : goal.returns-then-count-lt64
returns-then-count-lt64 c = up_low _ _ c.ranges.a c.if-count-lt64.true

pub returns-else-count-lt64 : goal.returns-else-count-lt64
returns-else-count-lt64 c = up_high _ _ c.if-count-lt64.false
