-- As many variables were added as turns were taken.
use Rattle.std.proofs.Common.{◌≡◌, ◌++◌, None, replicate}
use Rattle.jt_step.proofs.variables.add_unset.Given as goal

abbrev pub invariant-loop-i : goal.invariant-loop-i
invariant-loop-i l = l.variables ≡ l.fn.variables ++ replicate l._i None
