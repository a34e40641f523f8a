use Rattle.std.proofs.Common.{◌≡◌}
use Rattle.jt_tests.proofs.sleeping.first_other.Given as goal

abbrev pub invariant-loop-i : goal.invariant-loop-i
invariant-loop-i l = l.core.sizes ≡ l.fn.core.sizes
