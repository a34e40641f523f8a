use Rattle.std.proofs.Common.{◌≡◌}
use Rattle.std.specs.Prelude.{◌*ℤ◌}
use Rattle.jt_num.specs.Powers.{raised}
use Rattle.jt_num.specs.Wrapping.{wrapped}
use Rattle.jt_num.proofs.powers.wrapping_power.Given as goal

-- the factors taken and those still left make the whole power
abbrev pub invariant-loop-left : goal.invariant-loop-left
invariant-loop-left l =
    wrapped (l.product *ℤ raised l.base l.left) ≡ wrapped (raised l.fn.a l.fn.exponent)

abbrev pub decreases-loop-left : goal.decreases-loop-left
decreases-loop-left l = l.left
