-- The sizes that a run may have.
use Rattle.std.specs.Prelude.{◌≤◌}
use Rattle.jt_base.specs.declared.run.Sizes.{Sizes}

-- 1 to 64 default workers, and 0 to 16 interactive ones
pub record AreSizes (sizes : Sizes) : Type 0 where
  pub default_low : 1 ≤ sizes.default
  pub default_high : sizes.default ≤ 64
  pub interactive_high : sizes.interactive ≤ 16
