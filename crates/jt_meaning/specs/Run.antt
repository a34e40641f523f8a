-- A run of a program.
use Rattle.jt_base.specs.declared.run.Limits.{Limits}
use Rattle.jt_base.specs.declared.run.Sizes.{Sizes}
use Rattle.jt_program.specs.Plan.{ProgramPlan}

-- what its tasks have in common
pub record Run : Type 0 where
  pub program : ProgramPlan
  pub sizes : Sizes
  pub limits : Limits
