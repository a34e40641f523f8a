-- Guards, and bodies.
use Rattle.std.specs.Prelude.{ℕ}
use Rattle.jt_program.specs.Plan.{Plan, Plans, BodyPlan}
use Rattle.jt_program.specs.Plan as plan

-- plans, and these behind them
abbrev pub before : Plans → Plans → Plans
before plan.no_plans last = last
before (plan.plan p ps) last = plan.plan p (before ps last)

-- a body of so many variables
abbrev pub body_of : ℕ → Plan → BodyPlan
body_of n p = record { variables = n; code = p }
