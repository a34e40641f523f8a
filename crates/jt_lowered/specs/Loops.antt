-- Loops.
use Rattle.std.specs.Prelude.{ℕ}
use Rattle.jt_program.specs.Plan.{Plan}
use Rattle.jt_program.specs.Plan as plan

-- a loop's body, with the slot of the first of its own variables and how many it has
pub record TurnPlan : Type 0 where
  pub start : ℕ
  pub count : ℕ
  pub body : Plan

abbrev pub turn_of : ℕ → ℕ → Plan → TurnPlan
turn_of start count p = record { start = start; count = count; body = p }

abbrev pub while_of : Plan → TurnPlan → Plan
while_of t l = plan.while l.start l.count t l.body

abbrev pub for_of : Plan → Plan → TurnPlan → Plan
for_of a b l = plan.for l.start l.count a b l.body
