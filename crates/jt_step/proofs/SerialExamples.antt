-- Serial elisions of small programs, by computing.
use Rattle.std.proofs.Common.{◌≡◌, ℕ, List, [], ◌∷◌, Option, Some, None, false, true, refl, replicate}
use Rattle.std.specs.Prelude.{pos, codes}
use Rattle.std.specs.Fmt.{digits}
use Rattle.jt_base.specs.declared.operation.Fault.TheVariants.{Method, TaskFailed}
use Rattle.jt_base.specs.declared.operation.Op.TheVariants.{End, Fail}
use Rattle.jt_base.specs.declared.run.Seeds.{Seeds}
use Rattle.jt_base.specs.declared.value.Value.TheVariants.{Int, Nothing}
use Rattle.jt_program.specs.declared.code.BuiltIn.TheVariants as built_in
use Rattle.jt_program.specs.declared.code.Callee.TheVariants as callee
use Rattle.jt_program.specs.declared.code.Literal.TheVariants as literal
use Rattle.jt_program.specs.Plan.{Plan, Plans, BodyPlan, ProgramPlan}
use Rattle.jt_program.specs.Plan as plan
use Rattle.jt_meaning.specs.Meaning.{meaning, go}
use Rattle.jt_step.specs.Serial.{IsForkJoin, Done, serial_run, some_other, forks_and_joins, forks_joins_or_prints}
use Rattle.jt_meaning.specs.Run.{Run}

abbrev number : ℕ → Plan
number n = plan.literal (literal.Int (pos n))

abbrev in_order : List Plan → Plans
in_order [] = plan.no_plans
in_order (e ∷ es) = plan.plan e (in_order es)

abbrev body : ℕ → List Plan → BodyPlan
body n es = record { variables = n; code = plan.block (in_order es) }

abbrev fetch : Plan → Plan
fetch e = plan.call (callee.BuiltIn built_in.Fetch) (plan.plan e plan.no_plans)

abbrev show : Plan → Plan
show e = plan.print (plan.value_piece e plan.no_pieces)

abbrev program : List BodyPlan → ProgramPlan
program tasks = record { constants = 0; functions = []; tasks = tasks }

abbrev run_of : List BodyPlan → Run
run_of tasks = record { program = program tasks; sizes = record { default = 1; interactive = 0 }; limits = record { turns = 1000; events = 1000 } }

abbrev seeds : Seeds
seeds = record { words = replicate 5 1 }

-- t = @spawn 7; println(fetch(t))
abbrev asks_seven : List BodyPlan
asks_seven = body 1 (plan.assign 0 (plan.spawn 1 [] false) ∷ show (fetch (plan.variable 0)) ∷ plan.literal literal.Nothing ∷ []) ∷ body 0 (number 7 ∷ []) ∷ []

seven_is_fork_join : IsForkJoin (program asks_seven)
seven_is_fork_join = record { bodies = refl; main = refl }

seven : serial_run 10 (run_of asks_seven) seeds ≡ Some (record { last = End Nothing; kept = record { results = (0 ∷ [], End (Int (pos 7))) ∷ []; lines = codes "7\n" } })
unfolding go meaning digits
seven = refl

-- so many operations don't suffice
too_short : serial_run 4 (run_of asks_seven) seeds ≡ None
unfolding go meaning digits
too_short = refl

-- t = @spawn wait(5); fetch(t)
abbrev asks_fault : List BodyPlan
asks_fault =
    body 1 (plan.assign 0 (plan.spawn 1 [] false) ∷ fetch (plan.variable 0) ∷ plan.literal literal.Nothing ∷ [])
    ∷ body 0 (plan.call (callee.BuiltIn built_in.Wait) (plan.plan (number 5) plan.no_plans) ∷ []) ∷ []

fault : serial_run 10 (run_of asks_fault) seeds ≡ Some (record { last = Fail (TaskFailed (0 ∷ [])); kept = record { results = (0 ∷ [], Fail Method) ∷ []; lines = [] } })
unfolding go meaning
fault = refl

-- @sync begin @spawn @spawn 5 end: the inner task is done within the outer one
abbrev nested : List BodyPlan
nested =
    body 0 (plan.sync (plan.spawn 2 [] true) ∷ plan.literal literal.Nothing ∷ [])
    ∷ body 0 (number 5 ∷ []) ∷ body 0 (plan.sync (plan.spawn 1 [] true) ∷ plan.literal literal.Nothing ∷ []) ∷ []

inner_first : serial_run 10 (run_of nested) seeds ≡ Some (record { last = End Nothing; kept = record { results = (0 ∷ [], End Nothing) ∷ (0 ∷ 0 ∷ [], End (Int (pos 5))) ∷ []; lines = [] } })
unfolding go meaning
inner_first = refl

-- a task that yields, one that prints, and one that makes a task of main's body are none of a fork-join program
yields : some_other forks_and_joins (body 0 (plan.call (callee.BuiltIn built_in.Yield) plan.no_plans ∷ []) ∷ []) ≡ true
yields = refl

prints : some_other forks_and_joins (body 0 (show (number 7) ∷ []) ∷ []) ≡ true
prints = refl

makes_main : some_other forks_joins_or_prints (body 0 (plan.spawn 0 [] false ∷ []) ∷ []) ≡ true
makes_main = refl
