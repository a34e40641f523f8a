-- What a walk makes of a script that takes the scopes in the order in which they begin: its program, as in
-- `Programs`.
use Rattle.std.specs.Prelude.{ℕ, List, [], ◌∷◌, length}
use Rattle.jt_syntax.specs.declared.script.Identifier.{Identifier}
use Rattle.jt_syntax.specs.Tree.{Tree, Steps, TopTree}
use Rattle.jt_syntax.specs.Tree as tree
use Rattle.jt_program.specs.Plan.{Plan, Plans, BodyPlan, ProgramPlan}
use Rattle.jt_program.specs.Plan as plan
use Rattle.jt_bound.specs.Bound.{Numbers}
use Rattle.jt_lowered.specs.Lowered.{nothing_literal}
use Rattle.jt_lowered.specs.Nodes.{body_of}
use Rattle.jt_bound.specs.Made.{WalkResult, made, with, both}
use Rattle.jt_bound.specs.Programs.{one_more, constant_number, Parts, parts, whole}
use Rattle.jt_bound.specs.States.{WalkState, entered, count, bodied}
use Rattle.jt_bound.specs.Walked.{walked, walked_step, walked_steps}

abbrev pub walked_function : Numbers → WalkState → Steps → WalkResult WalkState BodyPlan
walked_function x s ss = bodied s (with plan.block (walked_steps x (entered s) ss))

abbrev pub walked_short : Numbers → WalkState → Tree → WalkResult WalkState BodyPlan
walked_short x s e = bodied s (walked x (entered s) e)

abbrev pub walked_functions : Numbers → WalkState → List TopTree → WalkResult WalkState (List BodyPlan)
walked_functions x s [] = made [] s
walked_functions x s ((at, tree.function i is ss) ∷ ts) = both one_more (walked_function x s ss) (λ s. walked_functions x s ts)
walked_functions x s ((at, tree.short i is e) ∷ ts) = both one_more (walked_short x s e) (λ s. walked_functions x s ts)
walked_functions x s ((at, f) ∷ ts) = walked_functions x s ts

abbrev pub walked_definition : Numbers → WalkState → Identifier → Tree → WalkResult WalkState Plan
walked_definition x s i e = with (plan.define (constant_number x.constants i)) (walked x s e)

abbrev pub walked_main : Numbers → WalkState → List TopTree → WalkResult WalkState Plans
walked_main x s [] = made (plan.plan nothing_literal plan.no_plans) s
walked_main x s ((at, tree.constant i e) ∷ ts) = both plan.plan (walked_definition x s i e) (λ s. walked_main x s ts)
walked_main x s ((at, tree.plain t) ∷ ts) = both plan.plan (walked_step x s t) (λ s. walked_main x s ts)
walked_main x s ((at, f) ∷ ts) = walked_main x s ts

-- the main task's body with so many variables, and those of the tasks that were made up to its end
abbrev pub tasks_of : ℕ → WalkResult WalkState Plans → List BodyPlan
tasks_of variables m = body_of variables (plan.block m.it) ∷ m.state.bodies

abbrev pub walked_parts : Numbers → WalkState → List TopTree → WalkResult WalkState Parts
walked_parts x s ts = both parts (walked_functions x s ts) (λ s. walked_main x s ts)

-- the bodies alone of what a walk made
abbrev pub bodies_alone : {A : Type 0} → WalkResult WalkState A → WalkResult (List BodyPlan) A
bodies_alone m = made m.it m.state.bodies

-- the script's own scope begins at the state s
abbrev pub walked_program : Numbers → WalkState → List TopTree → ProgramPlan
walked_program x s ts = whole (length x.constants) (count s) (bodies_alone (walked_parts x (entered s) ts))
