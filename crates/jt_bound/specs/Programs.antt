-- The program of a script.
use Rattle.std.specs.Prelude.{ℕ, List, [], ◌∷◌, length, unwrap_or}
use Rattle.jt_syntax.specs.declared.script.Identifier.{Identifier}
use Rattle.jt_syntax.specs.Tree.{Tree, Steps, TopTree}
use Rattle.jt_syntax.specs.Tree as tree
use Rattle.jt_program.specs.Plan.{Plan, Plans, BodyPlan, ProgramPlan}
use Rattle.jt_program.specs.Plan as plan
use Rattle.jt_names.specs.Names.{index}
use Rattle.jt_names.specs.Tops.{constants_of, signatures_of}
use Rattle.jt_outline.specs.declared.mark.ScopeKind.TheVariants as kind
use Rattle.jt_outline.specs.Marks.{Marks, no_marks}
use Rattle.jt_outline.specs.Outlines.{marks, marks_steps}
use Rattle.jt_outline.specs.Outlines as outline
use Rattle.jt_scopes.specs.declared.scope.Scope.{Scope}
use Rattle.jt_scopes.specs.Scopes.{scope_of}
use Rattle.jt_scopes.specs.Scopes as scopes
use Rattle.jt_bound.specs.Bound.{Numbers, bound, bound_step, bound_steps}
use Rattle.jt_lowered.specs.Lowered.{nothing_literal}
use Rattle.jt_bound.specs.Made.{WalkResult, made, with, both}
use Rattle.jt_lowered.specs.Nodes.{body_of}

abbrev pub numbers_of : List TopTree → Numbers
numbers_of ts = record { constants = constants_of [] ts; functions = signatures_of [] ts }

-- the scope of a function in the scopes c
abbrev pub function_scope : List Scope → List Identifier → Marks → Scope
function_scope c is body = scope_of c kind.Function 0 is body

-- the script's own scope
abbrev pub script_scope : List TopTree → Scope
script_scope ts = scopes.script_scope (outline.parts_of ts)

-- ---- functions

-- a function with the scope r
abbrev pub function_of : Numbers → List Scope → List BodyPlan → Scope → Steps → WalkResult (List BodyPlan) BodyPlan
function_of x c s r ss = with (λ ps. body_of (length r.names) (plan.block ps)) (bound_steps x (r ∷ c) s ss)

abbrev pub short_function_of : Numbers → List Scope → List BodyPlan → Scope → Tree → WalkResult (List BodyPlan) BodyPlan
short_function_of x c s r e = with (body_of (length r.names)) (bound x (r ∷ c) s e)

abbrev pub one_more : BodyPlan → List BodyPlan → List BodyPlan
one_more b bs = b ∷ bs

-- the functions in the order of the script; c: the script's scope; s: the task bodies before them
abbrev pub bodies_of : Numbers → List Scope → List BodyPlan → List TopTree → WalkResult (List BodyPlan) (List BodyPlan)
bodies_of x c s [] = made [] s
bodies_of x c s ((at, tree.function i is ss) ∷ ts) = both one_more (function_of x c s (function_scope c is (marks_steps ss no_marks)) ss) (λ s. bodies_of x c s ts)
bodies_of x c s ((at, tree.short i is e) ∷ ts) = both one_more (short_function_of x c s (function_scope c is (marks e no_marks)) e) (λ s. bodies_of x c s ts)
bodies_of x c s ((at, f) ∷ ts) = bodies_of x c s ts

-- ---- the main task

-- the number of a constant
abbrev pub constant_number : List Identifier → Identifier → ℕ
constant_number ks i = unwrap_or (index ks i.name) 0

abbrev pub definition_of : Numbers → List Scope → List BodyPlan → Identifier → Tree → WalkResult (List BodyPlan) Plan
definition_of x c s i e = with (plan.define (constant_number x.constants i)) (bound x c s e)

-- what the main task does: its statements and constants in order. It ends with `nothing`.
abbrev pub main_of : Numbers → List Scope → List BodyPlan → List TopTree → WalkResult (List BodyPlan) Plans
main_of x c s [] = made (plan.plan nothing_literal plan.no_plans) s
main_of x c s ((at, tree.constant i e) ∷ ts) = both plan.plan (definition_of x c s i e) (λ s. main_of x c s ts)
main_of x c s ((at, tree.plain t) ∷ ts) = both plan.plan (bound_step x c s t) (λ s. main_of x c s ts)
main_of x c s ((at, f) ∷ ts) = main_of x c s ts

-- ---- the whole

-- the functions, and what the main task does
pub record Parts : Type 0 where
  pub functions : List BodyPlan
  pub main : Plans

abbrev pub parts : List BodyPlan → Plans → Parts
parts fs ps = record { functions = fs; main = ps }

-- with the bodies of all other tasks
abbrev pub parts_of : Numbers → List Scope → List TopTree → WalkResult (List BodyPlan) Parts
parts_of x c ts = both parts (bodies_of x c [] ts) (λ s. main_of x c s ts)

-- a program with so many constants, and with so many variables in the main task
abbrev pub whole : ℕ → ℕ → WalkResult (List BodyPlan) Parts → ProgramPlan
whole constants variables m = record {
  constants = constants;
  functions = m.it.functions;
  tasks = body_of variables (plan.block m.it.main) ∷ m.state;
}

-- as plain data a script has one program. The task bodies of its functions stand before those of the
-- main task, each where it ends in the text.
abbrev pub program_of : List TopTree → ProgramPlan
program_of ts =
    whole (length (constants_of [] ts)) (length (script_scope ts).names)
    (parts_of (numbers_of ts) (script_scope ts ∷ []) ts)
