-- Programs of small scripts.
use Rattle.std.proofs.Common.{◌≡◌, ℕ, List, [], ◌∷◌, true, false, None, refl}
use Rattle.std.specs.Prelude.{codes}
use Rattle.jt_syntax.specs.declared.operator.ArithmeticOperator.TheVariants as arithmetic
use Rattle.jt_syntax.specs.declared.operator.AssignmentOperator.TheVariants as assignment
use Rattle.jt_syntax.specs.declared.operator.BinaryOperator.TheVariants as binary
use Rattle.jt_syntax.specs.declared.operator.Class.TheVariants as class
use Rattle.jt_syntax.specs.declared.operator.ComparisonOperator.TheVariants as comparison
use Rattle.jt_syntax.specs.declared.operator.Connective.TheVariants as connective
use Rattle.jt_syntax.specs.declared.script.Identifier.{Identifier}
use Rattle.jt_functions.specs.Functions.{language_functions}
use Rattle.jt_syntax.specs.Tree.{Tree, Step, Steps, Form, TopTree}
use Rattle.jt_syntax.specs.Tree as tree
use Rattle.jt_program.specs.declared.code.BuiltIn.TheVariants as built_in
use Rattle.jt_program.specs.declared.code.Callee.TheVariants as callee
use Rattle.jt_program.specs.declared.code.Literal.TheVariants as literal
use Rattle.jt_program.specs.Plan.{Plan, Plans, BodyPlan}
use Rattle.jt_program.specs.Plan as plan
use Rattle.jt_lowered.specs.Lowered.{number_literal, nothing_literal}
use Rattle.jt_bound.specs.Programs.{program_of}

abbrev x : Identifier
x = record { name = codes "x"; at = 0 }

abbrev y : Identifier
y = record { name = codes "y"; at = 1 }

abbrev a : Identifier
a = record { name = codes "a"; at = 2 }

abbrev b : Identifier
b = record { name = codes "b"; at = 3 }

abbrev f : Identifier
f = record { name = codes "f"; at = 4 }

abbrev i : Identifier
i = record { name = codes "i"; at = 5 }

abbrev k : Identifier
k = record { name = codes "k"; at = 6 }

abbrev one : Step → Steps
one s = tree.step s tree.no_steps

abbrev set : Identifier → Tree → Step
set i e = tree.assign i assignment.Plain e

abbrev forever : Steps → Tree
forever ss = tree.while (tree.truth true) ss

abbrev single : Plan → Plans
single p = plan.plan p plan.no_plans

abbrev always : Plan
always = plan.literal (literal.Flag true)

-- the functions of a script of one form
abbrev functions : Form → List BodyPlan
functions form = (program_of ((0, form) ∷ [])).functions

-- the main task of a script of these statements: how many variables it has, and what it does
abbrev tasks : List TopTree → List BodyPlan
tasks ts = (program_of ts).tasks

abbrev then : Step → Step → Steps
then s t = tree.step s (one t)

abbrev two : Plan → Plan → Plans
two p q = plan.plan p (single q)

abbrev spawned : ℕ → Tree → Tree
spawned at e = tree.spawn at None e

-- a script of one statement
abbrev alone : Step → List BodyPlan
alone s = tasks ((0, tree.plain s) ∷ [])

-- a script of two statements
abbrev after : Step → Step → List BodyPlan
after s t = tasks ((0, tree.plain s) ∷ (7, tree.plain t) ∷ [])

-- function f(a); x = 1; while true; y = 2; while true; b = y; end; end; end
nested_loops : functions (tree.function f (a ∷ []) (tree.step (set x (tree.number 1)) (one (tree.value (forever
    (tree.step (set y (tree.number 2)) (one (tree.value (forever (one (set b (tree.name y))))))))))))
    ≡ record {
      variables = 2;
      code = plan.block (plan.plan (plan.assign 1 (number_literal 1)) (single (plan.while 2 1 always
          (plan.block (plan.plan (plan.assign 2 (number_literal 2)) (single (plan.while 3 1 always (plan.block (single (plan.assign 3 (plan.variable 2)))))))))));
    } ∷ []
nested_loops = refl

-- for i in 1:2; x = i; end
loop_variable : tasks ((0, tree.plain (tree.value (tree.for_range i (tree.number 1) (tree.number 2) (one (set x (tree.name i)))))) ∷ [])
    ≡ record { variables = 0; code = plan.block (plan.plan (plan.for 0 2 (number_literal 1) (number_literal 2) (plan.block (single (plan.assign 1 (plan.variable 0))))) (single nothing_literal)) } ∷ []
loop_variable = refl

-- while true; x = 1; end; while true; y = 2; end
sibling_loops : tasks ((0, tree.plain (tree.value (forever (one (set x (tree.number 1)))))) ∷ (9, tree.plain (tree.value (forever (one (set y (tree.number 2)))))) ∷ [])
    ≡ record {
      variables = 0;
      code = plan.block (plan.plan (plan.while 0 1 always (plan.block (single (plan.assign 0 (number_literal 1)))))
          (plan.plan (plan.while 0 1 always (plan.block (single (plan.assign 0 (number_literal 2))))) (single nothing_literal)));
    } ∷ []
sibling_loops = refl

-- x = 1; x += 1
one_more : tasks ((0, tree.plain (set x (tree.number 1))) ∷ (7, tree.plain (tree.assign x assignment.Plus (tree.number 1))) ∷ [])
    ≡ record {
      variables = 1;
      code = plan.block (plan.plan (plan.assign 0 (number_literal 1))
          (plan.plan (plan.assign 0 (plan.operation (plan.variable 0) (plan.operand arithmetic.Add (number_literal 1) plan.no_operands))) (single nothing_literal)));
    } ∷ []
one_more = refl

-- function f(a); a == 1 && return; end
guarded : functions (tree.function f (a ∷ []) (one (tree.guard connective.And
    (tree.chain class.Comparison (tree.name a) (tree.term (binary.Comparison comparison.Equal) (tree.number 1) tree.no_terms)) tree.no_terms (tree.return_nothing 9))))
    ≡ record {
      variables = 1;
      code = plan.block (single (plan.connection connective.And
          (plan.comparison (plan.variable 0) (plan.compared comparison.Equal (number_literal 1) plan.no_comparisons)) (single (plan.return nothing_literal))));
    } ∷ []
guarded = refl

-- f(a) = a - 1
short_function : functions (tree.short f (a ∷ []) (tree.chain class.Sum (tree.name a) (tree.term (binary.Arithmetic arithmetic.Subtract) (tree.number 1) tree.no_terms)))
    ≡ record { variables = 1; code = plan.operation (plan.variable 0) (plan.operand arithmetic.Subtract (number_literal 1) plan.no_operands) } ∷ []
short_function = refl

-- const k = 3; k
constant : tasks ((0, tree.constant k (tree.number 3)) ∷ (12, tree.plain (tree.value (tree.name k))) ∷ [])
    ≡ record { variables = 0; code = plan.block (plan.plan (plan.define 0 (number_literal 3)) (plan.plan (plan.constant 0) (single nothing_literal))) } ∷ []
constant = refl

-- nothing
nothing : tasks ((0, tree.plain (tree.value (tree.name (record { name = codes "nothing"; at = 0 })))) ∷ [])
    ≡ record { variables = 0; code = plan.block (plan.plan nothing_literal (single nothing_literal)) } ∷ []
nothing = refl

-- f(a, b) = div(a, b)
division : functions (tree.short f (a ∷ b ∷ []) (tree.call (record { name = codes "div"; at = 10 }) (tree.tree (tree.name a) (tree.tree (tree.name b) tree.no_trees))))
    ≡ record { variables = 2; code = plan.call (callee.BuiltIn built_in.Div) (plan.plan (plan.variable 0) (single (plan.variable 1))) } ∷ []
unfolding language_functions
division = refl

-- f(a) = f(a)
own_call : functions (tree.short f (a ∷ []) (tree.call f (tree.tree (tree.name a) tree.no_trees)))
    ≡ record { variables = 1; code = plan.call (callee.Function 0) (single (plan.variable 0)) } ∷ []
unfolding language_functions
own_call = refl

-- x = 1; y = @spawn x
captured : after (set x (tree.number 1)) (set y (spawned 9 (tree.name x)))
    ≡ record { variables = 2; code = plan.block (plan.plan (plan.assign 0 (number_literal 1)) (two (plan.assign 1 (plan.spawn 1 (0 ∷ []) false)) nothing_literal)) }
    ∷ record { variables = 1; code = plan.variable 0 } ∷ []
captured = refl

-- x = 1; @spawn @spawn $x
handed_on : after (set x (tree.number 1)) (tree.value (spawned 9 (spawned 11 (tree.interpolation 13 x))))
    ≡ record { variables = 1; code = plan.block (plan.plan (plan.assign 0 (number_literal 1)) (two (plan.spawn 2 (0 ∷ []) false) nothing_literal)) }
    ∷ record { variables = 1; code = plan.variable 0 }
    ∷ record { variables = 1; code = plan.spawn 1 (0 ∷ []) false } ∷ []
handed_on = refl

-- x = 1; @spawn begin y = 2; for i in x:y; b = i; end; end
loop_in_task : after (set x (tree.number 1)) (tree.value (spawned 9 (tree.block (then (set y (tree.number 2)) (tree.value (tree.for_range i (tree.name x) (tree.name y) (one (set b (tree.name i)))))))))
    ≡ record { variables = 1; code = plan.block (plan.plan (plan.assign 0 (number_literal 1)) (two (plan.spawn 1 (0 ∷ []) false) nothing_literal)) }
    ∷ record {
      variables = 2;
      code = plan.block (two (plan.assign 1 (number_literal 2)) (plan.for 2 2 (plan.variable 0) (plan.variable 1) (plan.block (single (plan.assign 3 (plan.variable 2))))));
    } ∷ []
loop_in_task = refl

-- @sync begin @spawn 1; @spawn @spawn 2; end
awaited : alone (tree.value (tree.sync (tree.block (then (tree.value (spawned 12 (tree.number 1))) (tree.value (spawned 22 (spawned 29 (tree.number 2))))))))
    ≡ record { variables = 0; code = plan.block (two (plan.sync (plan.block (two (plan.spawn 1 [] true) (plan.spawn 3 [] true)))) nothing_literal) }
    ∷ record { variables = 0; code = plan.sync (number_literal 1) }
    ∷ record { variables = 0; code = plan.sync (number_literal 2) }
    ∷ record { variables = 0; code = plan.sync (plan.spawn 2 [] true) } ∷ []
awaited = refl

-- @sync @spawn begin return 1 end
returned : alone (tree.value (tree.sync (spawned 6 (tree.block (one (tree.jump (tree.return_value 19 (tree.number 1))))))))
    ≡ record { variables = 0; code = plan.block (two (plan.sync (plan.spawn 1 [] true)) nothing_literal) }
    ∷ record { variables = 0; code = plan.sync (plan.block (single (plan.return (number_literal 1)))) } ∷ []
returned = refl

-- @spawn @sync while true; @spawn 1; end
awaited_within : alone (tree.value (spawned 0 (tree.sync (forever (one (tree.value (spawned 25 (tree.number 1))))))))
    ≡ record { variables = 0; code = plan.block (two (plan.spawn 2 [] false) nothing_literal) }
    ∷ record { variables = 0; code = plan.sync (number_literal 1) }
    ∷ record { variables = 0; code = plan.sync (plan.while 0 0 always (plan.block (single (plan.spawn 1 [] true)))) } ∷ []
awaited_within = refl

-- f(a) = @spawn a
abbrev spawns_its_argument : Form
spawns_its_argument = tree.short f (a ∷ []) (spawned 7 (tree.name a))

-- an `@sync` doesn't wait for what a function spawns
its_spawn : functions spawns_its_argument ≡ record { variables = 1; code = plan.spawn 1 (0 ∷ []) false } ∷ []
its_spawn = refl

-- @sync @spawn 1; f(a) = @spawn a
functions_first : tasks ((0, tree.plain (tree.value (tree.sync (spawned 6 (tree.number 1))))) ∷ (16, spawns_its_argument) ∷ [])
    ≡ record { variables = 0; code = plan.block (two (plan.sync (plan.spawn 2 [] true)) nothing_literal) }
    ∷ record { variables = 1; code = plan.variable 0 }
    ∷ record { variables = 0; code = plan.sync (number_literal 1) } ∷ []
functions_first = refl

-- fetch(@spawn 1)
fetched : alone (tree.value (tree.call (record { name = codes "fetch"; at = 0 }) (tree.tree (spawned 6 (tree.number 1)) tree.no_trees)))
    ≡ record { variables = 0; code = plan.block (two (plan.call (callee.BuiltIn built_in.Fetch) (single (plan.spawn 1 [] false))) nothing_literal) }
    ∷ record { variables = 0; code = number_literal 1 } ∷ []
unfolding language_functions
fetched = refl
