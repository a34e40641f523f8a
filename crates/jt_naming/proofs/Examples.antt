-- The rules that small scripts break. Each script is written above its tree.
use Rattle.std.proofs.Common.{◌≡◌, ℕ, List, [], ◌∷◌, None, refl}
use Rattle.std.specs.Prelude.{codes, true}
use Rattle.jt_functions.specs.Functions.{language_functions}
use Rattle.jt_syntax.specs.Tree.{Tree, Trees, Step, Steps, Form, TopTree}
use Rattle.jt_syntax.specs.Tree as tree
use Rattle.jt_syntax.specs.declared.operator.AssignmentOperator.TheVariants as assignment
use Rattle.jt_syntax.specs.declared.script.Identifier.{Identifier}
use Rattle.jt_naming.specs.declared.rules.Rule.TheVariants as rule
use Rattle.jt_naming.specs.Rules.{broken}
use Rattle.jt_naming.specs.Scripts.{broken_rules}

abbrev x : ℕ → Identifier
x at = record { name = codes "x"; at = at }

abbrev y : ℕ → Identifier
y at = record { name = codes "y"; at = at }

abbrev f : ℕ → Identifier
f at = record { name = codes "f"; at = at }

abbrev one : Tree → Trees
one e = tree.tree e tree.no_trees

abbrev set : Identifier → Step
set i = tree.assign i assignment.Plain (tree.number 1)

abbrev only : Step → Steps
only s = tree.step s tree.no_steps

abbrev as_value : Tree → Form
as_value e = tree.plain (tree.value e)

-- println(x)
unknown_name : broken_rules ((0, as_value (tree.println (one (tree.name (x 8))))) ∷ []) ≡ broken 8 rule.UnknownName ∷ []
unfolding broken_rules
unknown_name = refl

-- x = 1; while true; x = 1; end
ambiguous_global : broken_rules ((0, tree.plain (set (x 0))) ∷ (7, as_value (tree.while (tree.truth true) (only (set (x 19))))) ∷ []) ≡ broken 19 rule.AmbiguousGlobal ∷ []
unfolding broken_rules
ambiguous_global = refl

-- const x = 1; const x = 2
twice_defined : broken_rules ((0, tree.constant (x 6) (tree.number 1)) ∷ (13, tree.constant (x 19) (tree.number 2)) ∷ []) ≡ broken 19 rule.TwiceDefined ∷ []
unfolding broken_rules
twice_defined = refl

-- f(x, x) = x
parameter_twice : broken_rules ((0, tree.short (f 0) (x 2 ∷ x 5 ∷ []) (tree.name (x 10))) ∷ []) ≡ broken 5 rule.TwiceDefined ∷ []
unfolding broken_rules language_functions
parameter_twice = refl

-- f(x) = x; f()
wrong_count : broken_rules ((0, tree.short (f 0) (x 2 ∷ []) (tree.name (x 7))) ∷ (10, as_value (tree.call (f 10) tree.no_trees)) ∷ []) ≡ broken 10 rule.WrongCount ∷ []
unfolding broken_rules language_functions
wrong_count = refl

-- x = 1; f() = x
variable_of_the_script : broken_rules ((0, tree.plain (set (x 0))) ∷ (7, tree.short (f 7) [] (tree.name (x 13))) ∷ []) ≡ broken 13 rule.NoConstant ∷ []
unfolding broken_rules language_functions
variable_of_the_script = refl

-- println(); const x = 1
constant_behind_a_statement : broken_rules ((0, as_value (tree.println tree.no_trees)) ∷ (11, tree.constant (x 17) (tree.number 1)) ∷ []) ≡ broken 11 rule.NoConstant ∷ []
unfolding broken_rules
constant_behind_a_statement = refl

-- const x = begin println() end
constant_that_prints : broken_rules ((0, tree.constant (x 6) (tree.block (only (tree.value (tree.println tree.no_trees))))) ∷ []) ≡ broken 0 rule.NoConstant ∷ []
unfolding broken_rules
constant_that_prints = refl

-- break
break_outside_loops : broken_rules ((0, tree.plain (tree.jump (tree.break_loop 0))) ∷ []) ≡ broken 0 rule.BadJump ∷ []
unfolding broken_rules
break_outside_loops = refl

-- while begin break; true end; end
break_in_a_header : broken_rules ((0, as_value (tree.while (tree.block (tree.step (tree.jump (tree.break_loop 12)) (only (tree.value (tree.truth true))))) tree.no_steps)) ∷ []) ≡ broken 12 rule.BadJump ∷ []
unfolding broken_rules
break_in_a_header = refl

-- return
return_in_the_script : broken_rules ((0, tree.plain (tree.jump (tree.return_nothing 0))) ∷ []) ≡ broken 0 rule.BadJump ∷ []
unfolding broken_rules
return_in_the_script = refl

-- x = 1; for x in 1:2; println(x); end
loop_variable_shadows : broken_rules ((0, tree.plain (set (x 0))) ∷ (7, as_value (tree.for_range (x 11) (tree.number 1) (tree.number 2) (only (tree.value (tree.println (one (tree.name (x 29)))))))) ∷ []) ≡ []
unfolding broken_rules
loop_variable_shadows = refl

-- function f(); while true; y = 1; end; y = 1; y; end
abbrev assigned_later : Steps
assigned_later =
    tree.step (tree.value (tree.while (tree.truth true) (only (set (y 26))))) (tree.step (set (y 38)) (only (tree.value (tree.name (y 45)))))

later_assignment : broken_rules ((0, tree.function (f 9) [] assigned_later) ∷ []) ≡ []
unfolding broken_rules language_functions
later_assignment = refl

-- function f(); while true; y = 1; end; y; end
no_later_assignment : broken_rules ((0, tree.function (f 9) [] (tree.step (tree.value (tree.while (tree.truth true) (only (set (y 26))))) (only (tree.value (tree.name (y 38)))))) ∷ []) ≡ broken 38 rule.UnknownName ∷ []
unfolding broken_rules language_functions
no_later_assignment = refl

abbrev t : ℕ → Identifier
t at = record { name = codes "t"; at = at }

abbrev spawn : ℕ → Tree → Tree
spawn at e = tree.spawn at None e

abbrev set_to : Identifier → Tree → Step
set_to i e = tree.assign i assignment.Plain e

-- x = 1; x = 2; t = @spawn x
captured_assigned_twice : broken_rules ((0, tree.plain (set (x 0))) ∷ (7, tree.plain (set (x 7))) ∷ (14, tree.plain (set_to (t 14) (spawn 18 (tree.name (x 25))))) ∷ []) ≡ broken 25 rule.CapturedAssigned ∷ []
unfolding broken_rules
captured_assigned_twice = refl

-- t = @spawn x; x = 1
captured_assigned_later : broken_rules ((0, tree.plain (set_to (t 0) (spawn 4 (tree.name (x 11))))) ∷ (14, tree.plain (set (x 14))) ∷ []) ≡ broken 11 rule.CapturedAssigned ∷ []
unfolding broken_rules
captured_assigned_later = refl

-- x = @spawn x
captured_by_its_own_value : broken_rules ((0, tree.plain (set_to (x 0) (spawn 4 (tree.name (x 11))))) ∷ []) ≡ []
unfolding broken_rules
captured_by_its_own_value = refl

-- x = 1; while true; y = @spawn x; end; the loop assigns no x
abbrev spawned_in_a_loop : List TopTree
spawned_in_a_loop = (0, tree.plain (set (x 0))) ∷ (7, as_value (tree.while (tree.truth true) (only (set_to (y 19) (spawn 23 (tree.name (x 30))))))) ∷ []

captured_in_a_loop : broken_rules spawned_in_a_loop ≡ []
unfolding broken_rules
captured_in_a_loop = refl

-- f(x) = begin x = 1; @spawn x end
parameter_assigned_too : broken_rules ((0, tree.short (f 0) (x 2 ∷ []) (tree.block (tree.step (set (x 13)) (only (tree.value (spawn 20 (tree.name (x 27)))))))) ∷ []) ≡ broken 27 rule.CapturedAssigned ∷ []
unfolding broken_rules language_functions
parameter_assigned_too = refl

-- for x in 1:2; @spawn x; end
loop_variable_captured : broken_rules ((0, as_value (tree.for_range (x 4) (tree.number 1) (tree.number 2) (only (tree.value (spawn 14 (tree.name (x 21))))))) ∷ []) ≡ []
unfolding broken_rules
loop_variable_captured = refl

-- x = 1; @spawn begin x = 1 end
assigned_in_a_body : broken_rules ((0, tree.plain (set (x 0))) ∷ (7, as_value (spawn 7 (tree.block (only (set (x 20)))))) ∷ []) ≡ broken 20 rule.CapturedAssigned ∷ []
unfolding broken_rules
assigned_in_a_body = refl

-- x = 1; x = 2; f() = @spawn x
script_variable_in_a_body : broken_rules ((0, tree.plain (set (x 0))) ∷ (7, tree.plain (set (x 7))) ∷ (14, tree.short (f 14) [] (spawn 20 (tree.name (x 27)))) ∷ [])
    ≡ broken 27 rule.CapturedAssigned ∷ broken 27 rule.NoConstant ∷ []
unfolding broken_rules language_functions
script_variable_in_a_body = refl

-- x = 1; x = 2; @spawn $x
interpolated_value : broken_rules ((0, tree.plain (set (x 0))) ∷ (7, tree.plain (set (x 7))) ∷ (14, as_value (spawn 14 (tree.interpolation 21 (x 22)))) ∷ []) ≡ []
unfolding broken_rules
interpolated_value = refl

-- x = 1; x = 2; @spawn @spawn $x
interpolated_further_in : broken_rules ((0, tree.plain (set (x 0))) ∷ (7, tree.plain (set (x 7))) ∷ (14, as_value (spawn 14 (spawn 21 (tree.interpolation 28 (x 29))))) ∷ []) ≡ broken 29 rule.CapturedAssigned ∷ []
unfolding broken_rules
interpolated_further_in = refl

-- x = 1; $x
interpolated_in_no_body : broken_rules ((0, tree.plain (set (x 0))) ∷ (7, as_value (tree.interpolation 7 (x 8))) ∷ []) ≡ broken 7 rule.UnknownName ∷ []
unfolding broken_rules
interpolated_in_no_body = refl

-- x = 1; while true; @sync begin x = 1 end; end
ambiguous_in_sync : broken_rules ((0, tree.plain (set (x 0))) ∷ (7, as_value (tree.while (tree.truth true) (only (tree.value (tree.sync (tree.block (only (set (x 31))))))))) ∷ []) ≡ broken 31 rule.AmbiguousGlobal ∷ []
unfolding broken_rules
ambiguous_in_sync = refl

-- @sync begin x = 1 end; println(x)
assigned_in_sync : broken_rules ((0, as_value (tree.sync (tree.block (only (set (x 12)))))) ∷ (23, as_value (tree.println (one (tree.name (x 31))))) ∷ []) ≡ []
unfolding broken_rules
assigned_in_sync = refl

-- f() = @sync begin return end
return_out_of_sync : broken_rules ((0, tree.short (f 0) [] (tree.sync (tree.block (only (tree.jump (tree.return_nothing 18)))))) ∷ []) ≡ broken 18 rule.BadJump ∷ []
unfolding broken_rules language_functions
return_out_of_sync = refl

-- @spawn begin return end
return_in_a_body : broken_rules ((0, as_value (spawn 0 (tree.block (only (tree.jump (tree.return_nothing 13)))))) ∷ []) ≡ []
unfolding broken_rules
return_in_a_body = refl

-- while true; @spawn begin break end; end
break_out_of_a_body : broken_rules ((0, as_value (tree.while (tree.truth true) (only (tree.value (spawn 12 (tree.block (only (tree.jump (tree.break_loop 25))))))))) ∷ []) ≡ broken 25 rule.BadJump ∷ []
unfolding broken_rules
break_out_of_a_body = refl

-- const x = @sync 1
constant_with_a_macro : broken_rules ((0, tree.constant (x 6) (tree.sync (tree.number 1))) ∷ []) ≡ broken 0 rule.NoConstant ∷ []
unfolding broken_rules
constant_with_a_macro = refl
