-- What names mean in a few scopes.
use Rattle.std.proofs.Common.{◌≡◌, ℕ, true, false, List, [], ◌∷◌, Some, None, refl}
use Rattle.std.specs.Prelude.{codes}
use Rattle.jt_syntax.specs.declared.script.Identifier.{Identifier}
use Rattle.jt_outline.specs.declared.mark.ScopeKind.{ScopeKind}
use Rattle.jt_outline.specs.declared.mark.ScopeKind.TheVariants as kind
use Rattle.jt_names.specs.Names.{Name}
use Rattle.jt_scopes.specs.declared.scope.Scope.{Scope}
use Rattle.jt_scopes.specs.Awaited.{is_awaited}
use Rattle.jt_scopes.specs.Slots.{first, local, captured}
use Rattle.jt_scopes.specs.Tests.{outer, crosses, leaves_function, assigned_out, ambiguous, outside}
use Rattle.jt_places.specs.Variables as variable
use Rattle.jt_places.specs.Variables.{means}

abbrev named : ℕ → Name → Identifier
named at x = record { name = x; at = at }

abbrev scope : ScopeKind → ℕ → List Identifier → List Identifier → List Identifier → Scope
scope k at names again captures = record { kind = k; at = at; names = names; again = again; captures = captures }

-- x = 1; y = 1; y = 2
abbrev script : Scope
script = scope kind.Script 0 (named 0 (codes "x") ∷ named 7 (codes "y") ∷ []) (named 7 (codes "y") ∷ []) []

-- for i in 1:2
abbrev loop : Scope
loop = scope kind.Loop 0 (named 30 (codes "i") ∷ []) [] []

-- @spawn begin z = x + y end
abbrev task : Scope
task = scope kind.Task 40 (named 53 (codes "z") ∷ []) [] (named 57 (codes "x") ∷ named 61 (codes "y") ∷ [])

abbrev function : Scope
function = scope kind.Function 0 (named 2 (codes "p") ∷ []) [] []

abbrev sync : Scope
sync = scope kind.Sync 0 [] [] []

-- a loop's variable stands behind those of the script, and that of a loop within behind it
loop_slot : local (loop ∷ script ∷ []) (codes "i") ≡ Some 2
loop_slot = refl

inner_first : first loop (loop ∷ script ∷ []) ≡ 3
inner_first = refl

-- the inner of two loops with variables of one name
inner_slot : local (loop ∷ loop ∷ script ∷ []) (codes "i") ≡ Some 3
inner_slot = refl

inner_means : means (loop ∷ loop ∷ script ∷ []) (codes "i") ≡ Some (variable.local 0 0)
inner_means = refl

-- a task's body has no variables but its own and what it captured, which stands first
task_slot : local (task ∷ loop ∷ script ∷ []) (codes "z") ≡ Some 2
task_slot = refl

outer_slot : local (task ∷ loop ∷ script ∷ []) (codes "x") ≡ None
outer_slot = refl

captured_slot : captured (task ∷ loop ∷ script ∷ []) (codes "y") ≡ Some 1
captured_slot = refl

-- x is assigned once and before the task, and y twice
x_crosses : crosses (task ∷ script ∷ []) (codes "x") ≡ false
x_crosses = refl

y_crosses : crosses (task ∷ script ∷ []) (codes "y") ≡ true
y_crosses = refl

-- a task's body assigns none of the script's variables
x_assigned_out : assigned_out (task ∷ script ∷ []) (codes "x") ≡ true
x_assigned_out = refl

-- nor does a loop of the script
x_ambiguous : ambiguous (loop ∷ script ∷ []) (codes "x") ≡ true
x_ambiguous = refl

-- a function sees none of them
x_leaves : leaves_function (loop ∷ function ∷ script ∷ []) (codes "x") ≡ true
x_leaves = refl

p_leaves : leaves_function (loop ∷ function ∷ script ∷ []) (codes "p") ≡ false
p_leaves = refl

-- `$x` is looked for outside the task's body
outside_task : outside (loop ∷ task ∷ script ∷ []) ≡ Some (script ∷ [])
outside_task = refl

outermost : outer 1 (loop ∷ task ∷ script ∷ []) ≡ script ∷ []
outermost = refl

-- an `@sync` waits for the tasks that are made in its loops, but not for those of a function
loop_awaited : is_awaited (loop ∷ sync ∷ script ∷ []) ≡ true
loop_awaited = refl

function_awaited : is_awaited (function ∷ sync ∷ script ∷ []) ≡ false
function_awaited = refl
