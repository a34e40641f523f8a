-- A whole script: which rules it breaks.
use Rattle.std.specs.Prelude.{◌≡◌, Bool, true, false, ◌||◌, List, [], ◌∷◌, ◌++◌, ◌⊎◌}
use Rattle.jt_syntax.specs.declared.script.Identifier.{Identifier}
use Rattle.jt_syntax.specs.Tree.{TopTree}
use Rattle.jt_names.specs.Names.{add}
use Rattle.jt_names.specs.Tops.{constants_of, signatures_of}
use Rattle.jt_outline.specs.Marks.{FunctionTree, PartTree, constant, statement, OutlineTree}
use Rattle.jt_outline.specs.Outlines.{outline_of}
use Rattle.jt_naming.specs.declared.rules.Broken.{Broken}
use Rattle.jt_scopes.specs.declared.scope.Scope.{Scope}
use Rattle.jt_scopes.specs.Scopes.{function_scope, script_scope}
use Rattle.jt_naming.specs.Rules.{Context, breaks, calls, constant_breaks, function_breaks, parameter_breaks, below}

abbrev pub context_of : List TopTree → Context
context_of ts = record { constants = constants_of [] ts; functions = signatures_of [] ts; variables = (script_scope (outline_of ts).parts).names }

-- the parameters of a function, each with those before it
abbrev pub parameters_break : List Identifier → List Identifier → List Broken
parameters_break earlier [] = []
parameters_break earlier (i ∷ is) = parameter_breaks earlier i ++ parameters_break (add earlier i) is

abbrev pub functions_break : Context → List Scope → List FunctionTree → List Broken
functions_break x c [] = []
functions_break x c (f ∷ fs) =
    function_breaks x f.name ++ (parameters_break [] f.parameters ++ (breaks x (function_scope c f ∷ c) f.body ++ functions_break x c fs))

-- A constant is misplaced behind a statement, or where its expression calls a function of the script,
-- prints or has a macro word. late: a statement stood before
abbrev pub parts_break : Context → List Scope → Bool → List PartTree → List Broken
parts_break x c late [] = []
parts_break x c late (constant at i ms ∷ ps) = breaks x c ms ++ (constant_breaks x i at (late || calls x ms) ++ parts_break x c late ps)
parts_break x c late (statement ms ∷ ps) = breaks x c ms ++ parts_break x c true ps

abbrev pub outline_breaks : Context → Scope → OutlineTree → List Broken
outline_breaks x r o = functions_break x (r ∷ []) o.functions ++ parts_break x (r ∷ []) false o.parts

-- all rules that a script breaks, with the places
unfoldable pub broken_rules : List TopTree → List Broken
broken_rules ts = outline_breaks (context_of ts) (script_scope (outline_of ts).parts) (outline_of ts)

abbrev pub BreaksNone : List TopTree → Type 0
BreaksNone ts = broken_rules ts ≡ []

abbrev pub IsOneOf : Broken → List Broken → Type 0
IsOneOf b [] = ⊥
IsOneOf b (x ∷ xs) = (b ≡ x) ⊎ IsOneOf b xs

abbrev pub NoneBelow : Broken → List Broken → Type 0
NoneBelow b [] = Unit {0}
NoneBelow b (x ∷ xs) = (below x b ≡ false) × NoneBelow b xs

-- it is among them, and none comes before it
pub record IsForemost (b : Broken) (bs : List Broken) : Type 0 where
  pub among : IsOneOf b bs
  pub least : NoneBelow b bs

-- the broken rule that counts: the one at the smallest place, and there that of the lowest rank
abbrev pub Breaks : List TopTree → Broken → Type 0
Breaks ts b = IsForemost b (broken_rules ts)
