-- The rules of names: which of them what stands in a script breaks, and where. A chain is the scopes round a
-- place, from the innermost one outwards.
use Rattle.std.specs.Prelude.{ℕ, nat_lt, nat_eq, Bool, true, false, not, ◌&&◌, ◌||◌, if◌then◌else◌, List, [], ◌∷◌, ◌++◌, Option, Some, None, is_some}
use Rattle.jt_functions.specs.declared.function.Arity.{Arity}
use Rattle.jt_functions.specs.Functions.{arity_of, is_language_function}
use Rattle.jt_syntax.specs.declared.script.Identifier.{Identifier}
use Rattle.jt_names.specs.declared.functions.Signature.{Signature}
use Rattle.jt_names.specs.Names.{Name, member, place_of, is_nothing}
use Rattle.jt_names.specs.Tops.{signature_of, function_place}
use Rattle.jt_outline.specs.Marks.{MarkTree, Marks, no_marks, mark, use_of, interpolation, assignment, call, print, macro, loop_jump, return_jump, scope}
use Rattle.jt_naming.specs.declared.rules.Broken.{Broken}
use Rattle.jt_naming.specs.declared.rules.Rule.{Rule}
use Rattle.jt_naming.specs.declared.rules.Rule.TheVariants as rule
use Rattle.jt_scopes.specs.declared.scope.Scope.{Scope}
use Rattle.jt_scopes.specs.Scopes.{loop_kind, known, scope_of}
use Rattle.jt_scopes.specs.Tests.{leaves_function, ambiguous, in_script, in_loop, in_function, before, crosses, assigned_out, outside}

-- what the script as a whole has: its constants and its functions in order, and what its own scope assigns
pub record Context : Type 0 where
  pub constants : List Identifier
  pub functions : List Signature
  pub variables : List Identifier

-- a use means a variable of a scope round it, a constant of the script, or `nothing`
abbrev pub unknown : Context → List Scope → Name → Bool
unknown x c n = not (known c n || (member x.constants n || is_nothing n))

-- a function of the script is called: a function of the language of that name goes before it
abbrev pub is_script_function : Context → Name → Bool
is_script_function x n = not (is_language_function n) && is_some (signature_of x.functions n)

-- ---- what each mark breaks

abbrev pub broken : ℕ → Rule → Broken
broken at r = record { at = at; rule = r }

abbrev pub when : Bool → ℕ → Rule → List Broken
when b at r = if b then broken at r ∷ [] else []

-- whether a function that takes so many arguments is called with another number
abbrev pub is_wrong : Arity → ℕ → Bool
is_wrong a n = nat_lt n a.least || nat_lt a.most n

abbrev pub script_call_breaks : Option Signature → ℕ → ℕ → List Broken
script_call_breaks None at n = broken at rule.UnknownName ∷ []
script_call_breaks (Some f) at n = when (not (nat_eq f.parameters n)) at rule.WrongCount

abbrev pub call_breaks : Option Arity → Option Signature → ℕ → ℕ → List Broken
call_breaks (Some a) f at n = when (is_wrong a n) at rule.WrongCount
call_breaks None f at n = script_call_breaks f at n

abbrev pub use_breaks : Context → Identifier → List Scope → List Broken
use_breaks x i c =
    when (unknown x c i.name) i.at rule.UnknownName
    ++ (when (crosses c i.name) i.at rule.CapturedAssigned
    ++ when (leaves_function c i.name) i.at rule.NoConstant)

-- `$x` is a use in the scopes round the innermost task's body, and stands in no other place
abbrev pub interpolation_breaks : Context → ℕ → Identifier → Option (List Scope) → List Broken
interpolation_breaks x at i None = broken at rule.UnknownName ∷ []
interpolation_breaks x at i (Some c) = use_breaks x i c

abbrev pub assignment_breaks : Context → Identifier → List Scope → List Broken
assignment_breaks x i c =
    when (assigned_out c i.name) i.at rule.CapturedAssigned
    ++ (when (ambiguous c i.name) i.at rule.AmbiguousGlobal
    ++ when (in_script c && (is_nothing i.name || before (place_of x.constants i.name) i.at)) i.at rule.TwiceDefined)

-- a constant, with the place of `const`, and whether it may not stand there
abbrev pub constant_breaks : Context → Identifier → ℕ → Bool → List Broken
constant_breaks x i at misplaced =
    when (is_nothing i.name || (before (place_of x.constants i.name) i.at || before (place_of x.variables i.name) i.at)) i.at rule.TwiceDefined
    ++ when misplaced at rule.NoConstant

abbrev pub function_breaks : Context → Identifier → List Broken
function_breaks x i = when (is_language_function i.name || before (function_place (signature_of x.functions i.name)) i.at) i.at rule.TwiceDefined

-- a parameter, behind these
abbrev pub parameter_breaks : List Identifier → Identifier → List Broken
parameter_breaks earlier i = when (member earlier i.name) i.at rule.TwiceDefined

-- c: the scopes round it
abbrev mutual
  pub mark_breaks : Context → List Scope → MarkTree → List Broken
  mark_breaks x c (use_of i) = use_breaks x i c
  mark_breaks x c (interpolation at i) = interpolation_breaks x at i (outside c)
  mark_breaks x c (assignment i) = assignment_breaks x i c
  mark_breaks x c (call i n) = call_breaks (arity_of i.name) (signature_of x.functions i.name) i.at n
  mark_breaks x c print = []
  mark_breaks x c macro = []
  mark_breaks x c (loop_jump at) = when (not (in_loop c)) at rule.BadJump
  mark_breaks x c (return_jump at) = when (not (in_function c)) at rule.BadJump
  mark_breaks x c (scope k at is body) = breaks x (scope_of c k at is body ∷ c) body

  pub breaks : Context → List Scope → Marks → List Broken
  breaks x c no_marks = []
  breaks x c (mark m ms) = mark_breaks x c m ++ breaks x c ms

-- a function of the script is called there, something is printed, or a macro word stands there
abbrev mutual
  pub is_call : Context → MarkTree → Bool
  is_call x (call i n) = is_script_function x i.name
  is_call x print = true
  is_call x macro = true
  is_call x (scope k at is body) = if loop_kind k then calls x body else true
  is_call x _ = false

  pub calls : Context → Marks → Bool
  calls x no_marks = false
  calls x (mark m ms) = is_call x m || calls x ms

-- ---- order

abbrev pub rank : Rule → ℕ
rank rule.UnknownName = 1
rank rule.CapturedAssigned = 2
rank rule.AmbiguousGlobal = 3
rank rule.TwiceDefined = 4
rank rule.WrongCount = 5
rank rule.NoConstant = 6
rank rule.BadJump = 7

-- the lesser place, and at one place the lower rank
abbrev pub below : Broken → Broken → Bool
below a b = nat_lt a.at b.at || (nat_eq a.at b.at && nat_lt (rank a.rule) (rank b.rule))
