-- What names mean where no rule is broken.
use Rattle.std.specs.Prelude.{◌≡◌, Bool, true, false, ◌||◌, List, [], ◌∷◌, is_some}
use Rattle.jt_syntax.specs.declared.script.Identifier.{Identifier}
use Rattle.jt_syntax.specs.Tree.{TopTree}
use Rattle.jt_names.specs.Names.{Name, member, is_nothing}
use Rattle.jt_outline.specs.declared.mark.ScopeKind.TheVariants as kind
use Rattle.jt_outline.specs.Marks.{MarkTree, Marks, no_marks, mark, use_of, interpolation, scope, FunctionTree, PartTree, constant, statement, OutlineTree}
use Rattle.jt_outline.specs.Outlines.{outline_of}
use Rattle.jt_scopes.specs.declared.scope.Scope.{Scope}
use Rattle.jt_scopes.specs.Scopes.{captures_of, scope_of, script_scope, function_scope}
use Rattle.jt_scopes.specs.Slots.{local, captured}
use Rattle.jt_naming.specs.Rules.{Context}
use Rattle.jt_naming.specs.Scripts.{context_of}

-- some slot stands for the name there: of a variable, or of what the function or task's body captured
abbrev pub has_slot : List Scope → Name → Bool
has_slot c n = is_some (local c n) || is_some (captured c n)

-- a use that no slot stands for and that is of no constant is of `nothing`
abbrev pub UseIsMeant : Context → List Scope → Name → Type 0
UseIsMeant x c n = has_slot c n ≡ false → member x.constants n ≡ false → is_nothing n ≡ true

-- so is `$x`, for which what the task's body captured may stand alone
abbrev pub InterpolationIsMeant : Context → List Scope → Name → Type 0
InterpolationIsMeant x c n = is_some (captured c n) ≡ false → member x.constants n ≡ false → is_nothing n ≡ true

-- what a body captures has a slot where the body stands
abbrev pub CapturesAreThere : List Identifier → List Scope → Type 0
CapturesAreThere is c = (n : Name) → member is n ≡ true → has_slot c n ≡ true

abbrev mutual
  pub IsMeant : Context → List Scope → MarkTree → Type 0
  IsMeant x c (use_of i) = UseIsMeant x c i.name
  IsMeant x c (interpolation at i) = InterpolationIsMeant x c i.name
  -- the script's own scope stands within no other
  IsMeant x c (scope kind.Script at is body) = Unit {0}
  IsMeant x c (scope k at is body) = CapturesAreThere (captures_of c k body) c × AreMeant x (scope_of c k at is body ∷ c) body
  IsMeant x c _ = Unit {0}

  pub AreMeant : Context → List Scope → Marks → Type 0
  AreMeant x c no_marks = Unit {0}
  AreMeant x c (mark m ms) = IsMeant x c m × AreMeant x c ms

abbrev pub FunctionsAreMeant : Context → List Scope → List FunctionTree → Type 0
FunctionsAreMeant x c [] = Unit {0}
FunctionsAreMeant x c (f ∷ fs) = AreMeant x (function_scope c f ∷ c) f.body × FunctionsAreMeant x c fs

abbrev pub PartsAreMeant : Context → List Scope → List PartTree → Type 0
PartsAreMeant x c [] = Unit {0}
PartsAreMeant x c (constant at i ms ∷ ps) = AreMeant x c ms × PartsAreMeant x c ps
PartsAreMeant x c (statement ms ∷ ps) = AreMeant x c ms × PartsAreMeant x c ps

abbrev pub OutlineIsMeant : Context → Scope → OutlineTree → Type 0
OutlineIsMeant x r o = FunctionsAreMeant x (r ∷ []) o.functions × PartsAreMeant x (r ∷ []) o.parts

-- each name that a script uses is one of a variable with a slot, of a constant, or `nothing`
abbrev pub NamesAreMeant : List TopTree → Type 0
NamesAreMeant ts = OutlineIsMeant (context_of ts) (script_scope (outline_of ts).parts) (outline_of ts)
