-- The variables at a place, and what names mean there. A variable is one of a scope round the place, told by
-- how many scopes stand between and by its index among the scope's names, or one that the function's or
-- task's body captured, told by its index. A variable that a scope further in hides is a variable too.
use Rattle.std.specs.Prelude.{◌≡◌, ℕ, zero, suc, ◌+◌, ◌<◌, true, List, [], ◌∷◌, length, Option, Some, None, option_map, if◌then◌else◌}
use Rattle.jt_syntax.specs.declared.script.Identifier.{Identifier}
use Rattle.jt_names.specs.Names.{Name, index}
use Rattle.jt_scopes.specs.declared.scope.Scope.{Scope}
use Rattle.jt_scopes.specs.Scopes.{is_inner}
use Rattle.jt_scopes.specs.Slots.{first}

pub data Variable : Type 0 where
  local : (between i : ℕ) → Variable
  captured : (i : ℕ) → Variable

-- what the innermost function's or task's body captured
abbrev pub captures_at : List Scope → List Identifier
captures_at [] = []
captures_at (r ∷ c) = if is_inner r then captures_at c else r.captures

-- there is such a variable in the same function, task's body or script
abbrev pub HasVariable : List Scope → Variable → Type 0
HasVariable c (captured i) = i < length (captures_at c)
HasVariable [] (local b i) = ⊥
HasVariable (r ∷ c) (local zero i) = i < length r.names
HasVariable (r ∷ c) (local (suc b) i) = (is_inner r ≡ true) × HasVariable c (local b i)

-- its slot
abbrev pub place : List Scope → Variable → ℕ
place c (captured i) = i
place [] (local b i) = 0
place (r ∷ c) (local zero i) = first r c + i
place (r ∷ c) (local (suc b) i) = place c (local b i)

-- the variable as it is told one scope further in
abbrev pub further : Variable → Variable
further (local b i) = local (suc b) i
further (captured i) = captured i

-- the first of the two that is there
abbrev pub either : {A : Type 0} → Option A → Option A → Option A
either None o = o
either (Some v) o = Some v

-- the variable of the nearest scope round the place that has the name, in the same function, task's body or
-- script: an assignment means it
abbrev pub local_of : List Scope → Name → Option Variable
local_of [] x = None
local_of (r ∷ c) x = either (option_map (local 0) (index r.names x)) (if is_inner r then option_map further (local_of c x) else None)

-- what the innermost function's or task's body captured under the name: `$x` means it
abbrev pub captured_of : List Scope → Name → Option Variable
captured_of c x = option_map captured (index (captures_at c) x)

-- the variable that a use of the name means
abbrev pub means : List Scope → Name → Option Variable
means c x = either (local_of c x) (captured_of c x)

-- the variable, if any, is there
abbrev pub IsThere : List Scope → Option Variable → Type 0
IsThere c None = Unit {0}
IsThere c (Some v) = HasVariable c v
