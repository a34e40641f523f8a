-- Variables by number. What a task's body captures stands first. A loop's variables stand behind those of
-- the scopes round it in the same function, task's body or script.
use Rattle.std.specs.Prelude.{ℕ, ◌+◌, List, [], ◌∷◌, length, Option, Some, None, if◌then◌else◌}
use Rattle.jt_names.specs.Names.{Name, index}
use Rattle.jt_scopes.specs.declared.scope.Scope.{Scope}
use Rattle.jt_scopes.specs.Scopes.{is_inner}

-- how many variables the function, task's body or script has, with those of the loops round the place
abbrev pub room : List Scope → ℕ
room [] = 0
room (r ∷ c) = (if is_inner r then room c else length r.captures) + length r.names

-- the slot of a scope's first variable, in the scopes round it
abbrev pub first : Scope → List Scope → ℕ
first r c = if is_inner r then room c else length r.captures

abbrev pub behind : ℕ → Option ℕ → Option ℕ → Option ℕ
behind n None o = o
behind n (Some i) o = Some (n + i)

-- the slot of the variable of the nearest scope round the place that has the name, in the same function,
-- task's body or script
abbrev pub local : List Scope → Name → Option ℕ
local [] x = None
local (r ∷ c) x = behind (first r c) (index r.names x) (if is_inner r then local c x else None)

-- the slot of what the innermost function's or task's body captured under the name
abbrev pub captured : List Scope → Name → Option ℕ
captured [] x = None
captured (r ∷ c) x = if is_inner r then captured c x else index r.captures x
