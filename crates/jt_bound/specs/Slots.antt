-- What a name means at a place: a variable by its slot, or a constant by its number.
use Rattle.std.specs.Prelude.{ℕ, List, map, Option, Some, None, unwrap_or}
use Rattle.jt_syntax.specs.declared.script.Identifier.{Identifier}
use Rattle.jt_names.specs.Names.{Name, index}
use Rattle.jt_scopes.specs.declared.scope.Scope.{Scope}
use Rattle.jt_scopes.specs.Slots.{local, captured}
use Rattle.jt_lowered.specs.declared.target.Target.{Target}
use Rattle.jt_lowered.specs.declared.target.Target.TheVariants as means

abbrev pub constant_or_nothing : Option ℕ → Target
constant_or_nothing None = means.Nothing
constant_or_nothing (Some k) = means.Constant k

-- a constant of the script; otherwise `nothing`, the constant of the language
abbrev pub constant_of : List Identifier → Name → Target
constant_of ks x = constant_or_nothing (index ks x)

abbrev pub slot_or : Option ℕ → Target → Target
slot_or None t = t
slot_or (Some n) t = means.Slot n

-- `$x` is what the innermost task's body captured under the name, also where it has such a variable of
-- its own; else a constant
abbrev pub interpolated : List Identifier → List Scope → Name → Target
interpolated ks c x = slot_or (captured c x) (constant_of ks x)

-- the variable of the nearest scope round a use that has the name, in the same function, task's body or
-- script; else what the task's body captured under the name; else a constant
abbrev pub target : List Identifier → List Scope → Name → Target
target ks c x = slot_or (local c x) (interpolated ks c x)

-- the slot of the variable of the name: an assignment writes to it, and a task takes its value
abbrev pub slot_of : List Scope → Name → ℕ
slot_of c x = unwrap_or (local c x) (unwrap_or (captured c x) 0)

-- where the maker of a task has what the task takes
abbrev pub slots_of : List Scope → List Identifier → List ℕ
slots_of c is = map (λ i. slot_of c i.name) is
