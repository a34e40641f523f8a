-- Tests of a name at a place, and of a place: a chain is the scopes round it, from the innermost one outwards.
use Rattle.std.specs.Prelude.{ℕ, nat_lt, ◌-◌, drop, length, Bool, true, false, not, ◌&&◌, ◌||◌, if◌then◌else◌, List, [], ◌∷◌, Option, Some, None}
use Rattle.jt_names.specs.Names.{Name, member, place_of}
use Rattle.jt_scopes.specs.declared.scope.Scope.{Scope}
use Rattle.jt_scopes.specs.Scopes.{is_loop, is_function, is_script, is_task, is_sync, is_inner, has, known, text_has}

-- on the way out to the name a function is left
abbrev pub leaves_function : List Scope → Name → Bool
leaves_function [] n = false
leaves_function (r ∷ c) n = not (has r n) && ((is_function r && known c n) || leaves_function c n)

-- the scopes belong to the script, whose own scope has the name
abbrev pub is_global : List Scope → Name → Bool
is_global [] n = false
is_global (r ∷ c) n = (is_script r && has r n) || (is_inner r && is_global c n)

-- and a loop is among them
abbrev pub ambiguous : List Scope → Name → Bool
ambiguous [] n = false
ambiguous (r ∷ c) n = (is_loop r && is_global c n) || (is_sync r && ambiguous c n)

-- the place is in the script's own scope
abbrev pub in_script : List Scope → Bool
in_script [] = false
in_script (r ∷ c) = is_script r || (is_sync r && in_script c)

-- `break` and `continue` leave no `@sync` and no task's body
abbrev pub in_loop : List Scope → Bool
in_loop [] = false
in_loop (r ∷ c) = is_loop r

-- `return` leaves no `@sync`
abbrev pub in_function : List Scope → Bool
in_function [] = false
in_function (r ∷ c) = is_function r || (is_task r || (is_loop r && in_function c))

-- the first of a name stands before this place
abbrev pub before : Option ℕ → ℕ → Bool
before None at = false
before (Some first) at = nat_lt first at

-- the variable that the name means is assigned once, and that before this place; so is a constant
abbrev pub once_before : List Scope → Name → ℕ → Bool
once_before [] n at = true
once_before (r ∷ c) n at = if has r n then not (member r.again n) && before (place_of r.names n) at else once_before c n at

-- on the way out to the name a task's body is left before whose macro word it isn't assigned once and for all
abbrev pub crosses : List Scope → Name → Bool
crosses [] n = false
crosses (r ∷ c) n = not (has r n) && ((is_task r && not (once_before c n r.at)) || crosses c n)

-- the place is in a task's body, and a scope round the body has the name in the same function or script
abbrev pub assigned_out : List Scope → Name → Bool
assigned_out [] n = false
assigned_out (r ∷ c) n = (is_task r && text_has c n) || (not (is_function r) && assigned_out c n)

-- the scopes round the innermost task's body of the same function or script
abbrev pub outside : List Scope → Option (List Scope)
outside [] = None
outside (r ∷ c) = if is_task r then Some c else (if is_inner r then outside c else None)

-- the outermost so many scopes, all where there are no more
abbrev pub outer : ℕ → List Scope → List Scope
outer d c = drop (length c - d) c
