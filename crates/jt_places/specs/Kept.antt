-- The scopes of a chain, with what is kept of the scopes up to each.
use Rattle.std.specs.Prelude.{◌≡◌, ℕ, suc, nat_lt, Bool, false, not, ◌&&◌, ◌||◌, List, [], ◌∷◌, length, map, Option, None}
use Rattle.jt_syntax.specs.declared.script.Identifier.{Identifier}
use Rattle.jt_names.specs.Names.{Name, member, index, place_of}
use Rattle.jt_scopes.specs.declared.scope.Scope.{Scope}
use Rattle.jt_scopes.specs.Scopes.{is_script, is_task, has}
use Rattle.jt_places.specs.declared.place.Place.{Place}
use Rattle.jt_scopes.specs.Tests.{before}
use Rattle.jt_scopes.specs.Slots.{first, behind}
use Rattle.jt_places.specs.Standings.{standing_of}

-- the scopes of the places, where the innermost place stands first
abbrev pub scopes_in : List Place → List Scope
scopes_in ps = map (λ p. p.scope.now) ps

-- the names that each scope has
abbrev pub names_in : List Scope → List (List Identifier)
names_in c = map (λ r. r.names) c

-- what a place keeps, where these scopes stand up to it
pub record IsKept (p : Place) (r : Scope) (c : List Scope) : Type 0 where
  pub scope : p.scope.now ≡ r
  pub first : p.first ≡ first r c
  pub standing : p.standing ≡ standing_of (r ∷ c)

abbrev pub KeepsScopes : Place → List Scope → Type 0
KeepsScopes p [] = ⊥
KeepsScopes p (r ∷ c) = IsKept p r c

abbrev pub AreKept : List Place → Type 0
AreKept [] = Unit {0}
AreKept (p ∷ ps) = KeepsScopes p (scopes_in (p ∷ ps)) × AreKept ps

-- a chain's places, and the names of its scopes
pub record IsChain (ps : List Place) (h : List (List Identifier)) : Type 0 where
  pub kept : AreKept ps
  pub names : h ≡ names_in (scopes_in ps)

-- the innermost scope is the script's own and has the name
abbrev pub begins_global : List Scope → Name → Bool
begins_global [] x = false
begins_global (r ∷ c) x = is_script r && has r x

-- the scope assigns the name once, and that before this place
abbrev pub assigns_once : Scope → Name → ℕ → Bool
assigns_once r x at = not (member r.again x) && before (place_of r.names x) at

-- among the scopes deeper than this is a task's body whose macro word doesn't stand behind the one
-- assignment of the name in this scope
abbrev pub crossed : List Scope → ℕ → Scope → Name → Bool
crossed [] d s x = false
crossed (r ∷ c) d s x = nat_lt d (suc (length c)) && ((is_task r && not (assigns_once s x r.at)) || crossed c d s x)

-- the slot of the innermost scope's variable of this name
abbrev pub slot_in : List Scope → Name → Option ℕ
slot_in [] x = None
slot_in (r ∷ c) x = behind (first r c) (index r.names x) None

-- the slot of what the innermost scope captured under the name
abbrev pub capture_in : List Scope → Name → Option ℕ
capture_in [] x = None
capture_in (r ∷ c) x = index r.captures x
