-- A name has a slot exactly where a scope of its own function, task's body or script has it, or the body
-- captured it.
use Rattle.std.proofs.Common.{◌≡◌, ℕ, suc, ◌+◌, nat_lt, Bool, true, false, not, ◌&&◌, ◌||◌, List, [], ◌∷◌, length, Option, Some, None, refl, ap, ◌∙◌, cond, if◌then◌else◌, arith}
use Rattle.std.proofs.lemmas.Bool.Decides.{nat_tests}
use Rattle.std.specs.List.{list_any, position_or_len}
use Rattle.std.specs.Option.{is_some}
use Rattle.jt_syntax.specs.declared.script.Identifier.{Identifier}
use Rattle.jt_names.specs.Names.{Name, is_named, member, index}
use Rattle.jt_scopes.specs.declared.scope.Scope.{Scope}
use Rattle.jt_scopes.specs.Scopes.{is_inner, has, had}
use Rattle.jt_scopes.specs.Slots.{behind, first, local, captured}
use Rattle.jt_rules.specs.Meant.{has_slot}

any_below : (p : Identifier → Bool) (is : List Identifier) → nat_lt (position_or_len p is) (length is) ≡ list_any p is
any_below p [] = refl
any_below p (i ∷ is) = let e : nat_lt (position_or_len p is) (length is) ≡ list_any p is = any_below p is in grind (arith, nat_tests)

some_cond : (t : Bool) (k : ℕ) → is_some (cond t (Some k) None) ≡ t
some_cond true k = refl
some_cond false k = refl

index_some : (is : List Identifier) (n : Name) → is_some (index is n) ≡ member is n
index_some is n = some_cond (nat_lt (position_or_len (is_named n) is) (length is)) (position_or_len (is_named n) is) ∙ any_below (is_named n) is

behind_some : (k : ℕ) (o q : Option ℕ) → is_some (behind k o q) ≡ (is_some o || is_some q)
behind_some k None q = refl
behind_some k (Some i) q = refl

inner_some : (t : Bool) (o : Option ℕ) → is_some (if t then o else None) ≡ (t && is_some o)
inner_some true o = refl
inner_some false o = refl

pub local_some : (c : List Scope) (n : Name) → is_some (local c n) ≡ had c n
local_some [] n = refl
local_some (r ∷ c) n =
    behind_some (first r c) (index r.names n) (if is_inner r then local c n else None)
    ∙ (ap (λ z. z || is_some (if is_inner r then local c n else None)) (index_some r.names n)
    ∙ ap (λ z. has r n || z) (inner_some (is_inner r) (local c n) ∙ ap (λ z. is_inner r && z) (local_some c n)))

-- the innermost function's or task's body captured the name
abbrev pub took : List Scope → Name → Bool
took [] n = false
took (r ∷ c) n = if is_inner r then took c n else member r.captures n

pub captured_some : (c : List Scope) (n : Name) → is_some (captured c n) ≡ took c n
captured_some [] n = refl
captured_some (r ∷ c) n = by (is_inner r) (captured_some c n)
  where
    by : (t : Bool) → is_some (captured c n) ≡ took c n → is_some (if t then captured c n else index r.captures n) ≡ (if t then took c n else member r.captures n)
    by true e = e
    by false e = index_some r.captures n

-- a scope of its own function, task's body or script has the name, or the body captured it
abbrev pub binds : List Scope → Name → Bool
binds [] n = false
binds (r ∷ c) n = has r n || (if is_inner r then binds c n else member r.captures n)

either_binds : (c : List Scope) (n : Name) → (had c n || took c n) ≡ binds c n
either_binds [] n = refl
either_binds (r ∷ c) n = let e : (had c n || took c n) ≡ binds c n = either_binds c n in grind arith

pub slot_binds : (c : List Scope) (n : Name) → has_slot c n ≡ binds c n
slot_binds c n = ap (λ z. z || is_some (captured c n)) (local_some c n) ∙ (ap (λ z. had c n || z) (captured_some c n) ∙ either_binds c n)
