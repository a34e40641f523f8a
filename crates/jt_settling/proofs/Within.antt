-- What is known of a name at a place shows in the depth of the innermost list that has it.
use Rattle.std.proofs.Common.{◌≡◌, ℕ, ◌≤◌, ◌<◌, nat_lt, true, false, List, [], ◌∷◌, length, map, if◌then◌else◌, arith}
use Rattle.std.proofs.lemmas.Bool.Decides.{nat_tests}
use Rattle.jt_syntax.specs.declared.script.Identifier.{Identifier}
use Rattle.jt_names.specs.Names.{Name}
use Rattle.jt_holders.specs.Holding.{innermost}
use Rattle.jt_scopes.specs.declared.scope.Scope.{Scope}
use Rattle.jt_scopes.specs.Scopes.{is_inner, is_function, had, text_has}
use Rattle.jt_settling.specs.Settling.{is_within}

abbrev pub lists : List Scope → List (List Identifier)
lists c = map (λ r. r.names) c

-- how many scopes are round the innermost body
abbrev pub body_of : List Scope → ℕ
body_of [] = 0
body_of (r ∷ c) = if is_inner r then body_of c else length (lists c)

-- and round the innermost function
abbrev pub text_of : List Scope → ℕ
text_of [] = 0
text_of (r ∷ c) = if is_function r then length (lists c) else text_of c

innermost_below : (h : List (List Identifier)) (x : Name) → innermost h x ≤ length h
innermost_below [] x = omega arith
innermost_below (ns ∷ h) x = let e : innermost h x ≤ length h = innermost_below h x in grind arith

body_below : (c : List Scope) → body_of c ≤ length (lists c)
body_below [] = omega arith
body_below (r ∷ c) = let e : body_of c ≤ length (lists c) = body_below c in grind arith

text_below : (c : List Scope) → text_of c ≤ length (lists c)
text_below [] = omega arith
text_below (r ∷ c) = let e : text_of c ≤ length (lists c) = text_below c in grind arith

pub had_within : (c : List Scope) (x : Name) → is_within (body_of c) (lists c) x ≡ had c x
had_within [] x = grind (arith, nat_tests)
had_within (r ∷ c) x =
    let below : body_of c ≤ length (lists c) = body_below c in
    let near : innermost (lists c) x ≤ length (lists c) = innermost_below (lists c) x in
    let e : is_within (body_of c) (lists c) x ≡ had c x = had_within c x in
    grind (arith, nat_tests)

pub text_within : (c : List Scope) (x : Name) → is_within (text_of c) (lists c) x ≡ text_has c x
text_within [] x = grind (arith, nat_tests)
text_within (r ∷ c) x =
    let below : text_of c ≤ length (lists c) = text_below c in
    let near : innermost (lists c) x ≤ length (lists c) = innermost_below (lists c) x in
    let e : is_within (text_of c) (lists c) x ≡ text_has c x = text_within c x in
    grind (arith, nat_tests)
