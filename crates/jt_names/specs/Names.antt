-- Lists of names, each with a place.
use Rattle.std.specs.Prelude.{ℕ, Bool, false, ◌||◌, List, [], ◌∷◌, ◌++◌, Option, Some, None, if◌then◌else◌, position, codes}
use Rattle.std.specs.List.{list_any}
use Rattle.jt_syntax.specs.Bytes.{same_bytes}
use Rattle.jt_syntax.specs.declared.script.Identifier.{Identifier}

-- the bytes of a name
abbrev pub Name : Type 0
Name = List ℕ

abbrev pub is_named : Name → Identifier → Bool
is_named x i = same_bytes i.name x

abbrev pub member : List Identifier → Name → Bool
member is x = list_any (is_named x) is

-- the names, and this one where it isn't among them
abbrev pub add : List Identifier → Identifier → List Identifier
add is i = if member is i.name then is else is ++ i ∷ []

abbrev pub add_all : List Identifier → List Identifier → List Identifier
add_all is [] = is
add_all is (j ∷ js) = add_all (add is j) js

-- the names s, and of the others those whose name passes
abbrev pub add_where : (Name → Bool) → List Identifier → List Identifier → List Identifier
add_where p s [] = s
add_where p s (i ∷ is) = add_where p (if p i.name then add s i else s) is

-- some of the lists has the name
abbrev pub hidden : List (List Identifier) → Name → Bool
hidden [] x = false
hidden (s ∷ h) x = member s x || hidden h x

-- how many names stand before it
abbrev pub index : List Identifier → Name → Option ℕ
index is x = position (is_named x) is

-- where the first of this name stands
abbrev pub place_of : List Identifier → Name → Option ℕ
place_of [] x = None
place_of (i ∷ is) x = if is_named x i then Some i.at else place_of is x

-- `nothing`, a constant of the language
abbrev pub is_nothing : Name → Bool
is_nothing x = same_bytes x (codes "nothing")
