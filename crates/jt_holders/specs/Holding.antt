-- Which of the lists of names that are open have a name. The innermost list stands first.
use Rattle.std.specs.Prelude.{ℕ, suc, nat_le, List, [], ◌∷◌, length, if◌then◌else◌}
use Rattle.jt_syntax.specs.declared.script.Identifier.{Identifier}
use Rattle.jt_names.specs.Names.{Name, member}

-- the depths of the lists that have the name, the innermost one first; the outermost list has the depth 1
abbrev pub depths : List (List Identifier) → Name → List ℕ
depths [] x = []
depths (ns ∷ h) x = if member ns x then suc (length h) ∷ depths h x else depths h x

-- the first of the depths, 0 where there is none
abbrev pub first_of : List ℕ → ℕ
first_of [] = 0
first_of (d ∷ ds) = d

-- the first of them that is at most this depth, 0 where there is none
abbrev pub first_within : ℕ → List ℕ → ℕ
first_within n [] = 0
first_within n (d ∷ ds) = if nat_le d n then d else first_within n ds

-- the depth of the innermost list that has the name
abbrev pub innermost : List (List Identifier) → Name → ℕ
innermost h x = first_of (depths h x)

-- that of the innermost one among the outermost so many lists
abbrev pub innermost_within : ℕ → List (List Identifier) → Name → ℕ
innermost_within n h x = first_within n (depths h x)
