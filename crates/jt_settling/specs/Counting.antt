-- How often names are assigned, as a number for each name.
use Rattle.std.specs.Prelude.{ℕ, ◌+◌, ◌-◌, ◌^◌, min, Bool, nat_eq, nat_lt, List, [], ◌∷◌, if◌then◌else◌}
use Rattle.std.specs.Cmp.Lexicographic.{pointwise}
use Rattle.jt_syntax.specs.declared.script.Identifier.{Identifier}
use Rattle.jt_names.specs.Names.{Name}

-- the number of a name, 0 where it has none
abbrev pub number : List (Name × ℕ) → Name → ℕ
number [] x = 0
number (e ∷ es) x = if pointwise nat_eq x e.0 then e.1 else number es x

-- the number of this name is n, that of the others as before
abbrev pub with_number : List (Name × ℕ) → Identifier → ℕ → List (Name × ℕ)
with_number [] i n = (i.name, n) ∷ []
with_number (e ∷ es) i n = if pointwise nat_eq i.name e.0 then (e.0, n) ∷ es else e ∷ with_number es i n

-- a number is kept up to 255
abbrev pub capped : ℕ → ℕ
capped n = min n (2 ^ 8 - 1)

-- one more for this name
abbrev pub counted : List (Name × ℕ) → Identifier → List (Name × ℕ)
counted c i = with_number c i (capped (number c i.name + 1))

abbrev pub first_number : List ℕ → ℕ
first_number [] = 0
first_number (n ∷ ns) = n

abbrev pub later_numbers : List ℕ → List ℕ
later_numbers [] = []
later_numbers (n ∷ ns) = ns

-- each name has the number that stands at its place
abbrev pub restored : List (Name × ℕ) → List Identifier → List ℕ → List (Name × ℕ)
restored c [] ns = c
restored c (i ∷ is) ns = restored (with_number c i (first_number ns)) is (later_numbers ns)

-- none of them was assigned
abbrev pub cleared : List (Name × ℕ) → List Identifier → List (Name × ℕ)
cleared c is = restored c is []

abbrev pub is_again : List (Name × ℕ) → Name → Bool
is_again c x = nat_lt 1 (number c x)
