-- The table behind the open lists: for each name that some list had, the depths of those that are open.
use Rattle.std.specs.Prelude.{◌≡◌, ℕ, suc, List, [], ◌∷◌, length, reverse, unwrap_or, if◌then◌else◌}
use Rattle.std.specs.declared.vec.Vec.{Vec}
use Rattle.jt_syntax.specs.declared.script.Identifier.{Identifier}
use Rattle.jt_names.specs.Lookup.{found}
use Rattle.jt_names.specs.Names.{Name, is_named}

-- those of a name, the innermost one first
abbrev pub depths_in : {Z : Type 0} → List (Vec ℕ Z × List ℕ) → Name → List ℕ
depths_in es x = reverse (unwrap_or (found es x) [])

-- the depths of a name, and before them this depth for each of the identifiers that has the name
abbrev pub pushed : List Identifier → ℕ → List ℕ → Name → List ℕ
pushed [] d ds x = ds
pushed (i ∷ is) d ds x = if is_named x i then d ∷ pushed is d ds x else pushed is d ds x

-- those of a name in the open lists, once for each time that it stands in one
abbrev pub stacked : List (List Identifier) → Name → List ℕ
stacked [] x = []
stacked (ns ∷ h) x = pushed ns (suc (length h)) (stacked h x) x

-- the depths without the first
abbrev pub popped : List ℕ → List ℕ
popped [] = []
popped (d ∷ ds) = ds

-- the depths of a name without the first for each of the identifiers that has the name
abbrev pub taken : List Identifier → List ℕ → Name → List ℕ
taken [] ds x = ds
taken (i ∷ is) ds x = taken is (if is_named x i then popped ds else ds) x

-- the table is that of the open lists
abbrev pub IsTableOf : {Z : Type 0} → List (List Identifier) → List (Vec ℕ Z × List ℕ) → Type 0
IsTableOf h es = (x : Name) → depths_in es x ≡ stacked h x
