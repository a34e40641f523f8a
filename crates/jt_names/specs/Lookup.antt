-- How names and functions are looked up by keys.
use Rattle.std.specs.Prelude.{◌≡◌, ℕ, nat_eq, List, map, Option}
use Rattle.std.specs.Cmp.Lexicographic.{pointwise}
use Rattle.std.specs.Map.{lookup}
use Rattle.std.specs.declared.vec.Vec.{Vec}
use Rattle.jt_syntax.specs.declared.script.Identifier.{Identifier}
use Rattle.jt_names.specs.declared.functions.Signature.{Signature}
use Rattle.jt_names.specs.Names.{Name, index}

-- what stands under the key that is this name
abbrev pub found : {Z V : Type 0} → List (Vec ℕ Z × V) → Name → Option V
found es x = lookup (λ k. pointwise nat_eq x k.items) es

-- under each name stands how many of the names are before the first that is the same
abbrev pub AreFirstsOf : {Z : Type 0} → List (Vec ℕ Z × ℕ) → List Identifier → Type 0
AreFirstsOf es is = (x : Name) → found es x ≡ index is x

-- the names of functions
abbrev pub names_of : List Signature → List Identifier
names_of fs = map (λ (f : Signature). f.name) fs
