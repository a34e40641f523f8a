-- A line that is being put together.
use Rattle.std.proofs.Common.{◌≡◌, ℕ, List, Option, Some, None, refl}
use Rattle.jt_meaning.specs.Values.{shown_with}

-- what has no text leaves none
pub unshown : (line : Option (List ℕ)) → None ≡ shown_with line None
unshown (Some line) = refl
unshown None = refl
