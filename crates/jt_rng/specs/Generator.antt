-- What the words of a generator are.
use Rattle.std.specs.Prelude.{◌≡◌, ℕ, ◌^◌, ◌<◌, List, length, slice_index}

-- four words of 64 bits
pub record IsGenerator (s : List ℕ) : Type 0 where
  pub four : length s ≡ 4
  pub words : (i : ℕ) → slice_index s i < 2 ^ 64
