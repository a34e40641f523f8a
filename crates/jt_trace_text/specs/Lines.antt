-- Where a text stops being one of a kind: how many of its first lines begin a text of that kind.
use Rattle.std.specs.Prelude.{◌≡◌, ℕ, zero, suc, List, [], ◌∷◌, Option, Some, None, option_map, if◌then◌else◌, ◌==◌}

abbrev pub Bytes : Type 0
Bytes = List ℕ

-- the first n lines, each with its newline; none where there are fewer
abbrev pub first_lines : ℕ → Bytes → Option Bytes
first_lines zero z = Some []
first_lines (suc n) [] = None
first_lines (suc n) (b ∷ z) = option_map (λ (w : Bytes). b ∷ w) (if b == 10 then first_lines n z else first_lines (suc n) z)

-- how many newlines
abbrev pub newlines : Bytes → ℕ
newlines [] = 0
newlines (b ∷ z) = if b == 10 then suc (newlines z) else newlines z

-- the first n lines of two texts are the same
pub record SameLines (n : ℕ) (z w : Bytes) : Type 0 where
  pub lines : Bytes
  pub first : first_lines n z ≡ Some lines
  pub second : first_lines n w ≡ Some lines

-- the first n lines of z are those of a text of this kind
abbrev pub BeginsOne : (Bytes → Type 0) → ℕ → Bytes → Type 0
BeginsOne Kind n z = (w : Bytes) × Kind w × SameLines n z w

-- z is no text of this kind: its first n lines begin one, and with the next line they begin none
pub record StopsAfter (Kind : Bytes → Type 0) (n : ℕ) (z : Bytes) : Type 0 where
  pub begins : BeginsOne Kind n z
  pub no_more : BeginsOne Kind (suc n) z → ⊥
  pub no_text : Kind z → ⊥

-- line k, counted from 1, is the first that isn't one of a text of this kind
abbrev pub IsFirstBad : (Bytes → Type 0) → ℕ → Bytes → Type 0
IsFirstBad Kind k z = (n : ℕ) × (k ≡ suc n) × StopsAfter Kind n z
