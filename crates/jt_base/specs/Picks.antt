-- SplitMix64 (Steele, Lea and Flood, "Fast Splittable Pseudorandom Number Generators", 2014). Its
-- state is one word.
use Rattle.std.specs.Prelude.{ℕ, ◌+◌, ◌*◌, ◌/◌, ◌%◌, ◌^◌, bit_xor}

-- the state after one word
unfoldable pub next_seed : ℕ → ℕ
next_seed s = (s + 0x9e3779b97f4a7c15) % 2 ^ 64

-- z with its high bits laid over its low ones, k places down
abbrev pub folded : ℕ → ℕ → ℕ
folded z k = bit_xor z (z / 2 ^ k)

-- the word that a state gives
unfoldable pub mix64 : ℕ → ℕ
mix64 z =
    folded (folded (folded z 30 * 0xbf58476d1ce4e5b9 % 2 ^ 64) 27 * 0x94d049bb133111eb % 2 ^ 64) 31
