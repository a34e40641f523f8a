-- A whole number between two bounds, by one word.
use Rattle.std.specs.Prelude.{ℕ, ◌%◌, ℤ, pos, ◌+ℤ◌, ◌-ℤ◌, unsigned_abs}

-- how many numbers there are from a to b, where a is at most b
abbrev pub size_of : ℤ → ℤ → ℕ
size_of a b = unsigned_abs (b -ℤ a +ℤ pos 1)

-- the number from a to b that a word stands for
unfoldable pub range_value : ℤ → ℤ → ℕ → ℤ
range_value a b word = a +ℤ pos (word % size_of a b)
