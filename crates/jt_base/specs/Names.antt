-- Paths and names of objects: both are fixed by the maker's own history.
use Rattle.std.specs.Prelude.{ℕ, ◌-◌, ◌%◌, List, sum, length}

-- the most indexes of a path
abbrev pub most_indexes : ℕ
most_indexes = 48

-- the number of shards
abbrev pub shards : ℕ
shards = 16

-- the shard of numbers: their sum modulo the number of shards
abbrev pub shard_of : List ℕ → ℕ
shard_of numbers = sum numbers % shards

-- a task's priority: the deeper its path, the smaller
abbrev pub priority_of : List ℕ → ℕ
priority_of path = 64 - length path
