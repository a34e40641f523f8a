-- A source in memory.
use Rattle.std.specs.Prelude.{ℕ, List, length, drop, min, Contains}
use Rattle.jt_base.specs.Outside.{raised}

pub record SourceState : Type 0 where
  -- what is left to read
  pub left : List ℕ
  -- the most bytes of one read
  pub most : ℕ
  -- the numbers of the reads that fail, counted from 1
  pub failing : List ℕ
  -- the reads so far
  pub calls : ℕ
  -- those of them that failed
  pub faults : ℕ

-- the next read is one of those that fail
abbrev pub NextReadFails : SourceState → Type 0
NextReadFails source = Contains source.failing (raised source.calls)

-- how many bytes a read into a buffer of this length moves
abbrev pub read_count : SourceState → ℕ → ℕ
read_count source room = min (min (length source.left) room) source.most

-- the source after a read that failed
abbrev pub after_failed_read : SourceState → SourceState
after_failed_read source = record source { calls = raised source.calls; faults = raised source.faults }

-- the source after a read of n bytes
abbrev pub after_read : SourceState → ℕ → SourceState
after_read source n = record source { left = drop n source.left; calls = raised source.calls }
