-- A sink in memory.
use Rattle.std.specs.Prelude.{◌≡◌, ℕ, ◌-◌, ◌⊎◌, List, ◌++◌, length, min, Contains}
use Rattle.jt_base.specs.Outside.{raised}

pub record SinkState : Type 0 where
  -- what was written
  pub written : List ℕ
  -- the most bytes of one write
  pub most : ℕ
  -- the most bytes of all writes
  pub room : ℕ
  -- the numbers of the writes that fail, counted from 1
  pub failing : List ℕ
  -- the writes so far
  pub calls : ℕ
  -- those of them that failed
  pub faults : ℕ

-- the next write is one of those that fail, or the room is full
abbrev pub NextWriteFails : SinkState → Type 0
NextWriteFails sink = Contains sink.failing (raised sink.calls) ⊎ (length sink.written ≡ sink.room)

-- how many of so many bytes a write moves
abbrev pub write_count : SinkState → ℕ → ℕ
write_count sink bytes = min (min bytes sink.most) (sink.room - length sink.written)

-- the sink after a write that failed
abbrev pub after_failed_write : SinkState → SinkState
after_failed_write sink = record sink { calls = raised sink.calls; faults = raised sink.faults }

-- the sink after a write of these bytes
abbrev pub after_write : SinkState → List ℕ → SinkState
after_write sink bytes = record sink { written = sink.written ++ bytes; calls = raised sink.calls }
