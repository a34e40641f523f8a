-- The newlines so far, and those to come.
use Rattle.std.proofs.Common.{◌≡◌, ◌+◌, ◌≤◌, drop}
use Rattle.jt_trace_text.specs.Lines.{newlines}
use Rattle.jt_trace.proofs.read_lines.newlines.Given as goal

abbrev pub invariant-loop-byte : goal.invariant-loop-byte
invariant-loop-byte l = (l.count + newlines (drop l.byte-index l.bytes) ≡ newlines l.bytes) × (l.count ≤ l.byte-index)
