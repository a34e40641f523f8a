use Rattle.std.proofs.Common.{◌≡◌, ◌<◌, ◌+◌, ◌^◌, ◌-◌, length}
use denote.Text.{Utf8}
use denote.Shadow.{shadow}
use Rattle.jt_trace_text.specs.TextReaders.{read_entries}
use Rattle.jt_trace.proofs.Loop.{with_front}
use Rattle.jt_trace.proofs.read_entries.entries.Given as goal

abbrev pub invariant-loop : goal.invariant-loop
invariant-loop l = shadow (Utf8 l.rest) × (with_front l.entries.items (read_entries l.most (l.count - l.counter) l.at l.rest) ≡ read_entries l.most l.count l.line l.text) × (l.at + length l.rest < 2 ^ 64)
