-- The text so far, and the entries to come.
use Rattle.std.proofs.Common.{◌≡◌, ◌++◌, drop}
use Rattle.std.specs.Prelude.{string_bytes}
use Rattle.jt_trace_text.specs.Written.{entries_text}
use Rattle.jt_trace.proofs.write_entries.entries.Given as goal

abbrev pub invariant-loop-item : goal.invariant-loop-item
invariant-loop-item l = string_bytes l.out ++ entries_text (drop l.item-index l.list) ≡ string_bytes l.initial.out ++ entries_text l.list
