-- The text so far, and the indexes to come.
use Rattle.std.proofs.Common.{◌≡◌, ◌++◌, drop}
use Rattle.std.specs.Prelude.{string_bytes}
use Rattle.jt_trace_text.specs.Words.{indexes_text}
use Rattle.jt_trace.proofs.write_words.path.Given as goal

abbrev pub invariant-loop-index : goal.invariant-loop-index
invariant-loop-index l = string_bytes l.out ++ indexes_text (drop l.index-index l.path) ≡ string_bytes l.initial.out ++ indexes_text l.path
