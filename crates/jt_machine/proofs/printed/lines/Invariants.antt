use Rattle.std.proofs.Common.{◌≡◌, ◌++◌, drop}
use Rattle.std.specs.Prelude.{string_bytes}
use Rattle.jt_laws.specs.Lines.{lines_of}
use Rattle.jt_machine.proofs.printed.lines.Given as goal

-- the text so far, and the lines of the entries to come
abbrev pub invariant-loop-entry : goal.invariant-loop-entry
invariant-loop-entry l = string_bytes l.text ++ lines_of (drop l.entry-index l.history) ≡ lines_of l.fn.history
