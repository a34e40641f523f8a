use Rattle.std.proofs.Common.{◌≡◌, ◌++◌, drop}
use Rattle.jt_lexer.specs.Spelled.{escaped}
use Rattle.jt_printer.proofs.text.push_text.Given as goal

abbrev pub invariant-loop-byte : goal.invariant-loop-byte
invariant-loop-byte l = l.out.items ++ escaped (drop l.byte-index l.text) ≡ l.initial.out.items ++ escaped l.text
