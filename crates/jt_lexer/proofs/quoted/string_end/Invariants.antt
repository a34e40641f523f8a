use Rattle.std.proofs.Common.{◌≡◌, ◌+◌, ◌≤◌, drop, true, false}
use Rattle.jt_lexer.specs.Pieces.{string_from}
use Rattle.jt_lexer.proofs.quoted.string_end.Given as goal

abbrev pub invariant-loop-at : goal.invariant-loop-at
invariant-loop-at l = (string_from l.escaped (l.at + 1) (drop l.at l.z) ≡ string_from false 1 l.z) × (l.escaped ≡ true → 1 ≤ l.at)
