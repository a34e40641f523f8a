use Rattle.std.proofs.Common.{◌≡◌, ◌+◌, drop}
use Rattle.jt_lexer.specs.Pieces.{line_len}
use Rattle.jt_lexer.proofs.piece.line_len.Given as goal

abbrev pub invariant-loop-at : goal.invariant-loop-at
invariant-loop-at l = l.at + line_len (drop l.at l.z) ≡ line_len l.z
