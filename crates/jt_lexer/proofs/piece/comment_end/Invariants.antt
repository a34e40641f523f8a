use Rattle.std.proofs.Common.{◌≡◌, ◌+◌, ◌≤◌, drop, false}
use Rattle.jt_lexer.specs.Pieces.{comment_end}
use Rattle.jt_lexer.proofs.piece.comment_end.Given as goal

abbrev pub invariant-loop-at : goal.invariant-loop-at
invariant-loop-at l = (comment_end l.outer l.in_mark l.end (drop l.at l.z) ≡ comment_end 0 false 2 l.z) × (l.outer ≤ l.at) × (l.end ≡ l.at + 2)
