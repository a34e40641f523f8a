use Rattle.std.proofs.Common.{◌≡◌, ◌^◌, ◌<◌, drop}
use Rattle.jt_lexer.specs.Pieces.{number_from}
use Rattle.jt_lexer.proofs.number.number.Given as goal

abbrev pub invariant-loop-at : goal.invariant-loop-at
invariant-loop-at l = (number_from l.value l.at (drop l.at l.z) ≡ number_from 0 0 l.z) × (l.value < 2 ^ 63)
