use Rattle.std.proofs.Common.{◌≡◌, ◌+◌, drop}
use Rattle.jt_lexer.specs.Pieces.{word_len}
use Rattle.jt_lexer.proofs.word.word_len.Given as goal

abbrev pub invariant-loop-at : goal.invariant-loop-at
invariant-loop-at l = l.at + word_len (drop l.at l.z) ≡ word_len l.z
