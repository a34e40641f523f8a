use Rattle.std.proofs.Common.{◌≡◌, length, map}
use Rattle.jt_lexer.specs.Pieces.{lookup}
use Rattle.jt_lexer.proofs.word.lookup.Given as goal

abbrev pub invariant-loop-table : goal.invariant-loop-table
invariant-loop-table l = lookup (map (λ w. (w.0.now, w.1)) l.table) l.word ≡ lookup (map (λ w. (w.0.now, w.1)) l.initial.table) l.word

abbrev pub decreases-loop-table : goal.decreases-loop-table
decreases-loop-table l = length l.table
