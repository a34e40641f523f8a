use Rattle.std.proofs.Common.{◌≡◌, length, map, true}
use Rattle.jt_lexer.specs.Pieces.{first_sign, all_spelled}
use Rattle.jt_lexer.proofs.piece.first_sign.Given as goal

abbrev pub invariant-loop-table : goal.invariant-loop-table
invariant-loop-table l =
    (first_sign (map (λ s. (s.0.now, s.1)) l.table) l.z ≡ first_sign (map (λ s. (s.0.now, s.1)) l.initial.table) l.z) × (all_spelled (map (λ s. (s.0.now, s.1)) l.table) ≡ true)

abbrev pub decreases-loop-table : goal.decreases-loop-table
decreases-loop-table l = length l.table
