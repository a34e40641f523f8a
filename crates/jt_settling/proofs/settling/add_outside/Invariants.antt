-- What is left of the names gives what all of them give.
use Rattle.std.proofs.Common.{◌≡◌, not, drop}
use Rattle.jt_names.specs.Names.{add_where}
use Rattle.jt_settling.specs.Settling.{is_within}
use Rattle.jt_settling.proofs.settling.add_outside.Given as goal

abbrev pub invariant-loop-name : goal.invariant-loop-name
invariant-loop-name l = add_where (λ x. not (is_within l.depth l.holders x)) l.names (drop l.name-index l.more) ≡ add_where (λ x. not (is_within l.depth l.holders x)) l.fn.names l.fn.more
