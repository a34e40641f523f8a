-- What is left of the names gives what all of them give.
use Rattle.std.proofs.Common.{◌≡◌, drop}
use Rattle.jt_names.specs.Names.{add_where}
use Rattle.jt_settling.specs.Settling.{is_within}
use Rattle.jt_settling.proofs.settling.Settling.add_kept.Given as goal

abbrev pub invariant-loop-name : goal.invariant-loop-name
invariant-loop-name l = add_where (is_within l.text l.self.holders) l.names (drop l.name-index l.self.taken) ≡ add_where (is_within l.text l.self.holders) l.fn.names l.self.taken
