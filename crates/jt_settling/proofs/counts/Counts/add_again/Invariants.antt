-- What is left of the names gives what all of them give.
use Rattle.std.proofs.Common.{◌≡◌, drop}
use Rattle.jt_names.specs.Names.{add_where}
use Rattle.jt_settling.specs.Counting.{is_again}
use Rattle.jt_settling.proofs.counts.Counts.add_again.Given as goal

abbrev pub invariant-loop-name : goal.invariant-loop-name
invariant-loop-name l = add_where (is_again l.self) l.again (drop l.name-index l.names) ≡ add_where (is_again l.fn.self) l.fn.again l.fn.names
