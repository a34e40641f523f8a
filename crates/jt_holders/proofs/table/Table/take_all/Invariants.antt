-- What is left to take gives what all of them give.
use Rattle.std.proofs.Common.{◌≡◌, drop}
use Rattle.jt_names.specs.Names.{Name}
use Rattle.jt_holders.specs.Table.{depths_in, taken}
use Rattle.jt_holders.proofs.table.Table.take_all.Given as goal

abbrev pub invariant-loop-identifier : goal.invariant-loop-identifier
invariant-loop-identifier l = (x : Name) → taken (drop l.identifier-index l.identifiers) (depths_in l.self.depths.entries x) x ≡ taken l.fn.identifiers (depths_in l.fn.self.depths.entries x) x
