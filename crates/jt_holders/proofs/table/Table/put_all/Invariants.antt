-- The names so far have the depth.
use Rattle.std.proofs.Common.{◌≡◌, take}
use Rattle.jt_names.specs.Names.{Name}
use Rattle.jt_holders.specs.Table.{depths_in, pushed}
use Rattle.jt_holders.proofs.table.Table.put_all.Given as goal

abbrev pub invariant-loop-index : goal.invariant-loop-index
invariant-loop-index l = (x : Name) → depths_in l.self.depths.entries x ≡ pushed (take l.index l.identifiers) l.depth (depths_in l.fn.self.depths.entries x) x
