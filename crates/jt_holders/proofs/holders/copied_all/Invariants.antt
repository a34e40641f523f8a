-- The names so far are copied.
use Rattle.std.proofs.Common.{◌≡◌, take}
use Rattle.jt_holders.proofs.holders.copied_all.Given as goal

abbrev pub invariant-loop-name : goal.invariant-loop-name
invariant-loop-name l = l.list ≡ take l.name-index l.names
