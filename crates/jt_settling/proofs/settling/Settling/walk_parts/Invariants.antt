-- What is left of the parts gives what all of them give.
use Rattle.std.proofs.Common.{◌≡◌, drop, map}
use Rattle.jt_outline.specs.View.{part_view}
use Rattle.jt_settling.specs.Settling.{walked_parts}
use Rattle.jt_settling.proofs.settling.Settling.walk_parts.Given as goal

abbrev pub invariant-loop-part : goal.invariant-loop-part
invariant-loop-part l = walked_parts l.self (map part_view (drop l.part-index l.parts)) ≡ walked_parts l.fn.self (map part_view l.fn.parts)
