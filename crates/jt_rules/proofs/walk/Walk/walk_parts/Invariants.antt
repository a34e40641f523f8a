-- What is left of the parts gives what all of them give.
use Rattle.std.proofs.Common.{◌≡◌, false, drop, map}
use Rattle.jt_outline.specs.View.{part_view}
use Rattle.jt_rules.specs.Walk.{stand, checked_parts}
use Rattle.jt_rules.proofs.walk.Walk.walk_parts.Given as goal

abbrev pub invariant-loop-part : goal.invariant-loop-part
invariant-loop-part l = checked_parts l.context l.late (stand l.self) (map part_view (drop l.part-index l.parts)) ≡ checked_parts l.context false (stand l.fn.self) (map part_view l.fn.parts)
