-- What is left of the parts gives what all of them give.
use Rattle.std.proofs.Common.{◌≡◌, drop, map}
use Rattle.jt_outline.specs.View.{part_view}
use Rattle.jt_scopes.specs.Bodies.{direct_parts}
use Rattle.jt_settling.proofs.direct.add_script_names.Given as goal

abbrev pub invariant-loop-part : goal.invariant-loop-part
invariant-loop-part l = direct_parts l.names (map part_view (drop l.part-index l.parts)) ≡ direct_parts l.fn.names (map part_view l.fn.parts)
