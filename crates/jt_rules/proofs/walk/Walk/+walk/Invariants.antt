-- What is left of the marks gives what all of them give.
use Rattle.std.proofs.Common.{◌≡◌, drop}
use Rattle.jt_outline.specs.View.{mark_views}
use Rattle.jt_rules.specs.Walk.{stand, checked_all}
use Rattle.jt_rules.proofs.walk.Walk.+walk.Given as goal

abbrev pub invariant-walk_all-loop-mark : goal.invariant-walk_all-loop-mark
invariant-walk_all-loop-mark l = checked_all l.context (stand l.self) (mark_views (drop l.mark-index l.marks)) ≡ checked_all l.context (stand l.fn.self) (mark_views l.fn.marks)
