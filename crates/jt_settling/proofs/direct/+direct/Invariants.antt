-- What is left of the marks gives what all of them give.
use Rattle.std.proofs.Common.{◌≡◌, drop}
use Rattle.jt_outline.specs.View.{mark_views}
use Rattle.jt_scopes.specs.Bodies as spec
use Rattle.jt_settling.proofs.direct.+direct.Given as goal

abbrev pub invariant-direct-loop-mark : goal.invariant-direct-loop-mark
invariant-direct-loop-mark l = spec.direct l.names (mark_views (drop l.mark-index l.marks)) ≡ spec.direct l.fn.names (mark_views l.fn.marks)
