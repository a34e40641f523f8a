-- What is left of the marks gives what all of them give.
use Rattle.std.proofs.Common.{◌≡◌, drop}
use Rattle.jt_outline.specs.View.{mark_views}
use Rattle.jt_settling.specs.Settling.{walked}
use Rattle.jt_settling.proofs.settling.Settling.+walk.Given as goal

abbrev pub invariant-walk-loop-mark : goal.invariant-walk-loop-mark
invariant-walk-loop-mark l = walked l.body l.text l.self (mark_views (drop l.mark-index l.marks)) ≡ walked l.fn.body l.fn.text l.fn.self (mark_views l.fn.marks)
