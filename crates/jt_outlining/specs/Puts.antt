-- What a walk puts behind the marks that stand.
use Rattle.std.specs.Prelude.{◌≡◌, Result, OnOk, map}
use Rattle.jt_syntax.specs.Tree.{Arms}
use Rattle.jt_outline.specs.Marks.{Marks}
use Rattle.jt_outline.specs.Outlines.{marks_arms}
use Rattle.jt_outline.specs.View.{before, mark_view}
use Rattle.jt_outlining.specs.declared.walk.Walk.{Walk}

-- where the walk succeeds, the new marks are the old ones and behind them what f puts before the rest
abbrev pub Puts : {T E : Type 0} → Result T E → Walk → Walk → (Marks → Marks) → Type 0
Puts result old new f = (r : Marks) → OnOk result (before (map mark_view new.marks) r ≡ before (map mark_view old.marks) (f r))

-- the same, where last arms of an `if` come next
abbrev pub PutsArms : {T E : Type 0} → Result T E → Walk → Walk → (Arms → Marks → Marks) → Type 0
PutsArms result old new f = (last : Arms) (r : Marks) → OnOk result (before (map mark_view new.marks) (marks_arms last r) ≡ before (map mark_view old.marks) (f last r))
