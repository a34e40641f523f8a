-- Main's path is empty, and no other.
use Rattle.std.proofs.Common.{sym, ◌∙◌}
use Rattle.jt_machine.proofs.Advancing.{over_after_end, over_after_fail}
use Rattle.jt_machine.proofs.progress.what_follows.Goals as goal

pub returns-else-is_main : goal.returns-else-is_main
returns-else-is_main c = over_after_end _ _ _ c.in-End.is (sym c.is_main.ensures ∙ c.if-is_main.false)

pub returns-else-is_main-2 : goal.returns-else-is_main-2
returns-else-is_main-2 c = over_after_fail _ _ _ c.in-Fail.is (sym c.is_main-in-Fail.ensures ∙ c.if-is_main-2.false)
