-- No entry of another task is main's end.
use Rattle.std.proofs.Common.{sym, ◌∙◌}
use Rattle.jt_machine.proofs.Finish.{no_main}
use Rattle.jt_machine.proofs.ending.end_at.Goals as goal

pub returns-then-not-is_main : goal.returns-then-not-is_main
returns-then-not-is_main c = no_main c.args.entry.now (sym c.is_main.ensures ∙ c.if-not-is_main.true)
