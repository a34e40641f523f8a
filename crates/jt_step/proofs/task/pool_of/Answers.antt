-- A task that isn't the main one has the seat of how it is made.
use Rattle.std.proofs.Common.{refl, sym, ◌∙◌}
use Rattle.jt_step.proofs.Starts.{not_main, some_interactive}
use Rattle.jt_step.proofs.task.pool_of.Goals as goal

pub returns-else-sizes-eq0 : goal.returns-else-sizes-eq0
returns-else-sizes-eq0 c = rw (not_main c.args.path.now (sym c.is_main.ensures ∙ c.if-is_main.false), c.in-Interactive.is) (some_interactive c.args.sizes.interactive c.if-sizes-eq0.false)

pub returns-in-Async : goal.returns-in-Async
returns-in-Async c = rw (not_main c.args.path.now (sym c.is_main.ensures ∙ c.if-is_main.false), c.in-Async.is) refl
