use Rattle.jt_expressions.proofs.Calls.{with_all_not}
use Rattle.jt_expressions.proofs.notified.is_notified_with_all.Goals as goal

pub returns-then-arguments-ne2 : goal.returns-then-arguments-ne2
returns-then-arguments-ne2 c = with_all_not c.args.name.now c.args.arguments.now c.if-arguments-ne2.true
