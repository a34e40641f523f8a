use Rattle.jt_outlining.proofs.Behind.{scope_viewed}
use Rattle.jt_outlining.proofs.walk.Walk.put_scope.Goals as goal

pub returns : goal.returns
returns c = c.put.ensures _ (scope_viewed c.args.kind c.args.at c.args.variables c.args.inner.marks)
