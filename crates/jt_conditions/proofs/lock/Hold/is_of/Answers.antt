-- The test of paths in code is that of the definitions.
use Rattle.std.proofs.Common.{◌∙◌}
use Rattle.jt_conditions.proofs.Holders.{pointwise_same}
use Rattle.jt_conditions.proofs.lock.Hold.is_of.Goals as goal

pub returns : goal.returns
returns c = c.eq.ensures ∙ pointwise_same c.args.self.now.task c.args.task.now
