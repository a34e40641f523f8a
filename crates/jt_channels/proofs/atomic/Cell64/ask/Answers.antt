use Rattle.std.proofs.Common.{arith, rules}
use Rattle.std.proofs.lemmas.Grind.{common_steps}
use Rattle.jt_channels.proofs.Value.{asked_by}
use Rattle.jt_channels.proofs.atomic.Cell64.ask.Goals as goal

pub returns-in-AAdd-clause-law : goal.returns-in-AAdd-clause-law
returns-in-AAdd-clause-law c = λ task.
    asked_by c.args.op.now task c.args.self.now _ _ c.requires (grind (arith, common_steps)) (grind (arith, common_steps))

pub returns-in-ASub-clause-law : goal.returns-in-ASub-clause-law
returns-in-ASub-clause-law c = λ task.
    asked_by c.args.op.now task c.args.self.now _ _ c.requires (grind (arith, common_steps)) (search rules)
