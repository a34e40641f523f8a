-- The goals for which the first search finds nothing.
use Rattle.std.proofs.Common.{arith}
use Rattle.std.proofs.lemmas.Grind.{common_steps}
use Rattle.jt_holders.proofs.holders.Holders.enter.Goals as goal

pub returns-in-Err-clause-err : goal.returns-in-Err-clause-err
returns-in-Err-clause-err c = grind (arith, common_steps)

pub returns-clause-ok : goal.returns-clause-ok
returns-clause-ok c = grind (arith, common_steps)

pub invariant_of-self-in-Err : goal.invariant_of-self-in-Err
invariant_of-self-in-Err c = grind (arith, common_steps)

pub invariant_of-self-in_default : goal.invariant_of-self-in_default
invariant_of-self-in_default c = grind (arith, common_steps)
