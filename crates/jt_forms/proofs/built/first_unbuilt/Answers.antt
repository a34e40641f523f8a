-- Where the loop goes on or ends, by what is left of its list.
use Rattle.std.proofs.Common.{arith}
use Rattle.std.proofs.lemmas.Grind.{common_steps}
use Rattle.jt_forms.proofs.built.first_unbuilt.Goals as goal

pub returns-then-not-is_form_built : goal.returns-then-not-is_form_built
returns-then-not-is_form_built c = grind (arith, common_steps)

pub loop-top-preserved : goal.loop-top-preserved
loop-top-preserved c = grind (arith, common_steps)

pub returns : goal.returns
returns c = grind (arith, common_steps)
