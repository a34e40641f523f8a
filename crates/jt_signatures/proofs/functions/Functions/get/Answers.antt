-- What stands there is the first function of the name.
use Rattle.std.proofs.Common.{arith}
use Rattle.std.proofs.lemmas.Grind.{common_steps}
use Rattle.jt_names.proofs.Lookup.{signature_found}
use Rattle.jt_signatures.proofs.functions.Functions.get.Goals as goal

pub returns-in_err-index : goal.returns-in_err-index
returns-in_err-index c = grind (arith, common_steps, signature_found c.args.self.now c.args.name.now)

pub returns : goal.returns
returns c = grind (arith, common_steps, signature_found c.args.self.now c.args.name.now)
