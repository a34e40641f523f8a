-- What stands there is the first that has the name.
use Rattle.std.proofs.Common.{arith}
use Rattle.std.proofs.lemmas.Grind.{common_steps}
use Rattle.jt_names.proofs.Lookup.{place_found}
use Rattle.jt_names.proofs.names.Names.place_of.Goals as goal

pub returns-in_err-index : goal.returns-in_err-index
returns-in_err-index c = grind (arith, common_steps, place_found c.args.self.now c.args.name.now)

pub returns-in_err-get : goal.returns-in_err-get
returns-in_err-get c = grind (arith, common_steps, place_found c.args.self.now c.args.name.now)

pub returns : goal.returns
returns c = grind (arith, common_steps, place_found c.args.self.now c.args.name.now)
