-- What is left of the parameters gives what all of them give.
use Rattle.std.proofs.Common.{◌≡◌, [], false, drop}
use Rattle.jt_naming.specs.Scripts.{parameters_break}
use Rattle.jt_rules.specs.Walk.{judged}
use Rattle.jt_rules.proofs.found.Found.with_parameters.Given as goal

abbrev pub invariant-loop-parameter : goal.invariant-loop-parameter
invariant-loop-parameter l = judged l.found (parameters_break l.earlier (drop l.parameter-index l.parameters)) false ≡ judged l.fn.self (parameters_break [] l.fn.parameters) false
