-- What is left to add gives what all of them give.
use Rattle.std.proofs.Common.{◌≡◌, drop}
use Rattle.jt_names.specs.Names as spec
use Rattle.jt_names.proofs.names.Names.add_all.Given as goal

abbrev pub invariant-loop-identifier : goal.invariant-loop-identifier
invariant-loop-identifier l = spec.add_all l.self (drop l.identifier-index l.identifiers) ≡ spec.add_all l.fn.self l.fn.identifiers
