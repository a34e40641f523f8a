-- The functions so far have other names.
use Rattle.std.proofs.Common.{◌≡◌, drop}
use Rattle.jt_functions.specs.Functions.{named_in}
use Rattle.jt_functions.proofs.function.named_in.Given as goal

abbrev pub invariant-loop-function : goal.invariant-loop-function
invariant-loop-function l = named_in (drop l.function-index l.functions) l.name ≡ named_in l.functions l.name
