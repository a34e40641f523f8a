-- What is left of the functions gives what all of them give.
use Rattle.std.proofs.Common.{◌≡◌, drop, map}
use Rattle.jt_outline.specs.View.{function_view}
use Rattle.jt_settling.specs.Settling.{walked_functions}
use Rattle.jt_settling.proofs.settling.Settling.walk_functions.Given as goal

abbrev pub invariant-loop-function : goal.invariant-loop-function
invariant-loop-function l = walked_functions l.self (map function_view (drop l.function-index l.functions)) ≡ walked_functions l.fn.self (map function_view l.fn.functions)
