-- What is left of the functions gives what all of them give.
use Rattle.std.proofs.Common.{◌≡◌, drop, map}
use Rattle.jt_outline.specs.View.{function_view}
use Rattle.jt_rules.specs.Walk.{stand, checked_functions}
use Rattle.jt_rules.proofs.walk.Walk.walk_functions.Given as goal

abbrev pub invariant-loop-function : goal.invariant-loop-function
invariant-loop-function l = checked_functions l.context (stand l.self) (map function_view (drop l.function-index l.functions)) ≡ checked_functions l.context (stand l.fn.self) (map function_view l.fn.functions)
