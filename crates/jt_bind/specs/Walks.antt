-- What the code's walk stands for.
use Rattle.std.specs.Prelude.{map}
use Rattle.jt_program.specs.View.{body_plan}
use Rattle.jt_bound.specs.Bound.{Numbers}
use Rattle.jt_bound.specs.States.{WalkState, standing}
use Rattle.jt_bind.specs.declared.binder.Binder.{Binder}
use Rattle.jt_bind.specs.declared.walk.Walk.{Walk}

abbrev pub numbers : Binder → Numbers
numbers b = record { constants = b.constants.now; functions = b.functions.now }

-- where the walk stands
abbrev pub state : Walk → WalkState
state w = standing w.chain w.coming.now (map body_plan w.bodies)
