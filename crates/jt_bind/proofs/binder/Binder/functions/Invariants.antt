-- The functions so far, with those that are left behind them, are all of them.
use Rattle.std.proofs.Common.{◌≡◌, drop, map}
use Rattle.jt_syntax.specs.View.{top_views}
use Rattle.jt_program.specs.View.{body_plan}
use Rattle.jt_bound.specs.Behind.{behind}
use Rattle.jt_bound.specs.Made.{with}
use Rattle.jt_bound.specs.Programs.{one_more}
use Rattle.jt_bound.specs.WalkedPrograms.{walked_functions}
use Rattle.jt_bind.specs.Walks.{numbers, state}
use Rattle.jt_bind.proofs.binder.Binder.functions.Given as goal

abbrev pub invariant-loop-top : goal.invariant-loop-top
invariant-loop-top l =
    with (behind one_more (map body_plan l.functions)) (walked_functions (numbers l.fn.self) (state l.walk) (top_views (drop l.top-index l.tops)))
    ≡ walked_functions (numbers l.fn.self) (state l.fn.walk) (top_views l.fn.tops)
