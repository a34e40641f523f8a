-- The parts so far, with those that are left behind them, are all of them.
use Rattle.std.proofs.Common.{◌≡◌, drop, map}
use Rattle.jt_syntax.specs.View.{top_views}
use Rattle.jt_program.specs.Plan as plan
use Rattle.jt_program.specs.View.{plan_of}
use Rattle.jt_bound.specs.Behind.{behind}
use Rattle.jt_bound.specs.Made.{with}
use Rattle.jt_bound.specs.WalkedPrograms.{walked_main}
use Rattle.jt_bind.specs.Walks.{numbers, state}
use Rattle.jt_bind.proofs.binder.Binder.main.Given as goal

abbrev pub invariant-loop-top : goal.invariant-loop-top
invariant-loop-top l =
    with (behind plan.plan (map plan_of l.parts)) (walked_main (numbers l.fn.self) (state l.walk) (top_views (drop l.top-index l.tops)))
    ≡ walked_main (numbers l.fn.self) (state l.fn.walk) (top_views l.fn.tops)
