-- The functions and the parts so far, and behind them those of what is left, are those of the script.
use Rattle.std.proofs.Common.{◌≡◌, ◌++◌, drop, map}
use Rattle.jt_syntax.specs.View.{top_views}
use Rattle.jt_outline.specs.Outlines as spec
use Rattle.jt_outline.specs.View.{function_view, part_view}
use Rattle.jt_outlining.proofs.tops.outline_of.Given as goal

abbrev pub invariant-loop-top : goal.invariant-loop-top
invariant-loop-top l = record {
  functions : spec.functions_of (top_views l.script.tops) ≡ map function_view l.outline.functions ++ spec.functions_of (top_views (drop l.top-index l.script.tops));
  parts : spec.parts_of (top_views l.script.tops) ≡ map part_view l.outline.parts ++ spec.parts_of (top_views (drop l.top-index l.script.tops));
}
