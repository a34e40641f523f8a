-- What is left of the list gives what the whole list gives.
use Rattle.std.proofs.Common.{◌≡◌, [], drop}
use Rattle.jt_syntax.specs.View.{top_views}
use Rattle.jt_names.specs.Tops as spec
use Rattle.jt_signatures.proofs.tops.constants_of.Given as goal

abbrev pub invariant-loop-top : goal.invariant-loop-top
invariant-loop-top l = spec.constants_of l.names (top_views (drop l.top-index l.tops)) ≡ spec.constants_of [] (top_views l.fn.tops)
