-- What is left of the list gives what the whole list gives.
use Rattle.std.proofs.Common.{◌≡◌, [], drop}
use Rattle.jt_syntax.specs.View.{top_views}
use Rattle.jt_names.specs.Tops as spec
use Rattle.jt_signatures.proofs.tops.signatures_of.Given as goal

abbrev pub invariant-loop-top : goal.invariant-loop-top
invariant-loop-top l = spec.signatures_of l.functions (top_views (drop l.top-index l.tops)) ≡ spec.signatures_of [] (top_views l.fn.tops)
