use Rattle.std.proofs.Common.{◌≡◌, ◌++◌, drop}
use Rattle.jt_syntax.specs.View.{top_views}
use Rattle.jt_grammar.specs.Printed.{script_kinds}
use Rattle.jt_printer.proofs.kinds.Kinds.tops.Given as goal

abbrev pub invariant-loop-top : goal.invariant-loop-top
invariant-loop-top l = l.self.kinds.items ++ script_kinds (top_views (drop l.top-index l.tops)) ≡ l.initial.self.kinds.items ++ script_kinds (top_views l.tops)
