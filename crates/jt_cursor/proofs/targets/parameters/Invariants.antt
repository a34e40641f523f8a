use Rattle.std.proofs.Common.{◌≡◌, drop}
use Rattle.jt_grammar.specs.Reader.{parameters}
use Rattle.jt_syntax.specs.View.{views}
use Rattle.jt_cursor.proofs.Names.{behind_names}
use Rattle.jt_cursor.proofs.targets.parameters.Given as goal

abbrev pub invariant-loop-expr : goal.invariant-loop-expr
invariant-loop-expr l = parameters (views l.exprs) ≡ behind_names l.found (parameters (views (drop l.expr-index l.exprs)))
