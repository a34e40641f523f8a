use Rattle.std.proofs.Common.{◌∙◌, ap}
use Rattle.jt_syntax.specs.View.{view}
use Rattle.jt_syntax.specs.declared.script.Expr.{Expr}
use Rattle.jt_syntax.proofs.Views.{view-Chain}
use Rattle.jt_expressions.proofs.Chains.{joined_views}
use Rattle.jt_expressions.proofs.chain.joined.Goals as goal

pub returns : goal.returns
returns c =
    ap (λ (z : Expr). view z) c.in_ok-new.ensures
    ∙ (view-Chain c.args.class c.args.first c.args.more ∙ joined_views c.args.class (view c.args.first) c.args.more c.is_empty.result c.if-is_empty.false c.is_empty.ensures)
