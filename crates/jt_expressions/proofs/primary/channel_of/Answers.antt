use Rattle.std.proofs.Common.{◌∙◌, ap}
use Rattle.jt_syntax.specs.View.{view}
use Rattle.jt_syntax.specs.declared.script.Expr.{Expr}
use Rattle.jt_expressions.proofs.Options.{view-Channel}
use Rattle.jt_expressions.proofs.primary.channel_of.Goals as goal

pub returns : goal.returns
returns c = ap (λ (z : Expr). view z) c.in_ok-new.ensures ∙ view-Channel c.args.capacity
