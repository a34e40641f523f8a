-- The plain data of an expression that holds a box or nothing.
use Rattle.std.proofs.Common.{◌≡◌, Some, rules}
use Rattle.jt_syntax.specs.Tree as tree
use Rattle.jt_syntax.specs.View.{view}
use Rattle.jt_syntax.specs.declared.script.Expr.{Expr, the_lemmas}
use Rattle.jt_syntax.specs.declared.script.Expr.TheVariants as expr

pub view-Channel : (e : Expr) → view (expr.Channel (Some e)) ≡ tree.channel (view e)
view-Channel e = search (rules, the_lemmas)
