-- The plain data of a jump that holds a box or nothing.
use Rattle.std.proofs.Common.{◌≡◌, ℕ, Some, rules}
use Rattle.jt_syntax.specs.Tree as tree
use Rattle.jt_syntax.specs.View.{view, jump_view}
use Rattle.jt_syntax.specs.declared.script.Expr.{Expr, the_lemmas}
use Rattle.jt_syntax.specs.declared.script.Jump.TheVariants as jump

pub view-Return : (at : ℕ) (e : Expr) → jump_view (jump.Return at (Some e)) ≡ tree.return_value at (view e)
view-Return at e = search (rules, the_lemmas)
