-- Calls of `notify`.
use Rattle.std.proofs.Common.{◌≡◌, ◌≢◌, arith, Bool, true, false, cond, List, [], ◌∷◌, length, Some, None, codes, refl, sym, ap}
use Rattle.std.specs.Option.{is_some}
use Rattle.std.specs.Str.{bytes_eq}
use Rattle.jt_syntax.specs.Tree.{Tree, Trees}
use Rattle.jt_syntax.specs.Tree as tree
use Rattle.jt_syntax.specs.View.{view, views}
use Rattle.jt_syntax.specs.declared.script.Expr.{Expr}
use Rattle.jt_syntax.specs.declared.script.Identifier.{Identifier}
use Rattle.jt_grammar.specs.Reader.{notified_alone, notified_with_all}

more_given : (i : Identifier) (x y z : Tree) (zs : Trees) → notified_with_all i (tree.tree x (tree.tree y (tree.tree z zs))) ≡ None
more_given i x (tree.name n) z zs = refl
more_given i x _ z zs = refl

-- whether what stands there is one argument of `notify`
pub alone_not : (i : Identifier) (es : List Expr) → length es ≢ 1 → false ≡ is_some (notified_alone i (views es))
alone_not i [] h = refl
alone_not i (x ∷ []) h = absurd (h refl)
alone_not i (x ∷ y ∷ es) h = refl

some_tested : (b : Bool) (x : Tree) → b ≡ is_some (cond b (Some x) None)
some_tested true x = refl
some_tested false x = refl

pub alone_tested : (i : Identifier) (es : List Expr) → length es ≡ 1 → bytes_eq i.name (codes "notify") ≡ is_some (notified_alone i (views es))
alone_tested i [] h = absurd (omega (arith, h))
alone_tested i (x ∷ []) h = some_tested _ (view x)
alone_tested i (x ∷ y ∷ es) h = absurd (omega (arith, h))

-- whether that is an argument of `notify`, and the name `all`
pub with_all_not : (i : Identifier) (es : List Expr) → length es ≢ 2 → false ≡ is_some (notified_with_all i (views es))
with_all_not i [] h = refl
with_all_not i (x ∷ []) h = refl
with_all_not i (x ∷ y ∷ []) h = absurd (h refl)
with_all_not i (x ∷ y ∷ z ∷ es) h = ap is_some (sym (more_given i (view x) (view y) (view z) (views es)))
