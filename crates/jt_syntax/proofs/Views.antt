-- The plain data of trees, form by form.
use Rattle.std.proofs.Common.{◌≡◌, ℕ, List, Option, Some, None, rules}
use Rattle.std.specs.Prelude.{map}
use Rattle.jt_syntax.specs.Tree as tree
use Rattle.jt_syntax.specs.View.{view, views, item_view, item_views, term_view, terms_of, stmt_view, stmt_views, arms_of, arm_view, jump_view}
use Rattle.jt_syntax.specs.declared.operator.BinaryOperator.{BinaryOperator}
use Rattle.jt_syntax.specs.declared.operator.Class.{Class}
use Rattle.jt_syntax.specs.declared.operator.Connective.{Connective}
use Rattle.jt_syntax.specs.declared.script.Identifier.{Identifier}
use Rattle.jt_syntax.specs.declared.script.Schedule.{Schedule}
use Rattle.jt_syntax.specs.declared.script.Expr.{Expr, the_lemmas}
use Rattle.jt_syntax.specs.declared.script.Expr.TheVariants as expr
use Rattle.jt_syntax.specs.declared.script.Item.{Item}
use Rattle.jt_syntax.specs.declared.script.Item.TheVariants as item
use Rattle.jt_syntax.specs.declared.script.Arm.{Arm}
use Rattle.jt_syntax.specs.declared.script.Jump.{Jump}
use Rattle.jt_syntax.specs.declared.script.Stmt.{Stmt}
use Rattle.jt_syntax.specs.declared.script.Stmt.TheVariants as stmt

pub view-Number : (n : ℕ) → view (expr.Number n) ≡ tree.number n
view-Number n = search (rules, the_lemmas)

pub view-Call : (i : Identifier) (es : List Expr) → view (expr.Call i es) ≡ tree.call i (views es)
view-Call i es = search (rules, the_lemmas)

pub view-Println : (es : List Item) → view (expr.Println es) ≡ tree.println (item_views es)
view-Println es = search (rules, the_lemmas)

pub view-Text : (t : List ℕ) → item_view (item.Text t) ≡ tree.text t
view-Text t = search (rules, the_lemmas)

pub view-Value : (e : Expr) → item_view (item.Value e) ≡ view e
view-Value e = search (rules, the_lemmas)

pub view-Chain : (k : Class) (e : Expr) (es : List (BinaryOperator × Expr)) → view (expr.Chain k e es) ≡ tree.chain k (view e) (terms_of (map term_view es))
view-Chain k e es = search (rules, the_lemmas)

pub view-Block : (ss : List Stmt) → view (expr.Block ss) ≡ tree.block (stmt_views ss)
view-Block ss = search (rules, the_lemmas)

pub view-If : (c : Expr) (ss : List Stmt) (arms : List Arm) → view (expr.If c ss arms None) ≡ tree.branches (view c) (stmt_views ss) (arms_of (map arm_view arms) tree.no_arms)
view-If c ss arms = search (rules, the_lemmas)

pub view-If-else : (c : Expr) (ss : List Stmt) (arms : List Arm) (last : List Stmt) → view (expr.If c ss arms (Some last)) ≡ tree.branches (view c) (stmt_views ss) (arms_of (map arm_view arms) (tree.otherwise (stmt_views last)))
view-If-else c ss arms last = search (rules, the_lemmas)

pub view-While : (c : Expr) (ss : List Stmt) → view (expr.While c ss) ≡ tree.while (view c) (stmt_views ss)
view-While c ss = search (rules, the_lemmas)

pub view-ForRange : (i : Identifier) (a b : Expr) (ss : List Stmt) → view (expr.ForRange i a b ss) ≡ tree.for_range i (view a) (view b) (stmt_views ss)
view-ForRange i a b ss = search (rules, the_lemmas)

pub view-ForEach : (i : Identifier) (e : Expr) (ss : List Stmt) → view (expr.ForEach i e ss) ≡ tree.for_each i (view e) (stmt_views ss)
view-ForEach i e ss = search (rules, the_lemmas)

pub view-Threads : (at : ℕ) (s : Option Schedule) (i : Identifier) (a b : Expr) (ss : List Stmt) → view (expr.Threads at s i a b ss) ≡ tree.threads at s i (view a) (view b) (stmt_views ss)
view-Threads at s i a b ss = search (rules, the_lemmas)

pub view-Guard : (c : Connective) (e : Expr) (es : List (BinaryOperator × Expr)) (j : Jump) → stmt_view (stmt.Guard c e es j) ≡ tree.guard c (view e) (terms_of (map term_view es)) (jump_view j)
view-Guard c e es j = search (rules, the_lemmas)
