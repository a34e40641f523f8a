-- No expression is a text: what `println` prints of one is its value.
use Rattle.std.proofs.Common.{◌≡◌, Some, None, refl, sym, subst, rules}
use Rattle.jt_syntax.specs.Tree.{Tree, Leap, Step, Steps}
use Rattle.jt_syntax.specs.View.{view, item_view, expr_layer, item_layer, jump_layer, stmt_layer, arm_layer}
use Rattle.jt_syntax.specs.declared.script.Expr.{Expr, the_lemmas}
use Rattle.jt_syntax.specs.declared.script.Expr.TheOpen.{Expr-F}
use Rattle.jt_syntax.specs.declared.script.Expr.TheFolds.{fold_out-Expr}
use Rattle.jt_syntax.specs.declared.script.Item.TheVariants as item
use Rattle.jt_program.specs.Plan.{Plan}
use Rattle.jt_program.specs.View as piece
use Rattle.jt_bound.specs.Bound.{piece_of}

layer-value : (x : Expr-F Tree Tree Leap Step (Tree × Steps)) (p : Plan) → piece_of (expr_layer x) p ≡ piece.value p
layer-value (Expr-F.Number n) p = refl
layer-value (Expr-F.Truth b) p = refl
layer-value (Expr-F.Name i) p = refl
layer-value (Expr-F.Interpolation at i) p = refl
layer-value (Expr-F.Group e) p = refl
layer-value (Expr-F.Call i es) p = refl
layer-value (Expr-F.Println es) p = refl
layer-value (Expr-F.Error t) p = refl
layer-value (Expr-F.Channel None) p = refl
layer-value (Expr-F.Channel (Some e)) p = refl
layer-value (Expr-F.Atomic e) p = refl
layer-value Expr-F.Least p = refl
layer-value Expr-F.Greatest p = refl
layer-value Expr-F.Random p = refl
layer-value (Expr-F.RandomIn a b) p = refl
layer-value (Expr-F.Notify e b) p = refl
layer-value (Expr-F.Read i) p = refl
layer-value (Expr-F.Power a b) p = refl
layer-value (Expr-F.Unary o e) p = refl
layer-value (Expr-F.Chain k e es) p = refl
layer-value (Expr-F.Conditional c a b) p = refl
layer-value (Expr-F.Block ss) p = refl
layer-value (Expr-F.If c ss arms last) p = refl
layer-value (Expr-F.While c ss) p = refl
layer-value (Expr-F.ForRange i a b ss) p = refl
layer-value (Expr-F.ForEach i e ss) p = refl
layer-value (Expr-F.Spawn at q e) p = refl
layer-value (Expr-F.Async at e) p = refl
layer-value (Expr-F.Sync e) p = refl
layer-value (Expr-F.Threads at s i a b ss) p = refl

pub value_piece : (e : Expr) (p : Plan) → piece_of (view e) p ≡ piece.value p
value_piece e p = subst (λ t. piece_of t p ≡ piece.value p)
    (sym (fold_out-Expr Tree Tree Leap Step (Tree × Steps) expr_layer item_layer jump_layer stmt_layer arm_layer e))
    (layer-value _ p)

pub value_view : (e : Expr) → item_view (item.Value e) ≡ view e
value_view e = search (rules, the_lemmas)
