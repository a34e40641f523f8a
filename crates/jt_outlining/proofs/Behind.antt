-- One mark, function or part more, and how many trees there are.
use Rattle.std.proofs.Common.{◌≡◌, ℕ, suc, List, [], ◌∷◌, ◌++◌, length, map, refl, ap, rules}
use Rattle.jt_syntax.specs.View.{views}
use Rattle.jt_syntax.specs.declared.script.Expr.{Expr}
use Rattle.jt_syntax.specs.declared.script.Identifier.{Identifier}
use Rattle.jt_outline.specs.Marks.{Marks, mark, scope, FunctionTree, PartTree}
use Rattle.jt_outline.specs.Outlines.{count}
use Rattle.jt_outline.specs.View.{before, mark_view, mark_views, function_view, part_view}
use Rattle.jt_outline.specs.declared.mark.Mark.{Mark, the_lemmas}
use Rattle.jt_outline.specs.declared.mark.ScopeKind.{ScopeKind}
use Rattle.jt_outline.specs.declared.outline.FunctionMark.{FunctionMark}
use Rattle.jt_outline.specs.declared.outline.Part.{Part}
use Rattle.jt_outline.specs.declared.mark.Mark.TheVariants as one

-- a mark behind others stands before what is behind them
pub before_push : (ms : List Mark) (m : Mark) (r : Marks) → before (map mark_view ms) (mark (mark_view m) r) ≡ before (map mark_view (ms ++ m ∷ [])) r
before_push [] m r = refl
before_push (n ∷ ms) m r = ap (mark (mark_view n)) (before_push ms m r)

pub scope_viewed : (k : ScopeKind) (at : ℕ) (is : List Identifier) (ms : List Mark) → mark_view (one.Scope (record { kind = k; at = at; variables = is; body = ms })) ≡ scope k at is (mark_views ms)
scope_viewed k at is ms = search (rules, the_lemmas)

pub count_views : (es : List Expr) → count (views es) ≡ length es
count_views [] = refl
count_views (e ∷ es) = ap suc (count_views es)

pub functions_push : (fs : List FunctionMark) (f : FunctionMark) (rest : List FunctionTree) → map function_view (fs ++ f ∷ []) ++ rest ≡ map function_view fs ++ function_view f ∷ rest
functions_push [] f rest = refl
functions_push (g ∷ fs) f rest = ap (λ ys. function_view g ∷ ys) (functions_push fs f rest)

pub parts_push : (ps : List Part) (p : Part) (rest : List PartTree) → map part_view (ps ++ p ∷ []) ++ rest ≡ map part_view ps ++ part_view p ∷ rest
parts_push [] p rest = refl
parts_push (q ∷ ps) p rest = ap (λ ys. part_view q ∷ ys) (parts_push ps p rest)
