-- What a walk makes of an expression, told by its form.
use Rattle.std.proofs.Common.{◌≡◌, ℕ, Bool, List, Result, Ok, Err, IfOk, ap, ◌∙◌, rules}
use Rattle.jt_syntax.specs.Tree.{Tree}
use Rattle.jt_syntax.specs.Tree as tree
use Rattle.jt_syntax.specs.View.{view}
use Rattle.jt_syntax.specs.declared.script.Expr.{Expr, the_lemmas}
use Rattle.jt_syntax.specs.declared.script.Expr.TheVariants as expr
use Rattle.jt_syntax.specs.declared.script.Identifier.{Identifier}
use Rattle.jt_program.specs.declared.code.Code.{Code}
use Rattle.jt_program.specs.Plan.{Plan}
use Rattle.jt_program.specs.View.{plan_of}
use Rattle.jt_bound.specs.Bound.{Numbers}
use Rattle.jt_bound.specs.Made.{made}
use Rattle.jt_bound.specs.States.{WalkState}
use Rattle.jt_bound.specs.Walked.{walked}
use Rattle.jt_bound.proofs.Outcomes.{code_made}

-- what is made of a tree is made of what is the same
pub seen : {E : Type 0} (r : Result Code E) (x : Numbers) (s later : WalkState) (e f : Tree) → e ≡ f → IfOk r (λ p. walked x s f ≡ made (plan_of p) later) → IfOk r (λ p. walked x s e ≡ made (plan_of p) later)
seen (Ok p) x s later e f h g = ap (walked x s) h ∙ g
seen (Err y) x s later e f h g = g

-- a plan that no part makes
pub leaf : {E : Type 0} (r : Result Code E) (x : Numbers) (s : WalkState) (e f : Tree) (q : Plan) → e ≡ f → walked x s f ≡ made q s → IfOk r (λ p. plan_of p ≡ q) → IfOk r (λ p. walked x s e ≡ made (plan_of p) s)
leaf r x s e f q h g i = code_made r (walked x s e) q s (ap (walked x s) h ∙ g) i

pub view-Truth : (b : Bool) → view (expr.Truth b) ≡ tree.truth b
view-Truth b = search (rules, the_lemmas)

pub view-Name : (i : Identifier) → view (expr.Name i) ≡ tree.name i
view-Name i = search (rules, the_lemmas)

pub view-Interpolation : (at : ℕ) (i : Identifier) → view (expr.Interpolation at i) ≡ tree.interpolation at i
view-Interpolation at i = search (rules, the_lemmas)

pub view-Group : (e : Expr) → view (expr.Group e) ≡ tree.group (view e)
view-Group e = search (rules, the_lemmas)

pub view-Error : (t : List ℕ) → view (expr.Error t) ≡ tree.error t
view-Error t = search (rules, the_lemmas)

pub view-Least : view expr.Least ≡ tree.least
view-Least = search (rules, the_lemmas)

pub view-Greatest : view expr.Greatest ≡ tree.greatest
view-Greatest = search (rules, the_lemmas)

pub view-Power : (a b : Expr) → view (expr.Power a b) ≡ tree.power (view a) (view b)
view-Power a b = search (rules, the_lemmas)

pub view-Conditional : (t a b : Expr) → view (expr.Conditional t a b) ≡ tree.conditional (view t) (view a) (view b)
view-Conditional t a b = search (rules, the_lemmas)
