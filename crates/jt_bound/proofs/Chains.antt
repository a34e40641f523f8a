-- Chains whose operands are made one after another are those of `Bound`.
use Rattle.std.proofs.Common.{◌≡◌, List, [], ◌∷◌, ◌++◌, refl, sym, ap, ◌∙◌, map, append_assoc, append-nil}
use Rattle.jt_syntax.specs.declared.operator.ArithmeticOperator.{ArithmeticOperator}
use Rattle.jt_syntax.specs.declared.operator.BinaryOperator.{BinaryOperator}
use Rattle.jt_syntax.specs.declared.operator.Class.{Class}
use Rattle.jt_syntax.specs.declared.operator.Class.TheVariants as class
use Rattle.jt_syntax.specs.declared.operator.ComparisonOperator.{ComparisonOperator}
use Rattle.jt_syntax.specs.declared.operator.Connective.{Connective}
use Rattle.jt_syntax.specs.declared.operator.Connective.TheVariants as connective
use Rattle.jt_syntax.specs.View.{connective_class}
use Rattle.jt_syntax.specs.Tree.{Tree, Terms, Leap}
use Rattle.jt_syntax.specs.Tree as tree
use Rattle.jt_program.specs.Plan.{Plan, BodyPlan}
use Rattle.jt_program.specs.Plan as plan
use Rattle.jt_program.specs.View.{plans_of, operands_of, comparisons_of}
use Rattle.jt_lowered.specs.Chains.{OperandsPlan, connected, compared, operated, none_of, one_more, all_more, chain_of, chained, guard_of, guarded}
use Rattle.jt_lowered.specs.Lowered.{operation_of, comparison_of}
use Rattle.jt_lowered.specs.Nodes.{before}
use Rattle.jt_lowered.proofs.Pushed.{before_pushed}
use Rattle.jt_scopes.specs.declared.scope.Scope.{Scope}
use Rattle.jt_bound.specs.Bound.{Numbers, bound, bound_operands, bound_comparisons, bound_connected, bound_leap}
use Rattle.jt_bound.specs.Made.{WalkResult, made, with, both, three}

-- the operands as `Bound` has them, each behind its operator
abbrev pub bound_terms : Numbers → List Scope → List BodyPlan → Terms → WalkResult (List BodyPlan) (List (BinaryOperator × Plan))
bound_terms x c s tree.no_terms = made [] s
bound_terms x c s (tree.term o e es) = both (λ p ps. (o, p) ∷ ps) (bound x c s e) (λ s. bound_terms x c s es)

abbrev plan_in : BinaryOperator × Plan → Plan
plan_in t = t.1

abbrev compared_in : BinaryOperator × Plan → ComparisonOperator × Plan
compared_in t = (comparison_of t.0, t.1)

abbrev operated_in : BinaryOperator × Plan → ArithmeticOperator × Plan
operated_in t = (operation_of t.0, t.1)

connected_terms : (x : Numbers) (c : List Scope) (s : List BodyPlan) (es : Terms) → bound_connected x c s es ≡ with (λ ts. plans_of (map plan_in ts)) (bound_terms x c s es)
connected_terms x c s tree.no_terms = refl
connected_terms x c s (tree.term o e es) = ap (with (plan.plan (bound x c s e).it)) (connected_terms x c (bound x c s e).state es)

compared_terms : (x : Numbers) (c : List Scope) (s : List BodyPlan) (es : Terms) → bound_comparisons x c s es ≡ with (λ ts. comparisons_of (map compared_in ts)) (bound_terms x c s es)
compared_terms x c s tree.no_terms = refl
compared_terms x c s (tree.term o e es) = ap (with (plan.compared (comparison_of o) (bound x c s e).it)) (compared_terms x c (bound x c s e).state es)

operated_terms : (x : Numbers) (c : List Scope) (s : List BodyPlan) (es : Terms) → bound_operands x c s es ≡ with (λ ts. operands_of (map operated_in ts)) (bound_terms x c s es)
operated_terms x c s tree.no_terms = refl
operated_terms x c s (tree.term o e es) = ap (with (plan.operand (operation_of o) (bound x c s e).it)) (operated_terms x c (bound x c s e).state es)

-- operands that each go behind the others are in the end all of them
all_behind : {A : Type 0} (start : List A → OperandsPlan) (item : BinaryOperator × Plan → A) → ((done : List A) (t : BinaryOperator × Plan) → one_more (start done) t.0 t.1 ≡ start (done ++ item t ∷ []))
    → (done : List A) (ts : List (BinaryOperator × Plan)) → all_more (start done) ts ≡ start (done ++ map item ts)
all_behind start item step done [] = ap start (sym (append-nil done))
all_behind start item step done (t ∷ ts) =
    ap (λ ps. all_more ps ts) (step done t) ∙ (all_behind start item step (done ++ item t ∷ []) ts ∙ ap start (append_assoc done (item t ∷ []) (map item ts)))

connection_bound : (x : Numbers) (c : List Scope) (s : List BodyPlan) (k : Connective) (p : Plan) (es : Terms)
    → with (λ ts. chain_of (all_more (connected k []) ts) p) (bound_terms x c s es) ≡ with (plan.connection k p) (bound_connected x c s es)
connection_bound x c s k p es =
    ap (λ ps. made (chain_of ps p) (bound_terms x c s es).state) (all_behind (connected k) plan_in (λ done t. refl) [] (bound_terms x c s es).it)
    ∙ ap (with (plan.connection k p)) (sym (connected_terms x c s es))

operation_bound : (x : Numbers) (c : List Scope) (s : List BodyPlan) (p : Plan) (es : Terms)
    → with (λ ts. chain_of (all_more (operated []) ts) p) (bound_terms x c s es) ≡ with (plan.operation p) (bound_operands x c s es)
operation_bound x c s p es =
    ap (λ ps. made (chain_of ps p) (bound_terms x c s es).state) (all_behind operated operated_in (λ done t. refl) [] (bound_terms x c s es).it)
    ∙ ap (with (plan.operation p)) (sym (operated_terms x c s es))

comparison_bound : (x : Numbers) (c : List Scope) (s : List BodyPlan) (p : Plan) (es : Terms)
    → with (λ ts. chain_of (all_more (compared []) ts) p) (bound_terms x c s es) ≡ with (plan.comparison p) (bound_comparisons x c s es)
comparison_bound x c s p es =
    ap (λ ps. made (chain_of ps p) (bound_terms x c s es).state) (all_behind compared compared_in (λ done t. refl) [] (bound_terms x c s es).it)
    ∙ ap (with (plan.comparison p)) (sym (compared_terms x c s es))

pub chain_bound : (x : Numbers) (c : List Scope) (s : List BodyPlan) (k : Class) (e : Tree) (es : Terms) → both (chained k) (bound x c s e) (λ s. bound_terms x c s es) ≡ bound x c s (tree.chain k e es)
chain_bound x c s class.Or e es = connection_bound x c (bound x c s e).state connective.Or (bound x c s e).it es
chain_bound x c s class.And e es = connection_bound x c (bound x c s e).state connective.And (bound x c s e).it es
chain_bound x c s class.Comparison e es = comparison_bound x c (bound x c s e).state (bound x c s e).it es
chain_bound x c s class.Sum e es = operation_bound x c (bound x c s e).state (bound x c s e).it es
chain_bound x c s class.Product e es = operation_bound x c (bound x c s e).state (bound x c s e).it es
chain_bound x c s class.Shift e es = operation_bound x c (bound x c s e).state (bound x c s e).it es

none_connected : (k : Connective) → none_of (connective_class k) ≡ connected k []
none_connected connective.Or = refl
none_connected connective.And = refl

before_jump : (x : Numbers) (c : List Scope) (s : List BodyPlan) (k : Connective) (p : Plan) (es : Terms) (l : Leap)
    → both (λ ts q. guarded k p ts q) (bound_terms x c s es) (λ s. bound_leap x c s l) ≡ both (λ ps q. plan.connection k p (before ps (plan.plan q plan.no_plans))) (bound_connected x c s es) (λ s. bound_leap x c s l)
before_jump x c s k p es l =
    let terms : WalkResult (List BodyPlan) (List (BinaryOperator × Plan)) = bound_terms x c s es in
    let last : WalkResult (List BodyPlan) Plan = bound_leap x c terms.state l in
    let plain : List Plan = map plan_in terms.it in
    ap (λ ps. made (guard_of k ps last.it p) last.state) (ap (λ ps. all_more ps terms.it) (none_connected k) ∙ all_behind (connected k) plan_in (λ done t. refl) [] terms.it)
    ∙ (ap (λ ps. made (plan.connection k p ps) last.state) (before_pushed plain (plain ++ last.it ∷ []) last.it refl)
    ∙ ap (λ m. both (λ ps q. plan.connection k p (before ps (plan.plan q plan.no_plans))) m (λ s. bound_leap x c s l)) (sym (connected_terms x c s es)))

pub guard_bound : (x : Numbers) (c : List Scope) (s : List BodyPlan) (k : Connective) (e : Tree) (es : Terms) (l : Leap)
    → three (guarded k) (bound x c s e) (λ s. bound_terms x c s es) (λ s. bound_leap x c s l) ≡ three (λ p ps q. plan.connection k p (before ps (plan.plan q plan.no_plans))) (bound x c s e) (λ s. bound_connected x c s es) (λ s. bound_leap x c s l)
guard_bound x c s k e es l = before_jump x c (bound x c s e).state k (bound x c s e).it es l
