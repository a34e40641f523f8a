-- A function goes behind the others, and the rest behind it.
use Rattle.std.proofs.Common.{◌≡◌, List, ◌∷◌, OnOk, ap, sym, subst, ◌∙◌, map}
use Rattle.jt_syntax.specs.Tree.{TopTree}
use Rattle.jt_syntax.specs.Tree as tree
use Rattle.jt_syntax.specs.View.{view, stmt_views, form_view, top_view}
use Rattle.jt_program.specs.Plan as plan
use Rattle.jt_program.specs.View.{plan_of, body_plan}
use Rattle.jt_bound.specs.Behind.{behind}
use Rattle.jt_bound.specs.Made.{with}
use Rattle.jt_bound.specs.Programs.{one_more}
use Rattle.jt_bound.specs.States.{entered}
use Rattle.jt_bound.specs.Walked.{walked, walked_steps}
use Rattle.jt_bound.specs.WalkedPrograms.{walked_functions}
use Rattle.jt_bind.specs.Walks.{numbers, state}
use Rattle.jt_bound.proofs.Outcomes.{function_made}
use Rattle.jt_bind.proofs.binder.Binder.add_function.Goals as goal

pub returns-in_ok-code-in-Function : goal.returns-in_ok-code-in-Function
returns-in_ok-code-in-Function c =
    let seen : top_view c.args.top.now ≡ (c.args.top.now.at, tree.function c.in-Function.field-0 c.in-Function.field-1 (stmt_views c.as_slice.result.now)) =
    ap (λ f. (c.args.top.now.at, form_view f)) c.in-Function.is ∙ ap (λ b. (c.args.top.now.at, tree.function c.in-Function.field-0 c.in-Function.field-1 (stmt_views b))) (sym c.as_slice.ensures) in
    subst (λ v. OnOk c.push_body.result ((ts : List TopTree) → with (behind one_more (map body_plan c.push_body.new.bodies)) (walked_functions (numbers c.args.self.now) (state c.within.new.walk) ts) ≡ with (behind one_more (map body_plan c.args.functions.now)) (walked_functions (numbers c.args.self.now) (state c.args.walk.now) (v ∷ ts)))) (sym seen)
    (function_made c.push_body.result (map body_plan c.args.functions.now) (map body_plan c.push_body.new.bodies) (state c.args.walk.now) (state c.within.new.walk) (with plan.block (walked_steps (numbers c.args.self.now) (entered (state c.args.walk.now)) (stmt_views c.as_slice.result.now))) c.count-variables.result (plan_of c.in_ok-code-in-Function.code) (walked_functions (numbers c.args.self.now)) c.count-variables.ensures c.in_ok-code-in-Function.ensures c.push_body.ensures)

pub returns-in_ok-code-in-ShortFunction : goal.returns-in_ok-code-in-ShortFunction
returns-in_ok-code-in-ShortFunction c =
    let seen : top_view c.args.top.now ≡ (c.args.top.now.at, tree.short c.in-ShortFunction.field-0 c.in-ShortFunction.field-1 (view c.get.result.now)) =
    ap (λ f. (c.args.top.now.at, form_view f)) c.in-ShortFunction.is ∙ ap (λ e. (c.args.top.now.at, tree.short c.in-ShortFunction.field-0 c.in-ShortFunction.field-1 (view e))) (sym c.get.ensures) in
    subst (λ v. OnOk c.push_body-in-ShortFunction.result ((ts : List TopTree) → with (behind one_more (map body_plan c.push_body-in-ShortFunction.new.bodies)) (walked_functions (numbers c.args.self.now) (state c.inside.new.walk) ts) ≡ with (behind one_more (map body_plan c.args.functions.now)) (walked_functions (numbers c.args.self.now) (state c.args.walk.now) (v ∷ ts)))) (sym seen)
    (function_made c.push_body-in-ShortFunction.result (map body_plan c.args.functions.now) (map body_plan c.push_body-in-ShortFunction.new.bodies) (state c.args.walk.now) (state c.inside.new.walk) (walked (numbers c.args.self.now) (entered (state c.args.walk.now)) (view c.get.result.now)) c.count-variables.result (plan_of c.in_ok-code-in-ShortFunction.code) (walked_functions (numbers c.args.self.now)) c.count-variables.ensures c.in_ok-code-in-ShortFunction.ensures c.push_body-in-ShortFunction.ensures)
