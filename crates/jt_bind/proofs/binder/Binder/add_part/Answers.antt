-- A part of the main task goes behind the others, and the rest behind it.
use Rattle.std.proofs.Common.{◌≡◌, List, ◌∷◌, OnOk, ap, sym, subst, ◌∙◌, map}
use Rattle.jt_syntax.specs.Tree.{TopTree}
use Rattle.jt_syntax.specs.Tree as tree
use Rattle.jt_syntax.specs.View.{view, stmt_view, form_view, top_view}
use Rattle.jt_program.specs.Plan as plan
use Rattle.jt_program.specs.View.{plan_of}
use Rattle.jt_bound.specs.Behind.{behind}
use Rattle.jt_bound.specs.Made.{with}
use Rattle.jt_bound.specs.Walked.{walked_step}
use Rattle.jt_bound.specs.WalkedPrograms.{walked_definition, walked_main}
use Rattle.jt_bind.specs.Walks.{numbers, state}
use Rattle.jt_bound.proofs.Outcomes.{part_made}
use Rattle.jt_bind.proofs.binder.Binder.add_part.Goals as goal

pub returns-in_ok-code-in-Constant : goal.returns-in_ok-code-in-Constant
returns-in_ok-code-in-Constant c =
    let seen : top_view c.args.top.now ≡ (c.args.top.now.at, tree.constant c.in-Constant.name (view c.get.result.now)) =
    ap (λ f. (c.args.top.now.at, form_view f)) c.in-Constant.is ∙ ap (λ e. (c.args.top.now.at, tree.constant c.in-Constant.name (view e))) (sym c.get.ensures) in
    subst (λ v. OnOk c.push.result ((ts : List TopTree) → with (behind plan.plan (map plan_of c.push.new.codes)) (walked_main (numbers c.args.self.now) (state c.definition.new.walk) ts) ≡ with (behind plan.plan (map plan_of c.args.parts.now)) (walked_main (numbers c.args.self.now) (state c.args.walk.now) (v ∷ ts)))) (sym seen)
    (part_made c.push.result (map plan_of c.args.parts.now) (map plan_of c.push.new.codes) (walked_definition (numbers c.args.self.now) (state c.args.walk.now) c.in-Constant.name (view c.get.result.now)) (plan_of c.in_ok-code-in-Constant.code) (state c.definition.new.walk) (walked_main (numbers c.args.self.now)) c.in_ok-code-in-Constant.ensures c.push.ensures)

pub returns-in_ok-code-in-Stmt : goal.returns-in_ok-code-in-Stmt
returns-in_ok-code-in-Stmt c =
    let seen : top_view c.args.top.now ≡ (c.args.top.now.at, tree.plain (stmt_view c.in-Stmt.statement)) = ap (λ f. (c.args.top.now.at, form_view f)) c.in-Stmt.is in
    subst (λ v. OnOk c.push-in-Stmt.result ((ts : List TopTree) → with (behind plan.plan (map plan_of c.push-in-Stmt.new.codes)) (walked_main (numbers c.args.self.now) (state c.statement.new.walk) ts) ≡ with (behind plan.plan (map plan_of c.args.parts.now)) (walked_main (numbers c.args.self.now) (state c.args.walk.now) (v ∷ ts)))) (sym seen)
    (part_made c.push-in-Stmt.result (map plan_of c.args.parts.now) (map plan_of c.push-in-Stmt.new.codes) (walked_step (numbers c.args.self.now) (state c.args.walk.now) (stmt_view c.in-Stmt.statement)) (plan_of c.in_ok-code-in-Stmt.code) (state c.statement.new.walk) (walked_main (numbers c.args.self.now)) c.in_ok-code-in-Stmt.ensures c.push-in-Stmt.ensures)
