-- At the loop's end `nothing` alone is left behind the parts that were made.
use Rattle.std.proofs.Common.{ap, refl, sym, ◌∙◌, map, arith}
use Rattle.std.proofs.lemmas.Grind.{common_steps}
use Rattle.jt_syntax.specs.View.{top_views}
use Rattle.jt_program.specs.Plan as plan
use Rattle.jt_program.specs.View.{plan_of, plans}
use Rattle.jt_bound.specs.Behind.{behind}
use Rattle.jt_lowered.specs.Lowered.{nothing_literal}
use Rattle.jt_bound.specs.Made.{made, with}
use Rattle.jt_bound.specs.WalkedPrograms.{walked_main}
use Rattle.jt_bind.specs.Walks.{numbers, state}
use Rattle.jt_bound.proofs.Behind.{ended, with_pushed, plans_behind}
use Rattle.jt_bound.proofs.Outcomes.{code_made}
use Rattle.jt_bind.proofs.binder.Binder.main.Goals as goal

pub returns : goal.returns
returns c =
    code_made c.block.result _ (plan.block (plans c.push.new.codes)) (state c.loop-top.walk)
    (ap (with plan.block)
    (ended plan.plan (λ s ts. walked_main (numbers c.args.self.now) s (top_views ts)) c.args.tops.now c.loop-top.top-index (map plan_of c.loop-top.parts) (state c.loop-top.walk) (plan.plan nothing_literal plan.no_plans) _
    c.loop-top-test.false refl c.loop-top.invariant
    ∙ (ap (λ p. with (behind plan.plan (map plan_of c.loop-top.parts)) (made (plan.plan p plan.no_plans) (state c.loop-top.walk))) (sym c.in_ok-last.ensures)
    ∙ (sym (with_pushed plan.plan (map plan_of c.loop-top.parts) (plan_of c.in_ok-last.last) (made plan.no_plans (state c.loop-top.walk)))
    ∙ (ap (λ cs. with (behind plan.plan cs) (made plan.no_plans (state c.loop-top.walk))) (sym c.in_ok-push.ensures)
    ∙ ap (λ b. made b (state c.loop-top.walk)) (plans_behind (map plan_of c.push.new.codes)))))))
    c.block.ensures

pub loop-top-preserved : goal.loop-top-preserved
loop-top-preserved c = grind (arith, common_steps)
