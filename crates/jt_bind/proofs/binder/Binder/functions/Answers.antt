-- At the loop's end no functions are left behind those that were made.
use Rattle.std.proofs.Common.{ap, refl, ◌∙◌, [], map, arith}
use Rattle.std.proofs.lemmas.Grind.{common_steps}
use Rattle.jt_syntax.specs.View.{top_views}
use Rattle.jt_program.specs.View.{body_plan}
use Rattle.jt_bound.specs.Made.{made}
use Rattle.jt_bound.specs.Programs.{one_more}
use Rattle.jt_bound.specs.WalkedPrograms.{walked_functions}
use Rattle.jt_bind.specs.Walks.{numbers, state}
use Rattle.jt_bound.proofs.Behind.{ended, bodies_behind}
use Rattle.jt_bind.proofs.binder.Binder.functions.Goals as goal

pub returns : goal.returns
returns c =
    ended one_more (λ s ts. walked_functions (numbers c.args.self.now) s (top_views ts)) c.args.tops.now c.loop-top.top-index (map body_plan c.loop-top.functions) (state c.loop-top.walk) [] _
    c.loop-top-test.false refl c.loop-top.invariant
    ∙ ap (λ b. made b (state c.loop-top.walk)) (bodies_behind (map body_plan c.loop-top.functions))

pub loop-top-preserved : goal.loop-top-preserved
loop-top-preserved c = grind (arith, common_steps)
