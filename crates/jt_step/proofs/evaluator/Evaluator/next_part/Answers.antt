-- The first part that is left and isn't done at once begins, and the others stand behind it.
use Rattle.std.proofs.Common.{◌∙◌, ap, arith}
use Rattle.jt_step.specs.declared.evaluator.Evaluator.{Evaluator}
use Rattle.jt_step.proofs.AtOnce.{does_amid, first_lighter, part_begins}
use Rattle.jt_step.proofs.evaluator.Evaluator.next_part.Goals as goal

pub returns-in-None-2 : goal.returns-in-None-2
returns-in-None-2 c =
    let kept = rw c.in-None-2.is at c.in_ok-assign_read-in-Some.ensures in
    λ program. does_amid program _ _ _ _ _ _ _ _ (ap (λ (n : Evaluator). n.frames.items) kept ∙ c.parts.invariant.frames) (ap (λ (n : Evaluator). n.turns) kept ∙ c.parts.invariant.turns) (c.in_ok-begin_part-in-None-2.ensures program)
    (λ rs. part_begins program c.parts.self c.assign_read.new.self c.in-Some.e.now c.parts.v c.parts.es.now c.in-Some.rest.now rs c.in-Some.ensures kept ∙ c.parts.invariant.same program rs)
    (omega (arith, first_lighter c.in-Some.e.now c.parts.es.now c.in-Some.rest.now c.in-Some.ensures, c.parts.invariant.less))
