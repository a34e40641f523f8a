-- What can be read is taken at once; else one frame is pushed, and what it does with the part's value is what follows.
use Rattle.std.proofs.Common.{◌+◌, ◌∙◌, arith, refl}
use Rattle.jt_program.specs.View.{plan_of}
use Rattle.jt_step.specs.Stack.{does_comparisons, comparisons_in, comparisons_weight}
use Rattle.jt_step.proofs.Moves.{pushes_from, does_from, does_value, does_fault}
use Rattle.jt_step.proofs.Known.{comparison_read, comparison_over, comparison_fails, comparisons_fewer, reads_at}
use Rattle.jt_step.proofs.Weights.{comparisons_least}
use Rattle.jt_step.proofs.evaluator.Evaluator.next_comparison.Goals as goal

pub comparisons-preserved : goal.comparisons-preserved
comparisons-preserved c = let reads = rw c.in-Some-2.is at c.in_ok-read-in-Some.ensures in record {
  kept = c.comparisons.invariant.kept;
  same = λ program rs. comparison_read program _ _ _ _ _ _ c.in-Some.ensures (reads_at program _ _ (plan_of c.in-Some.first.now.1) _ c.comparisons.invariant.kept (reads program) rs) (rw c.in-Some-true.field-0-test at c.in-Some-true.ensures) ∙ c.comparisons.invariant.same program rs;
  less = omega (arith, comparisons_fewer _ _ _ c.in-Some.ensures, c.comparisons.invariant.less);
}

pub returns-in-None : goal.returns-in-None
returns-in-None c = λ program. does_from program _ _ _ _ (does_comparisons program c.comparisons.v (comparisons_in c.comparisons.es.now)) _ (comparisons_weight (comparisons_in c.comparisons.es.now) + 1) _ c.comparisons.invariant.kept (does_value program _ _ _ _ (λ rs. rw c.in-None.ensures) (omega (arith, comparisons_least (comparisons_in c.comparisons.es.now)))) (c.comparisons.invariant.same program) (omega (arith, c.comparisons.invariant.less))

pub returns-in-None-2 : goal.returns-in-None-2
returns-in-None-2 c = λ program. pushes_from program _ _ _ _ _ (does_comparisons program c.comparisons.v (comparisons_in c.comparisons.es.now)) _ (comparisons_weight (comparisons_in c.comparisons.es.now) + 1) _ c.comparisons.invariant.kept c.in_ok-push-in-None-2.ensures.items (λ rs. refl) refl (λ s. rw c.in-Some.ensures) (rw c.in-Some.ensures (omega arith)) (c.comparisons.invariant.same program) (omega (arith, c.comparisons.invariant.less))

pub returns-in-Some-false : goal.returns-in-Some-false
returns-in-Some-false c = λ program. let reads = rw c.in-Some-2.is at c.in_ok-read-in-Some.ensures in does_from program _ _ _ _ (does_comparisons program c.comparisons.v (comparisons_in c.comparisons.es.now)) _ (comparisons_weight (comparisons_in c.comparisons.es.now) + 1) _ c.comparisons.invariant.kept (does_value program _ _ _ _ (λ rs. comparison_over program _ _ _ _ _ _ c.in-Some.ensures (reads program rs) (rw c.in-Some-false.field-0-test at c.in-Some-false.ensures)) (omega (arith, comparisons_least (comparisons_in c.comparisons.es.now)))) (c.comparisons.invariant.same program) (omega (arith, c.comparisons.invariant.less))

pub returns-in-None-compare : goal.returns-in-None-compare
returns-in-None-compare c = λ program. let reads = rw c.in-Some-2.is at c.in_ok-read-in-Some.ensures in does_from program _ _ _ _ (does_comparisons program c.comparisons.v (comparisons_in c.comparisons.es.now)) _ (comparisons_weight (comparisons_in c.comparisons.es.now) + 1) _ c.comparisons.invariant.kept (does_fault program _ _ _ _ (λ rs. comparison_fails program _ _ _ _ _ _ c.in-Some.ensures (reads program rs) c.in-None-compare.ensures) (omega (arith, comparisons_least (comparisons_in c.comparisons.es.now)))) (c.comparisons.invariant.same program) (omega (arith, c.comparisons.invariant.less))
