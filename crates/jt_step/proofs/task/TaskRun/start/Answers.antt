-- The evaluator stands at the task's beginning.
use Rattle.std.proofs.Common.{[], ◌<◌, length, refl, sym, ap, ◌∙◌, arith, Some}
use Rattle.std.specs.Prelude.{option_map}
use Rattle.std.proofs.lemmas.Option.{slice_get-get_or, slice_get-map}
use Rattle.jt_program.specs.View.{body_plan, program_plan}
use Rattle.jt_meaning.specs.State.{State}
use Rattle.jt_step.proofs.Starts.{new_seen, starts}
use Rattle.jt_step.proofs.task.TaskRun.start.Goals as goal

pub invariant_of-result : goal.invariant_of-result
invariant_of-result c =
    let tasks = c.args.program.now.tasks in let code = c.args.start.code in let b = c.index-as_slice-start.result in
    let within : code < length tasks = c.requires.body in
    let here = rw c.as_slice.ensures at c.index-as_slice-start.is in
    let is = slice_get-map body_plan tasks code ∙ ap (option_map body_plan) (slice_get-get_or tasks code b within ∙ ap Some (sym here)) in
    let m = c.in_ok-evaluator.ensures in
    rw c.in_ok-new.ensures.ok (record {
      same = λ f rs. starts (record { program = program_plan c.args.program.now; sizes = c.args.sizes; limits = c.args.limits.now }) c.in_ok-evaluator.evaluator c.args.path c.args.start (body_plan b) (record { ref_ptr = (0, 0); now = b.code }) c.new-2.result.items rs is refl m.frames m.variables m.state c.new-2.ensures.items;
      within = omega arith;
      few = λ f. omega (arith, ap (λ (s : State). s.turns) (m.state []));
    })

pub returns : goal.returns
returns c =
    let turns = ap (λ (s : State). s.turns) (c.in_ok-evaluator.ensures.state []) in
    rw c.in_ok-new.ensures.ok (new_seen _ c.args.path c.args.start c.args.parent _ _ _ _ _ c.pool_of-pool.ensures (c.bound_of-bound.ensures c.args.sizes c.args.parent) c.new-2.ensures.items (omega (arith, c.new-2.ensures.capacity)) (omega (arith, turns)))
