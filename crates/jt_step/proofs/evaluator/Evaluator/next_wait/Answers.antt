-- The next task is waited for over a frame that holds those behind it.
use Rattle.std.proofs.Common.{◌<◌, length, arith, refl, rules, sym, Fits, w64}
use Rattle.std.proofs.lemmas.Option.{slice_get_within}
use Rattle.jt_step.proofs.Syncs.{waits_end, waits_next}
use Rattle.jt_step.proofs.evaluator.Evaluator.next_wait.Goals as goal

pub returns-in-None : goal.returns-in-None
returns-in-None c = λ program. waits_end program _ c.args.waits _ c.left.ensures (sym (rw c.as_slice.ensures at c.in-None.ensures))

pub overflow_add-waits : goal.overflow_add-waits
overflow_add-waits c =
    let within : c.args.waits.next < length c.args.waits.paths = slice_get_within c.args.waits.paths c.args.waits.next c.in-Some.path.now (sym (rw c.as_slice.ensures at c.in-Some.ensures)) in
    let fits : Fits w64 (length c.as_slice.result.now) = search rules in
    let fits = rw c.as_slice.ensures at fits in
    omega (arith, fits, within)

pub returns : goal.returns
returns c = λ program. waits_next program _ _ c.args.waits c.in-Some.path.now _ (rw c.copy.ensures at c.in_ok-mode-in-Some.ensures) (rw c.in_ok-new-in-Some.ensures at c.in_ok-push-in-Some.ensures.items) (λ rs. refl) refl (sym (rw c.as_slice.ensures at c.in-Some.ensures))
