-- A call is opened, or a loop's turn begins.
use Rattle.std.proofs.Common.{refl, sym, ap, ◌∙◌}
use Rattle.std.specs.Prelude.{option_map}
use Rattle.std.proofs.lemmas.Option.{slice_get-map}
use Rattle.jt_program.specs.View.{body_plan}
use Rattle.jt_step.proofs.Begins.{call_begins}
use Rattle.jt_step.proofs.evaluator.Evaluator.begin.Goals as goal

pub returns-in_ok-push-in-Some : goal.returns-in_ok-push-in-Some
returns-in_ok-push-in-Some c =
    let is = slice_get-map body_plan c.args.program.now.functions c.in-Enter.f ∙ ap (option_map body_plan) (sym (rw c.as_slice.ensures at c.in-Some.ensures)) in
    rw c.in-Enter.is (call_begins _ _ _ _ _ (body_plan c.in-Some.body.now) _ is refl (rw c.in-Enter.is at c.requires) (rw (← c.replace-caller.ensures.value) c.in_ok-push-in-Some.ensures.items) (λ rs. rw (c.replace-caller.ensures.after, c.in_ok-variables-in-Some.ensures, c.as_slice-in-Some.ensures)) refl)

pub returns-in_ok-mode-in-Again : goal.returns-in_ok-mode-in-Again
returns-in_ok-mode-in-Again c = rw c.in-Again.is (c.in_ok-mode-in-Again.ensures _)
