use Rattle.std.proofs.Common.{◌≡◌, [], Some, sym, ap, ◌∙◌}
use Rattle.jt_base.specs.declared.object.Object.TheVariants.{Task}
use Rattle.jt_objects.specs.States.{OfTask, state_of_object}
use Rattle.jt_objects.proofs.Answering.{none_first}
use Rattle.jt_objects.proofs.shared.Shared.empty.Goals as goal

pub returns-in-Task-2 : goal.returns-in-Task-2
returns-in-Task-2 c =
    let same : Task c.in-Task.path ≡ Task c.in-Task-2.field-0 = sym c.in-Task.is ∙ c.in-Task-2.is in
    let path : c.in-Task.path ≡ c.in-Task-2.field-0 = cc in
    ap (λ o. state_of_object o []) c.in-Task.is ∙ ap (λ x. Some (OfTask x)) (none_first c.in-Task.path (sym c.is_main.ensures ∙ c.if-is_main.false))
