-- The task of the next number is made where its path has room.
use Rattle.std.proofs.Common.{length, sym, refl, ap, ◌∙◌}
use Rattle.std.specs.Prelude.{option_map}
use Rattle.std.proofs.lemmas.Bool.{lt-ltb}
use Rattle.std.proofs.lemmas.Option.{slice_get-map}
use Rattle.jt_base.specs.Names.{most_indexes}
use Rattle.jt_program.specs.View.{body_plan}
use Rattle.jt_step.proofs.Forks.{forks}
use Rattle.jt_step.proofs.evaluator.Evaluator.fork.Goals as goal

pub returns-in_ok-mode-in-Ok : goal.returns-in_ok-mode-in-Ok
returns-in_ok-mode-in-Ok c =
    let tasks = c.args.program.now.tasks in
    let is = slice_get-map body_plan tasks c.args.task.now.body ∙ ap (option_map body_plan) (sym (rw c.as_slice.ensures at c.in-Some.ensures)) in
    forks _ c.args.self.now _ _ c.in-Ok.path _ (body_plan c.in-Some.field-0.now) c.args.task.now.body c.args.task.now.captured c.args.task.now.is_awaited is c.in-Ok.ensures.path (lt-ltb (length c.args.self.now.path) most_indexes (c.in-Ok.ensures.room.0 refl)) (c.in_ok-mode-in-Ok.ensures _)
