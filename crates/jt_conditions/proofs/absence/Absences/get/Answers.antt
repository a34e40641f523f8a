-- What is stored of the task, as it is seen.
use Rattle.std.proofs.Common.{sym, ap, ◌∙◌}
use Rattle.std.specs.Prelude.{Some, option_map}
use Rattle.std.specs.FinMap as map
use Rattle.jt_conditions.specs.Absences.{seen}
use Rattle.jt_conditions.proofs.Seen.{get_seen}
use Rattle.jt_conditions.proofs.absence.Absences.get.Goals as goal

pub returns-in-Some : goal.returns-in-Some
returns-in-Some c =
    ap Some c.seen.ensures ∙ ap (option_map (seen c.self.inside.woken)) (sym c.in-Some.is ∙ c.find.ensures)
    ∙ sym (get_seen c.self.inside.woken c.self.inside.tasks.entries c.args.task.now) ∙ ap (λ w. map.get w.state c.args.task.now) c.self.view_is

pub returns-in-None : goal.returns-in-None
returns-in-None c =
    ap (option_map (seen c.self.inside.woken)) (sym c.in-None.is ∙ c.find.ensures)
    ∙ sym (get_seen c.self.inside.woken c.self.inside.tasks.entries c.args.task.now) ∙ ap (λ w. map.get w.state c.args.task.now) c.self.view_is
