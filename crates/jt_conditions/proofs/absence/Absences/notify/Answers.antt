-- The task with one more wait that was notified, where it is away.
use Rattle.std.proofs.Common.{sym, ap, ◌∙◌}
use Rattle.std.specs.Prelude.{option_map}
use Rattle.std.specs.FinMap as map
use Rattle.jt_conditions.specs.Absences.{seen, away}
use Rattle.jt_conditions.specs.Conditions.{notified_once, put_notified, with_notified}
use Rattle.jt_conditions.proofs.Seen.{get_seen, seen_put, seen_once}
use Rattle.jt_conditions.proofs.absence.Absences.notify.Goals as goal

pub returns-in-Some : goal.returns-in-Some
returns-in-Some c =
    let m = away c.self.inside.woken c.self.inside.tasks.entries in
    let once = c.notified_once-absence.ensures ∙ ap notified_once c.seen.ensures in
    seen_put c.self.inside.woken c.self.inside.tasks.entries c.put.new.tasks.entries c.args.task.now _ c.put.ensures
    ∙ ap (λ a. map.insert m c.args.task.now (seen c.self.inside.woken (record { absence = a; last = c.in-Some.kept.last }))) once
    ∙ ap (map.insert m c.args.task.now) (seen_once c.self.inside.woken c.in-Some.kept)
    ∙ ap (λ o. put_notified m c.args.task.now (option_map (seen c.self.inside.woken) o)) (sym c.in-Some.is ∙ c.find.ensures)
    ∙ ap (put_notified m c.args.task.now) (sym (get_seen c.self.inside.woken c.self.inside.tasks.entries c.args.task.now))
    ∙ ap (λ w. with_notified w.state c.args.task.now) c.self.view_is

pub returns-in_default : goal.returns-in_default
returns-in_default c =
    let s = c.args.self.now.state in
    let none = sym (get_seen c.self.inside.woken c.self.inside.tasks.entries c.args.task.now ∙ ap (option_map (seen c.self.inside.woken)) (sym c.find.ensures ∙ c.in_default.is)) ∙ ap (λ w. map.get w.state c.args.task.now) c.self.view_is in
    ap (put_notified s c.args.task.now) none
