-- What the map has after the removal.
use Rattle.std.proofs.Common.{ap, ◌∙◌}
use Rattle.std.specs.FinMap as map
use Rattle.jt_conditions.specs.Absences.{Numbered}
use Rattle.jt_conditions.proofs.Keys.{all_removed}
use Rattle.jt_conditions.proofs.Seen.{seen_removed, seen_none}
use Rattle.jt_conditions.proofs.absence.Absences.remove.Goals as goal

pub invariant_of-self-else-is_empty : goal.invariant_of-self-else-is_empty
invariant_of-self-else-is_empty c =
    (c.self.invariant.0, (c.self.invariant.1.0, all_removed (Numbered c.self.inside.made) c.self.inside.tasks.entries c.swap_remove.new.self.entries c.args.task.now c.swap_remove.ensures.updates.0 c.self.invariant.1.1))

pub returns-then-is_empty : goal.returns-then-is_empty
returns-then-is_empty c =
    let none = c.is_empty.ensures.0 c.if-is_empty.true in
    ap map.from_entries (seen_none 0 c.self.inside.woken c.swap_remove.new.self.entries none)
    ∙ seen_removed c.self.inside.woken c.self.inside.tasks.entries c.swap_remove.new.self.entries c.args.task.now c.swap_remove.ensures.updates.0
    ∙ ap (λ w. map.remove w.state c.args.task.now) c.self.view_is

pub returns-else-is_empty : goal.returns-else-is_empty
returns-else-is_empty c =
    seen_removed c.self.inside.woken c.self.inside.tasks.entries c.swap_remove.new.self.entries c.args.task.now c.swap_remove.ensures.updates.0
    ∙ ap (λ w. map.remove w.state c.args.task.now) c.self.view_is
