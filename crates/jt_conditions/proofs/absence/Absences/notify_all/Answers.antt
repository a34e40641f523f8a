-- Every wait is at most the last that was made.
use Rattle.std.proofs.Common.{ap, ◌∙◌}
use Rattle.jt_conditions.specs.Conditions.{all_notified}
use Rattle.jt_conditions.proofs.Seen.{seen_notified}
use Rattle.jt_conditions.proofs.absence.Absences.notify_all.Goals as goal

pub returns : goal.returns
returns c =
    seen_notified c.self.inside.woken c.self.inside.made c.self.inside.tasks.entries c.self.invariant.1.1 ∙ ap (λ w. all_notified w.state) c.self.view_is
