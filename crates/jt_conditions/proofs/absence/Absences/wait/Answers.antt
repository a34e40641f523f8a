-- The task with one wait more, the newest.
use Rattle.std.proofs.Common.{◌<◌, ◌≤◌, ◌+◌, ◌-◌, sym, ap, subst, ◌∙◌, arith}
use Rattle.std.specs.FinMap as map
use Rattle.jt_conditions.specs.Absences.{away, Numbered}
use Rattle.jt_conditions.specs.Conditions.{one_more_wait}
use Rattle.jt_conditions.proofs.Keys.{all_inserted}
use Rattle.jt_conditions.proofs.Seen.{seen_put, seen_later, waits_within, numbered_more, room_for}
use Rattle.jt_conditions.proofs.absence.Absences.wait.Goals as goal

pub one_more_wait-absence-requires : goal.one_more_wait-absence-requires
one_more_wait-absence-requires c =
    let few = waits_within c.self.inside.woken c.self.inside.made c.args.level c.self.inside.tasks.entries c.args.task.now c.args.self.now.state c.get.result c.self.invariant.1.1 (ap (λ w. w.state) c.self.view_is) c.get.ensures in
    let made : c.self.inside.made ≤ 4294967296 = c.self.invariant.1.0 in
    omega (arith, few, made)

pub invariant_of-self : goal.invariant_of-self
invariant_of-self c =
    let made = c.self.inside.made in
    let woken : c.self.inside.woken ≤ made = c.self.invariant.0 in
    let room : 0 < 4294967296 - made = room_for _ _ (subst (λ w. 0 < w.room) (sym c.self.view_is) c.requires) in
    let few : c.one_more_wait-absence.result.waits ≤ made + 1 = subst (λ a. a.waits ≤ made + 1) (sym c.one_more_wait-absence.ensures) (waits_within c.self.inside.woken c.self.inside.made c.args.level c.self.inside.tasks.entries c.args.task.now c.args.self.now.state c.get.result c.self.invariant.1.1 (ap (λ w. w.state) c.self.view_is) c.get.ensures) in
    (omega (arith, woken), (omega (arith, room), all_inserted (Numbered (made + 1)) c.self.inside.tasks.entries c.put.new.tasks.entries c.args.task.now _ c.put.ensures (λ q. numbered_more made _ (c.self.invariant.1.1 q)) (record { last = omega arith; waits = few })))

pub returns : goal.returns
returns c =
    let m = away c.self.inside.woken c.self.inside.tasks.entries in
    let woken : c.self.inside.woken ≤ c.self.inside.made = c.self.invariant.0 in
    seen_put c.self.inside.woken c.self.inside.tasks.entries c.put.new.tasks.entries c.args.task.now _ c.put.ensures
    ∙ ap (map.insert m c.args.task.now) (seen_later c.self.inside.woken _ (omega (arith, woken)) ∙ c.one_more_wait-absence.ensures ∙ ap (λ o. one_more_wait o c.args.level) c.get.ensures)
    ∙ ap (λ s. map.insert s c.args.task.now (one_more_wait (map.get c.args.self.now.state c.args.task.now) c.args.level)) (ap (λ w. w.state) c.self.view_is)
