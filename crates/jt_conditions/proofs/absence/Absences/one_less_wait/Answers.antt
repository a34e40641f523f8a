-- The task with one wait less.
use Rattle.std.proofs.Common.{◌≡◌, false, sym, ap, subst, ◌∙◌, arith}
use Rattle.std.specs.Prelude.{Some, None, nat_le, if◌then◌else◌, option_map, IfSome}
use Rattle.std.specs.FinMap as map
use Rattle.std.proofs.lemmas.Bool.Decides.{nat_tests}
use Rattle.jt_conditions.specs.Absences.{seen, away, Numbered}
use Rattle.jt_conditions.specs.Conditions.{one_less_wait}
use Rattle.jt_conditions.proofs.Keys.{all_inserted}
use Rattle.jt_conditions.proofs.Seen.{get_seen, seen_put, seen_waits, less, seen_less}
use Rattle.jt_conditions.proofs.absence.Absences.one_less_wait.Goals as goal
use Rattle.jt_conditions.proofs.absence.Absences.one_less_wait.Goals.{After-put}

is_seen : (c : After-put) → seen c.self.inside.woken c.in-Some.kept ≡ c.args.absence
is_seen c =
    let e : Some (seen c.self.inside.woken c.in-Some.kept) ≡ Some c.args.absence = ap (option_map (seen c.self.inside.woken)) (sym c.in-Some.is ∙ c.find.ensures) ∙ sym (get_seen c.self.inside.woken c.self.inside.tasks.entries c.args.task.now) ∙ ap (λ w. map.get w.state c.args.task.now) c.self.view_is ∙ c.requires.kept in
    cc

pub invariant_of-self : goal.invariant_of-self
invariant_of-self c =
    let made = c.self.inside.made in
    let kept : Numbered made c.in-Some.kept = subst (λ o. IfSome o (Numbered made)) (sym c.find.ensures ∙ c.in-Some.is) (c.self.invariant.1.1 c.args.task.now) in
    let waits = seen_waits c.self.inside.woken c.in-Some.kept in
    let seen = ap (λ a. a.waits) (is_seen c) in
    let few = kept.waits in
    (c.self.invariant.0, (c.self.invariant.1.0, all_inserted (Numbered made) c.self.inside.tasks.entries c.put.new.tasks.entries c.args.task.now _ c.put.ensures c.self.invariant.1.1 (record { last = kept.last; waits = omega (arith, waits, seen, few) })))

pub returns-in-Some : goal.returns-in-Some
returns-in-Some c =
    let m = away c.self.inside.woken c.self.inside.tasks.entries in
    let more : nat_le c.args.absence.waits 1 ≡ false = let h = c.if-absence-le1.false in grind (arith, nat_tests) in
    seen_put c.self.inside.woken c.self.inside.tasks.entries c.put.new.tasks.entries c.args.task.now _ c.put.ensures
    ∙ ap (λ a. map.insert m c.args.task.now (seen c.self.inside.woken (record { absence = less a; last = c.in-Some.kept.last }))) (sym (is_seen c))
    ∙ ap (map.insert m c.args.task.now) (seen_less c.self.inside.woken c.in-Some.kept)
    ∙ ap (λ a. map.insert m c.args.task.now (less a)) (is_seen c)
    ∙ ap (λ b. if b then map.remove m c.args.task.now else map.insert m c.args.task.now (less c.args.absence)) (sym more)
    ∙ ap (λ w. one_less_wait w.state c.args.task.now c.args.absence) c.self.view_is

pub returns-in_default : goal.returns-in_default
returns-in_default c =
    absurd (let clash : None ≡ Some c.args.absence = ap (option_map (seen c.self.inside.woken)) (sym c.in_default.is ∙ c.find.ensures) ∙ sym (get_seen c.self.inside.woken c.self.inside.tasks.entries c.args.task.now) ∙ ap (λ w. map.get w.state c.args.task.now) c.self.view_is ∙ c.requires.kept in cc)
