use Rattle.std.proofs.Common.{map, ap, subst, ◌∙◌}
use Rattle.jt_histories.specs.Fronts.{first_stamp, IsFirst}
use Rattle.jt_histories.proofs.FrontSteps.{none_left, stamp_put, take_first}
use Rattle.jt_histories.proofs.fronts.Fronts.take.Goals as goal

pub returns-in_default : goal.returns-in_default
returns-in_default c = none_left c.args.self.now c.deref.result.now (c.deref.ensures.value ∙ c.self.invariant ∙ ap (map first_stamp) c.self.view_is) c.in_default.ensures

pub invariant_of-self : goal.invariant_of-self
invariant_of-self c =
    let here = subst (λ stamps. IsFirst stamps c.in-Some.at) c.deref.ensures.value c.in-Some.ensures in
    stamp_put c.self.inside.logs.items c.self.inside.stamps.items c.self.invariant c.in-Some.at here c.take_first-entry.new.log
    c.index.result.now c.index.ensures c.stamp_of_first.result c.stamp_of_first.ensures

pub returns : goal.returns
returns c =
    let here = subst (λ stamps. IsFirst stamps c.in-Some.at) c.deref.ensures.value c.in-Some.ensures in
    take_first c.self.inside.logs.items c.self.inside.stamps.items c.self.invariant c.in-Some.at here c.index_mut.result.now c.index_mut.ensures.value
    c.take_first-entry.result c.take_first-entry.ensures.first c.take_first-entry.new.log c.take_first-entry.ensures.rest c.args.self.now c.self.view_is
