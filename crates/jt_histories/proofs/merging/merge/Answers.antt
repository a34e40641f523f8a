use Rattle.std.proofs.Common.{map, subst, sym}
use Rattle.jt_histories.specs.Fronts.{IsOnlyFilled}
use Rattle.jt_histories.specs.Merges.{IsMerge, items_of}
use Rattle.jt_histories.proofs.Taking.{IsMergedBefore, take_one, end_merge, one_fewer, only_is_merge}
use Rattle.jt_histories.proofs.FrontSteps.{log_read}
use Rattle.jt_histories.proofs.merging.merge.Goals as goal

pub returns-in-Some : goal.returns-in-Some
returns-in-Some c =
    let only = subst (λ logs. IsOnlyFilled (map items_of logs) c.in-Some.k) c.deref.ensures.value c.in-Some.ensures in
    subst (IsMerge (map items_of c.args.logs.items)) (log_read c.args.logs.items c.in-Some.k only c.swap_remove.result c.swap_remove.ensures.value)
    (only_is_merge (map items_of c.args.logs.items) c.in-Some.k c.requires only)

pub loop-entry-smaller : goal.loop-entry-smaller
loop-entry-smaller c = one_fewer c.loop-entry.fronts c.in-Some-take.entry c.take.new.self c.in-Some-take.ensures

pub loop-entry-preserved : goal.loop-entry-preserved
loop-entry-preserved c =
    subst (IsMergedBefore (map items_of c.args.logs.items) c.take.new.self) (sym c.in_ok-push.ensures.items)
    (take_one (map items_of c.args.logs.items) c.loop-entry.fronts c.loop-entry.history.items c.in-Some-take.entry c.take.new.self c.loop-entry.invariant c.in-Some-take.ensures)

pub returns : goal.returns
returns c = end_merge (map items_of c.args.logs.items) c.loop-entry.fronts c.loop-entry.history.items c.loop-entry.invariant c.in_default-take.ensures
