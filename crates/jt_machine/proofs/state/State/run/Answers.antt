-- Slice by slice.
use Rattle.std.proofs.Common.{rules}
use Rattle.std.proofs.lemmas.Option.{MatchOption-at_none}
use Rattle.jt_machine.proofs.Falling.{picked_now, work_now, grows_through}
use Rattle.jt_machine.proofs.Deadlocked.{deadlocked}
use Rattle.jt_machine.proofs.state.State.run.Goals as goal

pub slice-requires-clause-runs : goal.slice-requires-clause-runs
slice-requires-clause-runs c = picked_now _ _ _ _ _ _ c.in-Some.ensures.ready _ (search rules) c.slices.invariant.0

pub slices-preserved : goal.slices-preserved
slices-preserved c = let l = MatchOption-at_none _ _ c.in_default-2.is c.in_ok-end.ensures in (l.runs, l.settled, grows_through _ _ _ _ _ _ c.slices.invariant.2 (search rules) l.grows)

pub slices-smaller : goal.slices-smaller
slices-smaller c = work_now _ _ _ _ _ _ c.in-Some.ensures.ready _ (search rules) _ _ (MatchOption-at_none _ _ c.in_default-2.is c.in_ok-end.ensures)

pub returns-in_default-clause-ended : goal.returns-in_default-clause-ended
returns-in_default-clause-ended c = deadlocked _ _ _ _ _ (search rules) c.in_default.ensures.ready.0 c.slices.invariant.0 c.slices.invariant.1

pub returns-in_default-clause-grows : goal.returns-in_default-clause-grows
returns-in_default-clause-grows c = grows_through _ _ _ _ _ _ c.slices.invariant.2 (search rules) (λ l g. g)
