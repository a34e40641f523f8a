use Rattle.jt_histories.proofs.FrontSteps.{LeastOf}
use Rattle.jt_histories.proofs.fronts.earliest.Given as goal

-- the smallest so far
abbrev pub invariant-loop-at : goal.invariant-loop-at
invariant-loop-at l = LeastOf l.stamps l.at l.earliest
