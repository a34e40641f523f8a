-- Step by step.
use Rattle.jt_machine.proofs.Falling.{progress_at, slice_begins, slice_goes_on, slice_is_over, slice_smaller}
use Rattle.jt_machine.proofs.state.State.slice.Goals as goal

pub progress-init : goal.progress-init
progress-init c = slice_begins _ _ _ _ _ c.requires.runs c.requires.settled

pub progress-preserved : goal.progress-preserved
progress-preserved c = slice_goes_on _ _ _ _ _ _ _ _ c.progress.invariant _ _ _ (progress_at _ _ _ _ _ _ _ _ _ c.in-GoesOn.is c.in_ok-same.ensures)

pub progress-smaller : goal.progress-smaller
progress-smaller c = slice_smaller _ _ _ _ _ (progress_at _ _ _ _ _ _ _ _ _ c.in-GoesOn.is c.in_ok-same.ensures).1

pub returns-in-Left : goal.returns-in-Left
returns-in-Left c = slice_is_over _ _ _ _ _ _ _ _ c.progress.invariant _ _ (progress_at _ _ _ _ _ _ _ _ _ c.in-Left.is c.in_ok-same.ensures)
