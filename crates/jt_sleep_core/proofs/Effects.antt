-- What a step leaves to whom.
use Rattle.std.proofs.Common.{refl, arith}
use Rattle.jt_sleep_core.specs.declared.step.Step.{Step}
use Rattle.jt_sleep_core.specs.declared.step.Step.TheVariants.{Raise, Lower, Look, Wake, Post, Declare, Check, TakeToken, Retreat, SelfPost}
use Rattle.jt_sleep_core.specs.Numbering.{IsSeat, IsWorker}
use Rattle.jt_sleep_core.specs.State.{SleepState, place_at, IsSized}
use Rattle.jt_sleep_core.specs.Steps.{IsInRange, seat_of, found_by, place_after, step_of}
use Rattle.jt_sleep_core.proofs.Turn.{Moves}
use Rattle.jt_sleep_core.proofs.Places.{moves}

-- who makes a step has a seat
pub seat_in_range : (s : SleepState) (step : Step) → IsInRange s.sizes step → IsSeat s.sizes (seat_of step)
seat_in_range s (Raise seat queue) h = h.0
seat_in_range s (Lower seat queue) h = h.0
seat_in_range s (Look seat worker) h = h.0
seat_in_range s (Wake seat worker) h = h.0
seat_in_range s (Post seat worker) h = h.0
seat_in_range s (Declare worker) h = omega arith
seat_in_range s (Check worker queue) h = let there : IsWorker s.sizes worker = h.0 in omega arith
seat_in_range s (TakeToken worker) h = omega arith
seat_in_range s (Retreat worker) h = omega arith
seat_in_range s (SelfPost worker) h = omega arith

-- the step moves its own seat, by its place and the word that it found, and no other seat
pub step_moves : (s : SleepState) (step : Step) → IsSized s → IsInRange s.sizes step
    → Moves s (step_of s step).state (seat_of step) (place_at s (seat_of step)) (place_after s.sizes step (found_by s step) (place_at s (seat_of step)))
step_moves s (Raise seat queue) sized h = moves s _ _ _ seat _ _ sized h.0 refl
step_moves s (Lower seat queue) sized h = moves s _ _ _ seat _ _ sized h.0 refl
step_moves s (Look seat worker) sized h = moves s _ _ _ seat _ _ sized h.0 refl
step_moves s (Wake seat worker) sized h = moves s _ _ _ seat _ _ sized h.0 refl
step_moves s (Post seat worker) sized h = moves s _ _ _ seat _ _ sized h.0 refl
step_moves s (Declare worker) sized h = moves s _ _ _ worker _ _ sized (seat_in_range s (Declare worker) h) refl
step_moves s (Check worker queue) sized h = moves s _ _ _ worker _ _ sized (seat_in_range s (Check worker queue) h) refl
step_moves s (TakeToken worker) sized h = moves s _ _ _ worker _ _ sized (seat_in_range s (TakeToken worker) h) refl
step_moves s (Retreat worker) sized h = moves s _ _ _ worker _ _ sized (seat_in_range s (Retreat worker) h) refl
step_moves s (SelfPost worker) sized h = moves s _ _ _ worker _ _ sized (seat_in_range s (SelfPost worker) h) refl
