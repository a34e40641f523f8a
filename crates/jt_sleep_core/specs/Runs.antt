-- Lists of steps from the opening.
use Rattle.std.specs.Prelude.{◌≡◌, ◌+◌, false, List, [], ◌∷◌, replicate}
use Rattle.jt_base.specs.declared.run.Sizes.{Sizes}
use Rattle.jt_sleep_core.specs.declared.place.Place.TheVariants.{Free}
use Rattle.jt_sleep_core.specs.declared.step.Step.{Step}
use Rattle.jt_sleep_core.specs.Numbering.{workers, stop_queue}
use Rattle.jt_sleep_core.specs.State.{SleepState}
use Rattle.jt_sleep_core.specs.Steps.{IsAllowed, step_of}

-- all words are 0, and every seat is free
abbrev pub opening : Sizes → SleepState
opening sizes =
    record {
      sizes = sizes;
      counts = replicate (stop_queue sizes + 1) 0;
      sleeps = replicate (workers sizes) false;
      tokens = replicate (workers sizes) false;
      places = replicate (workers sizes + 1) Free;
    }

-- the steps lead from one state to the other, and each is allowed where it is made
abbrev pub Leads : List Step → SleepState → SleepState → Type 0
Leads [] old new = new ≡ old
Leads (step ∷ steps) old new = IsAllowed old step × Leads steps (step_of old step).state new
