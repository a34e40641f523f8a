-- What holds of every state that allowed steps reach: no wake-up is lost.
use Rattle.std.specs.Prelude.{◌≡◌, ◌≢◌, ℕ, ◌⊎◌, true, false, Contains}
use Rattle.jt_sleep_core.specs.declared.place.Place.{Place}
use Rattle.jt_sleep_core.specs.declared.place.Place.TheVariants.{Found, Past}
use Rattle.jt_sleep_core.specs.Numbering.{IsWorker, served, own_queues}
use Rattle.jt_sleep_core.specs.State.{SleepState, count_at, sleep_at, token_at, place_at, HasToLook, IsPostingTo, IsResting, HasChecked}

-- some pass for the queue has the worker to look at
abbrev pub IsAwaited : SleepState → ℕ → ℕ → Type 0
IsAwaited s queue worker = (seat : ℕ) × HasToLook queue worker (place_at s seat)

-- some seat is about to set the worker's token
abbrev pub IsPosted : SleepState → ℕ → Type 0
IsPosted s worker = (seat : ℕ) × IsPostingTo worker (place_at s seat)

-- at rest, or about to clear the sleep word again
abbrev pub HasDeclared : Place → Type 0
HasDeclared Found = Unit {0}
HasDeclared place = IsResting place

-- the sleep invariant
pub record IsSleepSound (s : SleepState) : Type 0 where
  -- a sleep word that is 1 was set by a worker that hasn't retreated
  pub declared : (worker : ℕ) → IsWorker s.sizes worker → sleep_at s worker ≡ true → HasDeclared (place_at s worker)
  -- who may sleep beside a queue that isn't empty is looked at
  pub looked_at : (worker queue : ℕ) → IsWorker s.sizes worker → sleep_at s worker ≡ true → Contains (own_queues s.sizes worker) queue
      → HasChecked queue (place_at s worker) → count_at s queue ≢ 0 → IsAwaited s queue worker
  -- who rests and was woken has a token, or gets one
  pub posted : (worker : ℕ) → IsWorker s.sizes worker → IsResting (place_at s worker) → sleep_at s worker ≡ false
      → (token_at s worker ≡ true) ⊎ IsPosted s worker

-- the worker sleeps
abbrev pub Sleeps : SleepState → ℕ → Type 0
Sleeps s worker = (sleep_at s worker ≡ true) × (place_at s worker ≡ Past)

-- where a queue isn't empty and no pass for it has a worker to look at, no worker that it serves sleeps
pub record NoLostWakeUp (s : SleepState) : Type 0 where
  pub no_sleeper : (queue worker : ℕ) → count_at s queue ≢ 0 → ((other : ℕ) → IsAwaited s queue other → ⊥)
      → Contains (served s.sizes queue) worker → Sleeps s worker → ⊥
