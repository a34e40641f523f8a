-- The words that the seats share, and each seat's place.
use Rattle.std.specs.Prelude.{◌≡◌, ◌≢◌, ℕ, ◌+◌, Bool, false, List, length, Contains, slice_index, slice_index_or}
use Rattle.jt_base.specs.declared.run.Sizes.{Sizes}
use Rattle.jt_sleep_core.specs.Limits.{AreSizes}
use Rattle.jt_sleep_core.specs.Numbering.{workers, stop_queue}
use Rattle.jt_sleep_core.specs.declared.place.Place.{Place}
use Rattle.jt_sleep_core.specs.declared.place.Place.TheVariants.{Free, Passing, Posting, Declared, Past}

pub record SleepState : Type 0 where
  pub sizes : Sizes
  pub counts : List ℕ  -- of each queue. The stop queue's count is the stop word
  pub sleeps : List Bool  -- of each worker: whether its sleep word is 1
  pub tokens : List Bool  -- of each worker: whether its token word is 1
  pub places : List Place  -- of each seat

abbrev pub count_at : SleepState → ℕ → ℕ
count_at s queue = slice_index s.counts queue

abbrev pub sleep_at : SleepState → ℕ → Bool
sleep_at s worker = slice_index_or s.sleeps worker false

abbrev pub token_at : SleepState → ℕ → Bool
token_at s worker = slice_index_or s.tokens worker false

-- beyond the seats every place is Free
abbrev pub place_at : SleepState → ℕ → Place
place_at s seat = slice_index_or s.places seat Free

-- as many words and places as the sizes say
pub record IsSized (s : SleepState) : Type 0 where
  pub sizes : AreSizes s.sizes
  pub counts : length s.counts ≡ stop_queue s.sizes + 1
  pub sleeps : length s.sleeps ≡ workers s.sizes
  pub tokens : length s.tokens ≡ workers s.sizes
  pub places : length s.places ≡ workers s.sizes + 1

-- a pass for the queue that has the worker to look at: one whose token is about to be set isn't looked at any more
abbrev pub HasToLook : ℕ → ℕ → Place → Type 0
HasToLook queue worker (Passing for_queue left seen) = (for_queue ≡ queue) × Contains left worker
HasToLook queue worker (Posting for_queue left woken) = (for_queue ≡ queue) × Contains left worker × (woken ≢ worker)
HasToLook queue worker place = ⊥

-- the worker's token is about to be set
abbrev pub IsPostingTo : ℕ → Place → Type 0
IsPostingTo worker (Posting for_queue left woken) = woken ≡ worker
IsPostingTo worker place = ⊥

-- the sleep word was set, and each queue is still to check or was found empty
abbrev pub IsResting : Place → Type 0
IsResting (Declared left) = Unit {0}
IsResting Past = Unit {0}
IsResting place = ⊥

-- at rest, with this queue found empty if it is an own one
abbrev pub HasChecked : ℕ → Place → Type 0
HasChecked queue (Declared left) = Contains left queue → ⊥
HasChecked queue Past = Unit {0}
HasChecked queue place = ⊥
