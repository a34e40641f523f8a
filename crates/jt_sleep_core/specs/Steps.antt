-- The steps of the protocol: when each is allowed, what it does and what it gives.
--
--   step         in place                             on the word                  then the seat is
--   Raise        Free                                 the count is one more        in a pass over all workers that the queue serves
--   Lower        Free                                 the count is one less        where it was
--   Look         in a pass, at the first worker left  the sleep word is read       0: done with the worker; 1: it saw it asleep
--   Wake         in a pass, saw the worker asleep     1 in the sleep word becomes 0   0: done with the worker; 1: posting to it
--   Post         posting to the worker                the token word becomes 1     done with the worker
--   Declare      Free                                 the own sleep word becomes 1 before the checks of all own queues
--   Check        before checks, at the first queue    the count is read            0: done with the queue; else Found
--   TakeToken    Past                                 the own token word becomes 0 0: where it was; 1: Found
--   Retreat      Found                                the own sleep word becomes 0 Free
--   SelfPost     Past                                 the own token word becomes 1 where it was
use Rattle.std.specs.Prelude.{◌≡◌, ℕ, ◌+◌, ◌-◌, ◌^◌, ◌<◌, ◌≤◌, ◌==◌, Bool, true, false, List, [], ◌∷◌, Some, None, slice_set, if◌then◌else◌}
use Rattle.jt_base.specs.declared.run.Sizes.{Sizes}
use Rattle.jt_sleep_core.specs.declared.place.Place.{Place}
use Rattle.jt_sleep_core.specs.declared.place.Place.TheVariants.{Free, Passing, Posting, Declared, Found, Past}
use Rattle.jt_sleep_core.specs.declared.step.Step.{Step}
use Rattle.jt_sleep_core.specs.declared.step.Step.TheVariants.{Raise, Lower, Look, Wake, Post, Declare, Check, TakeToken, Retreat, SelfPost}
use Rattle.jt_sleep_core.specs.Numbering.{heaps, line_of, stop_queue, IsWorker, IsSeat, IsQueue, served, own_queues}
use Rattle.jt_sleep_core.specs.State.{SleepState, count_at, sleep_at, token_at, place_at}

-- who makes the step
abbrev pub seat_of : Step → ℕ
seat_of (Raise seat queue) = seat
seat_of (Lower seat queue) = seat
seat_of (Look seat worker) = seat
seat_of (Wake seat worker) = seat
seat_of (Post seat worker) = seat
seat_of (Declare worker) = worker
seat_of (Check worker queue) = worker
seat_of (TakeToken worker) = worker
seat_of (Retreat worker) = worker
seat_of (SelfPost worker) = worker

-- ---- when a step is allowed

-- The numbers are in range. The caller's seat never sleeps, the stop word is never lowered,
-- and a line's count is lowered by its own worker alone.
abbrev pub IsInRange : Sizes → Step → Type 0
IsInRange sizes (Raise seat queue) = IsSeat sizes seat × IsQueue sizes queue
IsInRange sizes (Lower seat queue) = IsSeat sizes seat × (queue < stop_queue sizes) × (heaps sizes ≤ queue → queue ≡ line_of sizes seat)
IsInRange sizes (Look seat worker) = IsSeat sizes seat × IsWorker sizes worker
IsInRange sizes (Wake seat worker) = IsSeat sizes seat × IsWorker sizes worker
IsInRange sizes (Post seat worker) = IsSeat sizes seat × IsWorker sizes worker
IsInRange sizes (Declare worker) = IsWorker sizes worker
IsInRange sizes (Check worker queue) = IsWorker sizes worker × IsQueue sizes queue
IsInRange sizes (TakeToken worker) = IsWorker sizes worker
IsInRange sizes (Retreat worker) = IsWorker sizes worker
IsInRange sizes (SelfPost worker) = IsWorker sizes worker

-- the list begins with the number
abbrev pub BeginsWith : ℕ → List ℕ → Type 0
BeginsWith number [] = ⊥
BeginsWith number (first ∷ rest) = number ≡ first

-- the step may be made by a seat in this place
abbrev pub IsPermitted : Step → Place → Type 0
IsPermitted (Raise seat queue) Free = Unit {0}
IsPermitted (Lower seat queue) Free = Unit {0}
IsPermitted (Look seat worker) (Passing for_queue left None) = BeginsWith worker left
IsPermitted (Wake seat worker) (Passing for_queue left (Some seen)) = worker ≡ seen
IsPermitted (Post seat worker) (Posting for_queue left woken) = worker ≡ woken
IsPermitted (Declare worker) Free = Unit {0}
IsPermitted (Check worker queue) (Declared left) = BeginsWith queue left
IsPermitted (TakeToken worker) Past = Unit {0}
IsPermitted (Retreat worker) Found = Unit {0}
IsPermitted (SelfPost worker) Past = Unit {0}
IsPermitted step place = ⊥

-- a count stays below 2 ^ 32, and is never lowered below 0
abbrev pub CountPermits : SleepState → Step → Type 0
CountPermits s (Raise seat queue) = count_at s queue < 2 ^ 32 - 1
CountPermits s (Lower seat queue) = 0 < count_at s queue
CountPermits s step = Unit {0}

pub record IsAllowed (s : SleepState) (step : Step) : Type 0 where
  pub in_range : IsInRange s.sizes step
  pub place : IsPermitted step (place_at s (seat_of step))
  pub count : CountPermits s step

-- ---- what it gives and does

-- a word of one bit
abbrev pub word_of : Bool → ℕ
word_of bit = if bit then 1 else 0

-- the word that the step finds; a step that only stores gives 0
abbrev pub found_by : SleepState → Step → ℕ
found_by s (Raise seat queue) = count_at s queue
found_by s (Lower seat queue) = count_at s queue
found_by s (Look seat worker) = word_of (sleep_at s worker)
found_by s (Wake seat worker) = word_of (sleep_at s worker)
found_by s (Post seat worker) = 0
found_by s (Declare worker) = 0
found_by s (Check worker queue) = count_at s queue
found_by s (TakeToken worker) = word_of (token_at s worker)
found_by s (Retreat worker) = word_of (sleep_at s worker)
found_by s (SelfPost worker) = 0

-- a queue's count, once it was raised. The stop word is 1 from then on
abbrev pub raised : SleepState → ℕ → ℕ
raised s queue = if queue == stop_queue s.sizes then 1 else count_at s queue + 1

-- the words after the step
abbrev pub written : SleepState → Step → SleepState
written s (Raise seat queue) = record s { counts = slice_set s.counts queue (raised s queue) }
written s (Lower seat queue) = record s { counts = slice_set s.counts queue (count_at s queue - 1) }
written s (Look seat worker) = s
written s (Wake seat worker) = record s { sleeps = slice_set s.sleeps worker false }
written s (Post seat worker) = record s { tokens = slice_set s.tokens worker true }
written s (Declare worker) = record s { sleeps = slice_set s.sleeps worker true }
written s (Check worker queue) = s
written s (TakeToken worker) = record s { tokens = slice_set s.tokens worker false }
written s (Retreat worker) = record s { sleeps = slice_set s.sleeps worker false }
written s (SelfPost worker) = record s { tokens = slice_set s.tokens worker true }

-- a list without the first element that is this number
abbrev pub without : ℕ → List ℕ → List ℕ
without number [] = []
without number (first ∷ rest) = if first == number then rest else first ∷ without number rest

-- in a pass with these workers left. One with none left has ended
abbrev pub passing : ℕ → List ℕ → Place
passing queue [] = Free
passing queue (first ∷ left) = Passing queue (first ∷ left) None

-- before the checks of these queues, or past them all
abbrev pub declared : List ℕ → Place
declared [] = Past
declared (first ∷ left) = Declared (first ∷ left)

-- a look at a worker that is awake is done with it, and one at a worker that is asleep has seen it
abbrev pub looked : ℕ → ℕ → Place → Place
looked worker found (Passing queue left seen) = if found == 0 then passing queue (without worker left) else Passing queue left (Some worker)
looked worker found place = place

-- who woke a worker posts to it next, and who came too late is done with it
abbrev pub woken : ℕ → ℕ → Place → Place
woken worker found (Passing queue left seen) = if found == 0 then passing queue (without worker left) else Posting queue left worker
woken worker found place = place

-- who posted to a worker is done with it
abbrev pub posted : ℕ → Place → Place
posted worker (Posting queue left other) = passing queue (without worker left)
posted worker place = place

-- a check of an empty queue is done with it
abbrev pub checked : ℕ → ℕ → Place → Place
checked queue found (Declared left) = if found == 0 then declared (without queue left) else Found
checked queue found place = place

-- The place of the step's seat after it found this word. It depends on the place before and on the word alone.
abbrev pub place_after : Sizes → Step → ℕ → Place → Place
place_after sizes (Raise seat queue) found place = passing queue (served sizes queue)
place_after sizes (Lower seat queue) found place = place
place_after sizes (Look seat worker) found place = looked worker found place
place_after sizes (Wake seat worker) found place = woken worker found place
place_after sizes (Post seat worker) found place = posted worker place
place_after sizes (Declare worker) found place = Declared (own_queues sizes worker)
place_after sizes (Check worker queue) found place = checked queue found place
place_after sizes (TakeToken worker) found place = if found == 0 then place else Found
place_after sizes (Retreat worker) found place = Free
place_after sizes (SelfPost worker) found place = place

pub record Effect : Type 0 where
  pub state : SleepState
  pub gives : ℕ

-- one word and the seat's own place change, and nothing else
abbrev pub step_of : SleepState → Step → Effect
step_of s step =
    let after = written s step in
    let place = place_after s.sizes step (found_by s step) (place_at s (seat_of step)) in
    record { state = record after { places = slice_set after.places (seat_of step) place }; gives = found_by s step }
