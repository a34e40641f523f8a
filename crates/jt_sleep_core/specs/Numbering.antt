-- How workers, seats and queues are numbered, and which queue serves whom.
use Rattle.std.specs.Prelude.{ℕ, ◌+◌, ◌*◌, ◌<◌, ◌≤◌, ◌==◌, Bool, List, filter, nat_lt, nat_le, if◌then◌else◌}
use Rattle.std.specs.List.{range_with_len}
use Rattle.jt_base.specs.declared.run.Sizes.{Sizes}

-- how many workers there are: first those of the default pool, then those of the interactive pool
abbrev pub workers : Sizes → ℕ
workers sizes = sizes.default + sizes.interactive

abbrev pub IsWorker : Sizes → ℕ → Type 0
IsWorker sizes worker = worker < workers sizes

-- a worker's seat has the worker's number, and the last seat is the caller's
abbrev pub IsSeat : Sizes → ℕ → Type 0
IsSeat sizes seat = seat ≤ workers sizes

-- how many heaps there are, two for each worker: first those of the default pool, then those of the interactive pool
abbrev pub heaps : Sizes → ℕ
heaps sizes = 2 * workers sizes

-- after the heaps, each worker's line
abbrev pub line_of : Sizes → ℕ → ℕ
line_of sizes worker = heaps sizes + worker

-- the last queue is the stop queue
abbrev pub stop_queue : Sizes → ℕ
stop_queue sizes = 3 * workers sizes

abbrev pub IsQueue : Sizes → ℕ → Type 0
IsQueue sizes queue = queue ≤ stop_queue sizes

-- a heap serves the workers of its pool, a line its own worker, and the stop queue every worker
abbrev pub serves : Sizes → ℕ → ℕ → Bool
serves sizes queue worker =
    if nat_lt queue (2 * sizes.default) then nat_lt worker sizes.default
    else if nat_lt queue (heaps sizes) then nat_le sizes.default worker
    else if nat_lt queue (stop_queue sizes) then queue == line_of sizes worker
    else queue == stop_queue sizes

-- the workers that a queue serves, in order
abbrev pub served : Sizes → ℕ → List ℕ
served sizes queue = filter (λ worker. serves sizes queue worker) (range_with_len 0 (workers sizes))

-- the queues that serve a worker, in order
abbrev pub own_queues : Sizes → ℕ → List ℕ
own_queues sizes worker = filter (λ queue. serves sizes queue worker) (range_with_len 0 (stop_queue sizes + 1))
