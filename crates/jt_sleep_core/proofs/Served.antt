-- A queue serves exactly the workers whose own queue it is.
use Rattle.std.proofs.Common.{ℕ, ◌+◌, arith}
use Rattle.std.specs.List.{Contains}
use Rattle.jt_base.specs.declared.run.Sizes.{Sizes}
use Rattle.jt_sleep_core.specs.Numbering.{workers, stop_queue, IsWorker, IsQueue, serves, served, own_queues}
use Rattle.jt_sleep_core.proofs.Members.{Contains-filter, filter-Contains, Contains-range, range-Contains}

pub served-own : (sizes : Sizes) (queue worker : ℕ) → IsWorker sizes worker → Contains (own_queues sizes worker) queue → Contains (served sizes queue) worker
served-own sizes queue worker known own =
    let kept = filter-Contains (λ q. serves sizes q worker) _ queue own in
    Contains-filter (λ w. serves sizes queue w) _ worker kept.1 (Contains-range 0 (workers sizes) worker (omega arith) (omega arith))

pub own-served : (sizes : Sizes) (queue worker : ℕ) → IsQueue sizes queue → Contains (served sizes queue) worker → IsWorker sizes worker × Contains (own_queues sizes worker) queue
own-served sizes queue worker known served =
    let kept = filter-Contains (λ w. serves sizes queue w) _ worker served in (
      (let r = range-Contains 0 (workers sizes) worker kept.0 in omega arith),
      Contains-filter (λ q. serves sizes q worker) _ queue kept.1 (Contains-range 0 (stop_queue sizes + 1) queue (omega arith) (omega arith)),
    )
