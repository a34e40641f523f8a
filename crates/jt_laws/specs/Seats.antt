-- Seats by the entry that makes a task and by its own entries.
use Rattle.std.specs.Prelude.{ℕ, ◌+◌, List, [], ◌∷◌, Option, Some, None, Bool, true, ◌&&◌, not, cond, nat_eq, nat_lt}
use Rattle.jt_base.specs.declared.operation.How.{How}
use Rattle.jt_base.specs.declared.operation.How.TheVariants.{Default, Interactive, Async, Chunk}
use Rattle.jt_base.specs.declared.operation.Op.{Op}
use Rattle.jt_base.specs.declared.operation.Op.TheVariants.{Spawn}
use Rattle.jt_base.specs.declared.run.Pool.{Pool}
use Rattle.jt_base.specs.declared.run.Pool.TheVariants as pool
use Rattle.jt_base.specs.declared.run.Sizes.{Sizes}
use Rattle.jt_base.specs.declared.entry.Entry.{Entry}
use Rattle.jt_base.specs.Jobs.{Seat}

-- the default workers have the first numbers, the interactive ones the next
abbrev pub pool_of_worker : Sizes → ℕ → Pool
pool_of_worker sizes worker = cond (nat_lt worker sizes.default) pool.Default pool.Interactive

-- an interactive pool of size 0 sends its tasks to the default pool
abbrev pub interactive_pool : Sizes → Pool
interactive_pool sizes = cond (nat_eq sizes.interactive 0) pool.Default pool.Interactive

-- the seat of a task that is made in this way by a spawn on this worker
abbrev pub seat_made : Sizes → How → ℕ → Seat
seat_made sizes Default worker = record { pool = pool.Default; bound = None }
seat_made sizes Interactive worker = record { pool = interactive_pool sizes; bound = None }
seat_made sizes Async worker = record { pool = pool_of_worker sizes worker; bound = Some worker }
seat_made sizes (Chunk k) worker = record { pool = pool.Default; bound = Some k }

-- main is bound to worker 0
abbrev pub main_seat : Seat
main_seat = record { pool = pool.Default; bound = Some 0 }

abbrev pub seat_by : Sizes → Op → ℕ → Seat
seat_by sizes (Spawn path how) worker = seat_made sizes how worker
seat_by sizes op worker = main_seat

-- the seat at a task's beginning: by the entry that made it, none for main
abbrev pub first_seat : Sizes → Option Entry → Seat
first_seat sizes None = main_seat
first_seat sizes (Some e) = seat_by sizes e.op e.worker

-- a spawn by `@async` binds its maker too
abbrev pub bound_by : How → Seat → ℕ → Seat
bound_by Async seat worker = record { pool = seat.pool; bound = Some worker }
bound_by Default seat worker = seat
bound_by Interactive seat worker = seat
bound_by (Chunk k) seat worker = seat

-- a task's seat after one more entry of it
abbrev pub seat_after : Seat → Op → ℕ → Seat
seat_after seat (Spawn path how) worker = bound_by how seat worker
seat_after seat op worker = seat

abbrev pub seat_from : Seat → List Entry → Seat
seat_from seat [] = seat
seat_from seat (e ∷ es) = seat_from (seat_after seat e.op e.worker) es

-- a task's seat: by the entry that made it, and its own entries
abbrev pub seat_of : Sizes → Option Entry → List Entry → Seat
seat_of sizes maker own = seat_from (first_seat sizes maker) own

abbrev pub in_pool : Sizes → Pool → ℕ → Bool
in_pool sizes pool.Default worker = nat_lt worker sizes.default
in_pool sizes pool.Interactive worker = not (nat_lt worker sizes.default) && nat_lt worker (sizes.default + sizes.interactive)

abbrev pub is_bound_worker : Option ℕ → ℕ → Bool
is_bound_worker None worker = true
is_bound_worker (Some k) worker = nat_eq worker k

-- whether a worker may make an entry of a task with this seat
abbrev pub may_work : Sizes → Seat → ℕ → Bool
may_work sizes seat worker = in_pool sizes seat.pool worker && is_bound_worker seat.bound worker
