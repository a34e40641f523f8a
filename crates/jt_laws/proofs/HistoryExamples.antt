-- Worked examples of what is read from a history, computed.
use Rattle.std.proofs.Common.{◌≡◌, ℕ, List, [], ◌∷◌, Some, None, true, false, refl}
use Rattle.jt_base.specs.declared.entry.Entry.{Entry}
use Rattle.jt_base.specs.declared.operation.How.TheVariants as how
use Rattle.jt_base.specs.declared.operation.Op.{Op}
use Rattle.jt_base.specs.declared.operation.Op.TheVariants.{Begin, End, Spawn, Print}
use Rattle.jt_base.specs.declared.operation.Reply.TheVariants as reply
use Rattle.jt_base.specs.declared.value.Value.TheVariants.{Nothing}
use Rattle.jt_laws.specs.Histories.{stamp_after}
use Rattle.jt_laws.specs.Lines.{main_end, cut_at_main_end, lines_of}
use Rattle.jt_laws.specs.Seats.{seat_of, may_work}

entry : ℕ → ℕ → List ℕ → Op → Entry
entry stamp worker task op = record { stamp = stamp; worker = worker; task = task; op = op; reply = reply.Ok }

-- main makes the task 0 and prints "1"; that task prints "2", and goes on after main's end
history : List Entry
unfolding entry
history =
    entry 1 0 [] Begin ∷ entry 2 0 [] (Spawn (0 ∷ []) how.Default) ∷ entry 3 0 [] (Print (49 ∷ [])) ∷ entry 3 0 (0 ∷ []) Begin
    ∷ entry 4 0 (0 ∷ []) (Print (50 ∷ [])) ∷ entry 4 0 [] (End Nothing) ∷ entry 5 0 (0 ∷ []) (End Nothing) ∷ []

-- each print's text and a newline, in the order of the history
printed : lines_of history ≡ 49 ∷ 10 ∷ 50 ∷ 10 ∷ []
unfolding history entry
printed = refl

ended : main_end history ≡ Some (End Nothing)
unfolding history entry
ended = refl

-- the end of another task doesn't end main
not_ended : main_end (entry 1 0 (0 ∷ []) (End Nothing) ∷ []) ≡ None
unfolding entry
not_ended = refl

-- what comes after main's end is cut off
cut : cut_at_main_end history ≡ entry 1 0 [] Begin ∷ entry 2 0 [] (Spawn (0 ∷ []) how.Default) ∷ entry 3 0 [] (Print (49 ∷ [])) ∷ entry 3 0 (0 ∷ []) Begin
    ∷ entry 4 0 (0 ∷ []) (Print (50 ∷ [])) ∷ entry 4 0 [] (End Nothing) ∷ []
unfolding history entry
cut = refl

-- stamps begin with 1
first_stamp : stamp_after [] [] 0 ≡ 1
first_stamp = refl

-- the next stamp in shard 0, and that of the task 3 in its own shard, of which nothing was made
next_stamp : stamp_after history [] 0 ≡ 6
unfolding history entry
next_stamp = refl

other_shard : stamp_after history (3 ∷ []) 3 ≡ 1
unfolding history entry
other_shard = refl

-- main has worker 0 alone; a task that `@spawn` made has any default worker, and no interactive one
main_works : may_work (record { default = 2; interactive = 1 }) (seat_of (record { default = 2; interactive = 1 }) None []) 1 ≡ false
main_works = refl

spawned_works : may_work (record { default = 2; interactive = 1 }) (seat_of (record { default = 2; interactive = 1 }) (Some (entry 2 0 [] (Spawn (0 ∷ []) how.Default))) []) 1 ≡ true
unfolding entry
spawned_works = refl

-- `@async` binds the task that it makes to the worker of the spawn
bound_works : may_work (record { default = 2; interactive = 1 }) (seat_of (record { default = 2; interactive = 1 }) (Some (entry 2 1 [] (Spawn (0 ∷ []) how.Async))) []) 0 ≡ false
unfolding entry
bound_works = refl
