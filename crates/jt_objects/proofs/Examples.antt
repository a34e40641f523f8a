-- The states that small lists of entries leave.
use Rattle.std.specs.Prelude.{◌≡◌, ℕ, List, [], ◌∷◌, pos, Some, None, false, refl}
use Rattle.jt_base.specs.declared.operation.Op.{Op}
use Rattle.jt_base.specs.declared.operation.Op.TheVariants.{Begin, Spawn, Print, NewChannel, NewAtomic, NewLock, Put, Lock, AXchg}
use Rattle.jt_base.specs.declared.operation.Reply.{Reply}
use Rattle.jt_base.specs.declared.operation.Reply.TheVariants as reply
use Rattle.jt_base.specs.declared.operation.How.TheVariants as how
use Rattle.jt_base.specs.declared.entry.Entry.{Entry}
use Rattle.jt_base.specs.declared.name.Name.{Name}
use Rattle.jt_base.specs.declared.object.Object.TheVariants.{Printer, Task, Named}
use Rattle.jt_conditions.specs.declared.completion.Completion.TheVariants.{Spawned, Running}
use Rattle.jt_objects.specs.States.{OfPrinter, OfTask, Unmade, OfChannel, OfAtomic, OfLock, left_by}

abbrev main : List ℕ
main = []

abbrev child : List ℕ
child = 0 ∷ []

-- the first object that main makes
abbrev n : Name
n = record { path = []; number = 0 }

abbrev by : List ℕ → Op → Reply → Entry
by task op r = record { stamp = 0; worker = 0; task = task; op = op; reply = r }

-- the main task is there from the start, another one after its Spawn
main_first : left_by (Task main) [] ≡ Some (OfTask (Some Spawned))
main_first = refl

child_first : left_by (Task child) [] ≡ Some (OfTask None)
child_first = refl

child_begun : left_by (Task child) (by main (Spawn child how.Default) reply.Ok ∷ by child Begin reply.Ok ∷ []) ≡ Some (OfTask (Some Running))
child_begun = refl

-- the printer has no state, whatever is printed
printed : left_by Printer (by main (Print (104 ∷ [])) reply.Ok ∷ []) ≡ Some OfPrinter
printed = refl

-- `c = Channel{Int64}(1); put!(c, 5)`
not_made : left_by (Named n) [] ≡ Some Unmade
not_made = refl

one_item : left_by (Named n) (by main (NewChannel n 1) reply.Ok ∷ by main (Put n (pos 5)) reply.Ok ∷ []) ≡ Some (OfChannel (record { capacity = 1; items = pos 5 ∷ []; taken = 0; closed = false }))
one_item = refl

-- `a = Threads.Atomic{Int64}(3); Threads.atomic_xchg!(a, 7)`
seven : left_by (Named n) (by main (NewAtomic n (pos 3)) reply.Ok ∷ by main (AXchg n (pos 7)) (reply.Int (pos 3)) ∷ []) ≡ Some (OfAtomic (pos 7))
seven = refl

-- `l = ReentrantLock(); lock(l)`
locked : left_by (Named n) (by main (NewLock n) reply.Ok ∷ by main (Lock n) reply.Ok ∷ []) ≡ Some (OfLock (Some (record { task = main; level = 1 })))
locked = refl

-- entries of another object leave no state
other : left_by (Named n) (by main Begin reply.Ok ∷ []) ≡ None
other = refl
