-- Worked examples of the definitions.
use Rattle.std.proofs.Common.{◌≡◌, ℕ, ◌<◌, ◌≤◌, ◌⊎◌, List, [], ◌∷◌, None, Some, Result, Ok, Err, refl, lit≤, arith}
use Rattle.jt_base.specs.Names.{shard_of, priority_of}
use Rattle.jt_base.specs.Objects.{object_of, shard_of_object}
use Rattle.jt_base.specs.declared.object.Object.TheVariants.{Printer, Task, Named}
use Rattle.jt_base.specs.declared.operation.Op.TheVariants.{Spawn, Print, Take}
use Rattle.jt_base.specs.declared.operation.How.TheVariants.{Default}
use Rattle.jt_base.specs.Outside.{most_count, raised, Rose, Reads, Writes, ReadsToEnd, Gives, WritesPrefix}
use Rattle.jt_base.specs.MemorySource.{SourceState, read_count, after_read, after_failed_read}
use Rattle.jt_base.specs.MemorySink.{SinkState, write_count, after_write}

-- ---- Names

-- the second task of the main task's first one, and an object that a task made
shard_of_path : shard_of (0 ∷ 1 ∷ []) ≡ 1
shard_of_path = refl

shard_of_name : shard_of (7 ∷ 12 ∷ 30 ∷ []) ≡ 1
shard_of_name = refl

priority_of_main : priority_of [] ≡ 64
priority_of_main = refl

-- ---- Objects

-- a spawn acts on the new task's completion, whoever makes it
object_of_spawn : object_of (2 ∷ []) (Spawn (2 ∷ 5 ∷ []) Default) ≡ Task (2 ∷ 5 ∷ [])
object_of_spawn = refl

-- an object's shard is that of its name, not of the task that uses it
shard_of_take : shard_of_object (object_of (2 ∷ []) (Take (record { path = 7 ∷ 12 ∷ []; number = 30 }))) ≡ 1
shard_of_take = refl

shard_of_printer : shard_of_object Printer ≡ 0
shard_of_printer = refl

-- ---- Counts

raised_from_zero : raised 0 ≡ 1
raised_from_zero = refl

raised_at_most : raised 18446744073709551615 ≡ 18446744073709551615
raised_at_most = refl

rose_by_one : Rose 0 1
rose_by_one = lit≤ tt

rose_by_more : Rose 3 7
rose_by_more = lit≤ tt

rose_at_most : Rose 18446744073709551615 18446744073709551615
rose_at_most = lit≤ tt

not_rose : Rose 3 3 → ⊥
not_rose h = omega (arith, h)

-- a count rose where it is greater than before or is the greatest, and nowhere else
Rose-elim : (before now : ℕ) → now ≤ most_count → Rose before now → (before < now) ⊎ (now ≡ most_count)
Rose-elim before now most h = grind arith

Rose-greater : (before now : ℕ) → before < now → Rose before now
Rose-greater before now h = omega arith

Rose-greatest : (before : ℕ) → Rose before most_count
Rose-greatest before = omega arith

-- ---- Bytes

abbrev Answer : Type 0
Answer = Result ℕ ℕ

abbrev ok : ℕ → Answer
ok n = Ok n

abbrev failed : Answer
failed = Err 0

-- two of three bytes were read into a buffer of three
reads_two : Reads (Some (1 ∷ 2 ∷ 3 ∷ [])) (Some (3 ∷ [])) (ok 2) (1 ∷ 2 ∷ 0 ∷ [])
reads_two = (refl, λ z _. absurd (omega (arith, z)))

-- a byte that was left out
reads_dropping : Reads (Some (1 ∷ 2 ∷ 3 ∷ [])) (Some []) (ok 2) (1 ∷ 2 ∷ 0 ∷ []) → ⊥
reads_dropping h = cc h.0

not_empty : (x : ℕ) (xs : List ℕ) → x ∷ xs ≡ [] → ⊥
not_empty x xs e = cc

-- nothing though there is room and something left
reads_none_early : Reads (Some (1 ∷ [])) (Some (1 ∷ [])) (ok 0) (0 ∷ []) → ⊥
reads_none_early h = not_empty 1 [] (h.1 refl (omega arith))

-- a failed read moves nothing
reads_failed : Reads (Some (1 ∷ [])) (Some (1 ∷ [])) failed (0 ∷ [])
reads_failed = refl

reads_failed_moving : Reads (Some (1 ∷ [])) (Some []) failed (1 ∷ []) → ⊥
reads_failed_moving h = cc h

-- what isn't told is free
reads_untold : Reads None None (ok 2) (5 ∷ 6 ∷ [])
reads_untold = (tt, λ _ _. tt)

writes_two : Writes (Some (9 ∷ [])) (Some (9 ∷ 1 ∷ 2 ∷ [])) (ok 2) (1 ∷ 2 ∷ 3 ∷ [])
writes_two = (refl, λ _. omega arith)

-- more was added than the answer says
writes_more : Writes (Some []) (Some (1 ∷ 2 ∷ [])) (ok 1) (1 ∷ 2 ∷ []) → ⊥
writes_more h = cc h.0

-- nothing was taken though there was a byte
writes_none : Writes (Some []) (Some []) (ok 0) (1 ∷ []) → ⊥
writes_none h = omega (arith, h.1 (omega arith))

reads_to_end : ReadsToEnd (Some (1 ∷ 2 ∷ [])) (Some []) (1 ∷ 2 ∷ [])
reads_to_end = (refl, refl)

gives_two : Gives (Some (1 ∷ 2 ∷ 3 ∷ [])) (Some (3 ∷ [])) 2
gives_two = (1 ∷ 2 ∷ [], refl, refl)

writes_prefix : WritesPrefix (Some (9 ∷ [])) (Some (9 ∷ 1 ∷ [])) (1 ∷ 2 ∷ [])
writes_prefix = (1, refl)

-- ---- In memory

abbrev source : SourceState
source = record { left = 1 ∷ 2 ∷ 3 ∷ 4 ∷ []; most = 3; failing = 2 ∷ []; calls = 0; faults = 0 }

read_count_by_most : read_count source 8 ≡ 3
read_count_by_most = refl

read_count_by_room : read_count source 2 ≡ 2
read_count_by_room = refl

after_read_of_three : after_read source 3 ≡ record { left = 4 ∷ []; most = 3; failing = 2 ∷ []; calls = 1; faults = 0 }
after_read_of_three = refl

after_failure : after_failed_read (after_read source 3) ≡ record { left = 4 ∷ []; most = 3; failing = 2 ∷ []; calls = 2; faults = 1 }
after_failure = refl

abbrev sink : SinkState
sink = record { written = 7 ∷ []; most = 3; room = 3; failing = []; calls = 1; faults = 0 }

write_count_by_room : write_count sink 5 ≡ 2
write_count_by_room = refl

after_write_of_two : after_write sink (8 ∷ 9 ∷ []) ≡ record { written = 7 ∷ 8 ∷ 9 ∷ []; most = 3; room = 3; failing = []; calls = 2; faults = 0 }
after_write_of_two = refl
