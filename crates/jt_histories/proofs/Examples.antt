-- A worked example of entries that jobs make one after another, computed: main makes the task 1, which
-- begins and ends with 7, and main fetches it.
use Rattle.std.proofs.Common.{◌≡◌, ℕ, List, [], ◌∷◌, Option, Some, None, refl, arith, pos, replicate}
use Rattle.std.proofs.lemmas.List.Sorted.{IsPermutation-refl, IsPermutation-middle}
use Rattle.jt_base.specs.declared.entry.Entry.{Entry}
use Rattle.jt_base.specs.declared.entry.Note.{Note}
use Rattle.jt_base.specs.declared.operation.How.TheVariants as how
use Rattle.jt_base.specs.declared.operation.Op.{Op}
use Rattle.jt_base.specs.declared.operation.Op.TheVariants.{Begin, End, Spawn, Fetch}
use Rattle.jt_base.specs.declared.operation.Reply.{Reply}
use Rattle.jt_base.specs.declared.operation.Reply.TheVariants as reply
use Rattle.jt_base.specs.declared.run.Pool.TheVariants as pool
use Rattle.jt_base.specs.declared.value.Value.TheVariants.{Int}
use Rattle.jt_base.specs.Coming.{Next, Needs, Spawns, Over}
use Rattle.jt_base.specs.Jobs.{Held}
use Rattle.jt_laws.specs.Histories.{World}
use Rattle.jt_histories.specs.Jobs.{main_job}
use Rattle.jt_histories.specs.Made.{with_entry, Made}

data Start : Type 0 where
  Main : Start
  Child : Start

-- what comes next for the two tasks after these replies
abbrev next : Start → List Reply → Option (Next Start)
next Main [] = Some (Needs Begin)
next Main (r ∷ []) = Some (Spawns (Spawn (1 ∷ []) how.Default) Child)
next Main (r ∷ s ∷ []) = Some (Needs (Fetch (1 ∷ [])))
next Main (r ∷ s ∷ t ∷ rs) = Some Over
next Child [] = Some (Needs Begin)
next Child (r ∷ []) = Some (Needs (End (Int (pos 7))))
next Child (r ∷ s ∷ rs) = Some Over

-- with two default workers, and stamps up to 5
abbrev world : World Start
world = record { next = λ path. next; main = Main; sizes = record { default = 2; interactive = 0 }; events = 5 }

abbrev entry : ℕ → ℕ → List ℕ → Op → Reply → Entry
entry stamp worker task op r = record { stamp = stamp; worker = worker; task = task; op = op; reply = r }

abbrev begun : Entry
begun = entry 1 0 [] Begin reply.Ok

abbrev spawned : Entry
spawned = entry 2 0 [] (Spawn (1 ∷ []) how.Default) reply.Ok

abbrev child_begun : Entry
child_begun = entry 3 1 (1 ∷ []) Begin reply.Ok

abbrev child_ended : Entry
child_ended = entry 4 1 (1 ∷ []) (End (Int (pos 7))) reply.Ok

abbrev fetched : Entry
fetched = entry 5 0 [] (Fetch (1 ∷ [])) (reply.Val (Int (pos 7)))

abbrev note : ℕ → Reply → Note
note stamp r = record { stamp = stamp; reply = r }

-- main is bound to worker 0, and the task that it makes may run on any default worker
abbrev main_with : List Note → Held Start
main_with notes = record { path = []; start = Main; seat = record { pool = pool.Default; bound = Some 0 }; log = notes }

abbrev child_with : List Note → Held Start
child_with notes = record { path = 1 ∷ []; start = Child; seat = record { pool = pool.Default; bound = None }; log = notes }

abbrev begin_noted : List Note
begin_noted = note 1 reply.Ok ∷ []

abbrev spawn_noted : List Note
spawn_noted = note 1 reply.Ok ∷ note 2 reply.Ok ∷ []

abbrev fetch_noted : List Note
fetch_noted = note 1 reply.Ok ∷ note 2 reply.Ok ∷ note 5 (reply.Val (Int (pos 7))) ∷ []

abbrev entries : List Entry
entries = begun ∷ spawned ∷ child_begun ∷ child_ended ∷ fetched ∷ []

-- main's Begin is in shard 0, and all that is done to the task 1 in shard 1
abbrev logs : List (List Entry)
logs = (begun ∷ []) ∷ (spawned ∷ child_begun ∷ child_ended ∷ fetched ∷ []) ∷ replicate 14 []

logs_left : with_entry (with_entry (with_entry (with_entry (with_entry (replicate 16 []) begun) spawned) child_begun) child_ended) fetched ≡ logs
logs_left = refl

-- the child is gone after its End, and main has its three notes
made : Made Start world (replicate 16 []) (main_job Start world ∷ []) entries logs (main_with fetch_noted ∷ [])
made = (
  main_with [],
  [],
  IsPermutation-refl (main_with [] ∷ []),
  record { task = refl; comes = refl; allowed = refl; works = refl; stamped = refl; within = omega arith },
  (
    main_with begin_noted,
    [],
    IsPermutation-refl (main_with begin_noted ∷ []),
    record { task = refl; comes = refl; allowed = refl; works = refl; stamped = refl; within = omega arith },
    (
      child_with [],
      main_with spawn_noted ∷ [],
      IsPermutation-middle (main_with spawn_noted ∷ []) (child_with []) [],
      record { task = refl; comes = refl; allowed = refl; works = refl; stamped = refl; within = omega arith },
      (
        child_with (note 3 reply.Ok ∷ []),
        main_with spawn_noted ∷ [],
        IsPermutation-refl (child_with (note 3 reply.Ok ∷ []) ∷ main_with spawn_noted ∷ []),
        record { task = refl; comes = refl; allowed = refl; works = refl; stamped = refl; within = omega arith },
        (
          main_with spawn_noted,
          [],
          IsPermutation-refl (main_with spawn_noted ∷ []),
          record { task = refl; comes = refl; allowed = refl; works = refl; stamped = refl; within = omega arith },
          (refl, IsPermutation-refl (main_with fetch_noted ∷ [])),
        ),
      ),
    ),
  ),
)
