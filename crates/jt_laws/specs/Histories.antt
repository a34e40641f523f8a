-- Legal runs and legal histories, over any kind of task.
use Rattle.std.specs.Prelude.{◌≡◌, ℕ, ◌+◌, ◌≤◌, List, [], ◌∷◌, ◌++◌, Option, Some, None, true, cond, max, map, reverse}
use Rattle.jt_base.specs.declared.operation.Reply.{Reply}
use Rattle.jt_base.specs.declared.run.Sizes.{Sizes}
use Rattle.jt_base.specs.declared.entry.Entry.{Entry}
use Rattle.jt_base.specs.Coming.{Next, Needs, Spawns, Over, op_of}
use Rattle.jt_laws.specs.Entries.{object, shard, spawns, of_task, of_object, of_shard, top, reply_of, Ordered}
use Rattle.jt_laws.specs.Seats.{seat_of, may_work}
use Rattle.jt_laws.specs.Objects.{reply_after}

-- a run: what comes next for a path, a start and the replies so far; main's start; the numbers of
-- workers; the greatest stamp
pub record World (S : Type 0) : Type 0 where
  pub next : List ℕ → S → List Reply → Option (Next S)
  pub main : S
  pub sizes : Sizes
  pub events : ℕ

-- a task's start, and the entry that made the task, none for main
pub record Birth (S : Type 0) : Type 0 where
  pub start : S
  pub maker : Option Entry

abbrev pub birth_from : {S : Type 0} → Entry → Option (Next S) → Option (Birth S)
birth_from e None = None
birth_from e (Some (Needs op)) = None
birth_from e (Some (Spawns op start)) = Some (record { start = start; maker = Some e })
birth_from e (Some Over) = None

-- the birth of a task by its maker's entries: by the first one that spawns it
abbrev pub born_in : {S : Type 0} → (List Reply → Option (Next S)) → List ℕ → List Reply → List Entry → Option (Birth S)
born_in next path before [] = None
born_in next path before (e ∷ es) = cond (spawns e.op path) (birth_from e (next before)) (born_in next path (before ++ e.reply ∷ []) es)

abbrev pub born_of : {S : Type 0} → (List ℕ → S → List Reply → Option (Next S)) → List ℕ → List ℕ → List Entry → Option (Birth S) → Option (Birth S)
born_of next maker path own None = None
born_of next maker path own (Some birth) = born_in (next maker birth.start) path [] own

-- one more than the greatest stamp of the task's and of the shard's entries (after Lamport 1978)
abbrev pub stamp_after : List Entry → List ℕ → ℕ → ℕ
stamp_after past task k = max (top (of_task task past)) (top (of_shard k past)) + 1

module _ (S : Type 0) (world : World S) where
  -- down a path, whose newest index stands first; own gives each task's entries
  abbrev pub birth_at : (List ℕ → List Entry) → List ℕ → Option (Birth S)
  birth_at own [] = Some (record { start = world.main; maker = None })
  birth_at own (k ∷ up) = born_of world.next (reverse up) (reverse (k ∷ up)) (own (reverse up)) (birth_at own up)

  -- a task of a history: main, or one that an entry of its maker spawns
  abbrev pub birth_of : List Entry → List ℕ → Option (Birth S)
  birth_of h path = birth_at (λ task. of_task task h) (reverse path)

  -- an entry may stand in a run where its task's and its object's earlier entries are those of past
  pub record Fits (all past : List Entry) (e : Entry) : Type 0 where
    pub birth : Birth S
    pub born : birth_of all e.task ≡ Some birth
    pub comes : op_of (world.next e.task birth.start (map reply_of (of_task e.task past))) ≡ Some e.op
    pub allowed : reply_after (of_object (object e) past) e.task e.op ≡ Some e.reply
    pub works : may_work world.sizes (seat_of world.sizes birth.maker (of_task e.task past)) e.worker ≡ true

  -- an entry has the stamp that the earlier entries give it
  pub record Stamps (past : List Entry) (e : Entry) : Type 0 where
    pub stamped : e.stamp ≡ stamp_after past e.task (shard e)
    pub within : e.stamp ≤ world.events

  abbrev pub LegalFrom : List Entry → List Entry → Type 0
  LegalFrom past [] = Unit {0}
  LegalFrom past (e ∷ es) = Fits past past e × LegalFrom (past ++ e ∷ []) es

  -- a run of the one-thread machine: at each turn any one task does its next operation
  abbrev pub IsLegalRun : List Entry → Type 0
  IsLegalRun h = LegalFrom [] h

  abbrev pub StampedFrom : List Entry → List Entry → Type 0
  StampedFrom past [] = Unit {0}
  StampedFrom past (e ∷ es) = Stamps past e × StampedFrom (past ++ e ∷ []) es

  -- a legal run in the order of its stamps, then shards
  pub record IsLegalHistory (h : List Entry) : Type 0 where
    pub legal : IsLegalRun h
    pub stamped : StampedFrom [] h
    pub ordered : Ordered h
