-- The shard logs with the jobs of a run, and what one job's entry makes of them.
use Rattle.std.specs.Prelude.{◌≡◌, ℕ, ◌+◌, ◌≤◌, List, [], ◌∷◌, ◌++◌, Option, Some, None, true, false, max, map, length, ◌⊎◌, cond}
use Rattle.jt_base.specs.Names.{shards}
use Rattle.jt_base.specs.declared.entry.Entry.{Entry}
use Rattle.jt_base.specs.declared.entry.Note.{Note}
use Rattle.jt_base.specs.Coming.{Next, Needs, Spawns, Over, op_of}
use Rattle.jt_laws.specs.Entries.{object, spawns, ends, of_task, of_object, In}
use Rattle.jt_base.specs.Jobs.{Seat, Held, note_reply, last_note}
use Rattle.jt_laws.specs.Seats.{seat_of, seat_after, may_work}
use Rattle.jt_laws.specs.Objects.{reply_after}
use Rattle.jt_laws.specs.Histories.{World, Birth, birth_of, IsLegalHistory}
use Rattle.jt_histories.specs.Kept.{made_path}
use Rattle.jt_histories.specs.Merges.{IsMerge}

-- what a task keeps of one of its entries
abbrev pub note_of : Entry → Note
note_of e = record { stamp = e.stamp; reply = e.reply }

-- the stamp of the last one, or 0
abbrev pub last_entry_from : ℕ → List Entry → ℕ
last_entry_from stamp [] = stamp
last_entry_from stamp (e ∷ es) = last_entry_from e.stamp es

abbrev pub last_entry : List Entry → ℕ
last_entry log = last_entry_from 0 log

-- main and the tasks that an entry made, without those that ended
pub record Live (h : List Entry) (path : List ℕ) : Type 0 where
  pub made : (path ≡ []) ⊎ ((x : Entry) × In x h × (spawns x.op path ≡ true))
  pub goes_on : (x : Entry) → In x h → x.task ≡ path → ends x.op ≡ false

module _ (S : Type 0) where
  abbrev pub Has : Held S → List (Held S) → Type 0
  Has j [] = ⊥
  Has j (k ∷ ks) = (k ≡ j) ⊎ Has j ks

  -- no two jobs are of one task
  abbrev pub OnePath : List (Held S) → Type 0
  OnePath [] = Unit {0}
  OnePath (j ∷ js) = ((k : Held S) → Has k js → k.path ≡ j.path → ⊥) × OnePath js

  -- the job with this seat and one note more
  abbrev pub noted_job : Held S → Seat → Entry → Held S
  noted_job j seat e = record { path = j.path; start = j.start; seat = seat; log = j.log ++ note_of e ∷ [] }

module _ (S : Type 0) (world : World S) where
  -- a job's start, seat and log are those of its task
  pub record Belongs (h : List Entry) (j : Held S) : Type 0 where
    pub birth : Birth S
    pub born : birth_of S world h j.path ≡ Some birth
    pub started : j.start ≡ birth.start
    pub seated : j.seat ≡ seat_of world.sizes birth.maker (of_task j.path h)
    pub noted : j.log ≡ map note_of (of_task j.path h)

  -- the entry that a job may make, said of the job and of one shard's log alone
  pub record Makes (log : List Entry) (j : Held S) (e : Entry) : Type 0 where
    pub task : e.task ≡ j.path
    pub comes : op_of (world.next j.path j.start (map note_reply j.log)) ≡ Some e.op
    pub allowed : reply_after (of_object (object e) log) e.task e.op ≡ Some e.reply
    pub works : may_work world.sizes j.seat e.worker ≡ true
    pub stamped : e.stamp ≡ max (last_note j.log) (last_entry log) + 1
    pub within : e.stamp ≤ world.events

  -- what comes next for a job
  abbrev pub coming : Held S → Option (Next S)
  coming j = world.next j.path j.start (map note_reply j.log)

  -- main's job at the beginning
  abbrev pub main_job : Held S
  main_job = record { path = []; start = world.main; seat = seat_of world.sizes None []; log = [] }

  -- the job of the task that a spawn makes, with this start
  abbrev pub child_job : Entry → S → Held S
  child_job e start = record { path = made_path e.op; start = start; seat = seat_of world.sizes (Some e) []; log = [] }

  -- what a job's entry leaves in its place: nothing after its end, itself, or itself and the child
  abbrev pub left_after : Held S → Entry → Option (Next S) → List (Held S)
  left_after j e None = []
  left_after j e (Some Over) = []
  left_after j e (Some (Needs op)) = cond (ends e.op) [] (noted_job S j (seat_after j.seat e.op e.worker) e ∷ [])
  left_after j e (Some (Spawns op start)) = noted_job S j (seat_after j.seat e.op e.worker) e ∷ child_job e start ∷ []

  -- The logs of all shards and all jobs of a run: the merge of the logs is a legal history, and the
  -- jobs are those of its live tasks, each once.
  pub record Holds (logs : List (List Entry)) (jobs : List (Held S)) : Type 0 where
    pub history : List Entry
    pub sixteen : length logs ≡ shards
    pub merged : IsMerge logs history
    pub legal : IsLegalHistory S world history
    pub belong : (j : Held S) → Has S j jobs → Belongs history j
    pub one_path : OnePath S jobs
    pub live : (path : List ℕ) → Live history path → (j : Held S) × Has S j jobs × (j.path ≡ path)
    pub only_live : (j : Held S) → Has S j jobs → Live history j.path
