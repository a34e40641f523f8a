-- A shard, as its callers see it.
use Rattle.std.specs.Prelude.{◌≡◌, ℕ, ◌+◌, ◌<◌, List, [], Option, Some, None, max, filter}
use Rattle.std.specs.List.{All}
use Rattle.jt_base.specs.declared.entry.Entry.{Entry}
use Rattle.jt_base.specs.declared.operation.Op.{Op}
use Rattle.jt_base.specs.declared.operation.Reply.{Reply}
use Rattle.jt_base.specs.Jobs.{Held, last_note}
use Rattle.jt_base.specs.declared.object.Object.{Object}
use Rattle.jt_base.specs.Objects.{object_of}
use Rattle.jt_laws.specs.Entries.{same_object, of_object}
use Rattle.jt_laws.specs.Objects.{reply_after}
use Rattle.jt_histories.specs.Jobs.{last_entry}

pub record ShardState (J : Type 0) : Type 0 where
  -- the shard's number, and the greatest stamp that an entry may have
  pub number : ℕ
  pub events : ℕ
  -- its entries, the oldest first
  pub log : List Entry
  -- the jobs that wait for its objects, each with its operation
  pub waiting : List (J × Op)
  -- the object for whose next operation memory is reserved
  pub reserved : Option Object

-- no entry was made, and nobody waits
abbrev pub empty_shard : {J : Type 0} → ℕ → ℕ → ShardState J
empty_shard number events = record { number = number; events = events; log = []; waiting = []; reserved = None }

module _ {J S : Type 0} (told : J → Held S) where
  -- the object of a job's operation
  abbrev pub object_for : J → Op → Object
  object_for j op = object_of (told j).path op

  -- what a shard with this log replies to a job's operation now; none where it isn't allowed
  abbrev pub reply_now : List Entry → J → Op → Option Reply
  reply_now log j op = reply_after (of_object (object_for j op) log) (told j).path op

  -- a job's operation isn't allowed after this log
  abbrev pub MustWait : List Entry → J × Op → Type 0
  MustWait log w = reply_now log w.0 w.1 ≡ None

  -- no waiting job's operation is allowed
  abbrev pub IsSettled : ShardState J → Type 0
  IsSettled s = All (MustWait s.log) s.waiting

  -- the jobs that wait at an object, the one that waits longest first
  abbrev pub line : Object → List (J × Op) → List (J × Op)
  line o waiting = filter (λ w. same_object (object_for w.0 w.1) o) waiting

  -- one more than the last stamps of the job and of the log
  abbrev pub next_stamp : List Entry → J → ℕ
  next_stamp log j = max (last_note (told j).log) (last_entry log) + 1

  -- the entry of a job's operation
  abbrev pub next_entry : List Entry → J → Op → ℕ → Reply → Entry
  next_entry log j op worker reply = record { stamp = next_stamp log j; worker = worker; task = (told j).path; op = op; reply = reply }

  -- there is memory for one entry of the job's operation, or for the job to wait for it
  pub record HasRoom (room : J → ℕ) (s : ShardState J) (j : J) (op : Op) : Type 0 where
    pub shard : s.reserved ≡ Some (object_for j op)
    pub job : 0 < room j
