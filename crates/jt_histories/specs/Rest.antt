-- Where a run stands still: no task of a history can move, or the limit on stamps is met.
use Rattle.std.specs.Prelude.{◌≡◌, ℕ, ◌+◌, ◌<◌, List, [], ◌∷◌, ◌++◌, Some, None, true, max, map, get_or, ◌⊎◌}
use Rattle.jt_base.specs.declared.operation.Op.{Op}
use Rattle.jt_base.specs.declared.operation.Reply.{Reply}
use Rattle.jt_base.specs.declared.entry.Entry.{Entry}
use Rattle.jt_base.specs.Coming.{op_of}
use Rattle.jt_base.specs.Objects.{object_of, shard_of_object}
use Rattle.jt_laws.specs.Entries.{object, shard, spawns, ends, of_task, of_object, reply_of, In}
use Rattle.jt_laws.specs.Objects.{reply_after}
use Rattle.jt_laws.specs.Seats.{may_work}
use Rattle.jt_laws.specs.Histories.{World, Birth, birth_of, Fits, stamp_after}
use Rattle.jt_base.specs.Jobs.{Held, last_note}
use Rattle.jt_histories.specs.Jobs.{Has, coming, last_entry}

module _ (S : Type 0) (world : World S) where
  -- for main and each task that an entry made: what comes next isn't allowed
  abbrev pub AtRest : List Entry → Type 0
  AtRest h =
      (path : List ℕ) → (path ≡ []) ⊎ ((x : Entry) × In x h × (spawns x.op path ≡ true))
      → (birth : Birth S) → birth_of S world h path ≡ Some birth
      → (op : Op) → op_of (world.next path birth.start (map reply_of (of_task path h))) ≡ Some op → reply_after (of_object (object_of path op) h) path op ≡ None

  -- nothing comes after the reply to an End or a Fail
  abbrev pub EndsIt : Type 0
  EndsIt =
      (path : List ℕ) (start : S) (rs : List Reply) (op : Op) (r : Reply) (more : List Reply)
      → op_of (world.next path start rs) ≡ Some op → ends op ≡ true → op_of (world.next path start (rs ++ r ∷ more)) ≡ None

  -- the log of its operation's shard doesn't allow what a job waits for
  abbrev pub IsStuck : List (List Entry) → Held S → Type 0
  IsStuck logs j =
      (op : Op) → op_of (coming S world j) ≡ Some op → reply_after (of_object (object_of j.path op) (get_or logs (shard_of_object (object_of j.path op)) [])) j.path op ≡ None

  abbrev pub AllStuck : List (List Entry) → List (Held S) → Type 0
  AllStuck logs jobs = (j : Held S) → Has S j jobs → IsStuck logs j

  -- a further entry fits, but its stamp would be greater than the limit
  abbrev pub MeetsLimit : List Entry → Type 0
  MeetsLimit h = (e : Entry) × Fits S world h h e × (world.events < stamp_after h e.task (shard e))

  -- the same, said of a job and of one shard's log alone
  pub record AtLimit (log : List Entry) (j : Held S) (e : Entry) : Type 0 where
    pub task : e.task ≡ j.path
    pub comes : op_of (coming S world j) ≡ Some e.op
    pub allowed : reply_after (of_object (object e) log) e.task e.op ≡ Some e.reply
    pub works : may_work world.sizes j.seat e.worker ≡ true
    pub beyond : world.events < max (last_note j.log) (last_entry log) + 1
