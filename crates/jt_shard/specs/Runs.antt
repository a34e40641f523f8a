-- The jobs and the shards of a run, of any kind of job.
use Rattle.std.specs.Prelude.{◌≡◌, ℕ, List, Option, Some, map}
use Rattle.std.specs.List.{All}
use Rattle.jt_base.specs.declared.operation.Op.{Op}
use Rattle.jt_base.specs.declared.operation.Reply.{Reply}
use Rattle.jt_base.specs.Coming.{Next, op_of}
use Rattle.jt_base.specs.Jobs.{Held, note_reply}
use Rattle.jt_base.specs.Objects.{shard_of_object}
use Rattle.jt_shard.specs.Shards.{ShardState, object_for, IsSettled}

-- a job's description, its run, and what comes next in a run
module _ {J S R : Type 0} (told : J → Held S) (run_of : J → R) (next : R → List ℕ → S → List Reply → Option (Next S)) where
  -- the operation that comes next for a job
  abbrev pub op_for : J → Option Op
  op_for j = op_of (next (run_of j) (told j).path (told j).start (map note_reply (told j).log))

  -- a job of the run, for which an operation comes next
  pub record IsJob (run : R) (j : J) : Type 0 where
    pub of_run : run_of j ≡ run
    pub comes : (op : Op) × (op_for j ≡ Some op)

  -- a job waits with the operation that comes next, at shard k, that of the operation's object
  pub record IsWaiting (run : R) (k : ℕ) (w : J × Op) : Type 0 where
    pub job : IsJob run w.0
    pub comes : op_for w.0 ≡ Some w.1
    pub here : shard_of_object (object_for told w.0 w.1) ≡ k

  -- shard k of the run, whose entries have stamps up to this limit
  pub record IsShard (run : R) (limit k : ℕ) (s : ShardState J) : Type 0 where
    pub number : s.number ≡ k
    pub events : s.events ≡ limit
    pub waiting : All (IsWaiting run k) s.waiting

  -- and no waiting job's operation is allowed
  pub record IsSettledShard (run : R) (limit k : ℕ) (s : ShardState J) : Type 0 where
    pub shard : IsShard run limit k s
    pub settled : IsSettled told s
