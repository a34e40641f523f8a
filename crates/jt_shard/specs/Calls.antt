-- What the calls of a shard do.
use Rattle.std.specs.Prelude.{◌≡◌, ℕ, ◌<◌, ◌≤◌, List, [], ◌∷◌, ◌++◌, Option, Some, None, false}
use Rattle.std.specs.List.{All}
use Rattle.std.specs.List.Sorted.{IsPermutation}
use Rattle.jt_base.specs.declared.operation.Op.{Op}
use Rattle.jt_base.specs.declared.operation.Reply.{Reply}
use Rattle.jt_base.specs.Jobs.{Held}
use Rattle.jt_base.specs.declared.object.Object.{Object}
use Rattle.jt_laws.specs.Entries.{same_object}
use Rattle.jt_laws.specs.Seats.{seat_after}
use Rattle.jt_histories.specs.Jobs.{noted_job}
use Rattle.jt_shard.specs.declared.applied.Applied.{Applied}
use Rattle.jt_shard.specs.declared.applied.Applied.TheVariants.{Done, NotYet, StampLimit}
use Rattle.jt_shard.specs.Shards.{ShardState, object_for, reply_now, MustWait, IsSettled, line, next_stamp, next_entry}

module _ {J S : Type 0} (told : J → Held S) where
  -- the operation is allowed: its entry comes at the end of the log, and the job notes it
  pub record Enters (s : ShardState J) (j : J) (op : Op) (worker : ℕ) (reply : Reply) (s' : ShardState J) (j' : J) : Type 0 where
    pub allowed : reply_now told s.log j op ≡ Some reply
    pub within : next_stamp told s.log j ≤ s.events
    pub shard : s' ≡ record s { log = s.log ++ next_entry told s.log j op worker reply ∷ []; reserved = None }
    pub job : told j' ≡ noted_job S (told j) (seat_after (told j).seat op worker) (next_entry told s.log j op worker reply)

  -- the operation isn't allowed, is given back, and nothing changes
  pub record Waits (s : ShardState J) (j : J) (op given : Op) (s' : ShardState J) (j' : J) : Type 0 where
    pub same : given ≡ op
    pub not_allowed : reply_now told s.log j op ≡ None
    pub shard : s' ≡ s
    pub job : j' ≡ j

  -- the operation is allowed, but the stamp of its entry would be greater than the limit: nothing changes
  pub record IsAtStampLimit (s : ShardState J) (j : J) (op given : Op) (s' : ShardState J) (j' : J) : Type 0 where
    pub same : given ≡ op
    pub allowed : (reply : Reply) × (reply_now told s.log j op ≡ Some reply)
    pub beyond : s.events < next_stamp told s.log j
    pub shard : s' ≡ s
    pub job : j' ≡ j

  abbrev pub Applies : ShardState J → J → Op → ℕ → Applied → ShardState J → J → Type 0
  Applies s j op worker (Done reply) s' j' = Enters s j op worker reply s' j'
  Applies s j op worker (NotYet given) s' j' = Waits s j op given s' j'
  Applies s j op worker (StampLimit given) s' j' = IsAtStampLimit s j op given s' j'

  -- a job joins the end of its object's line
  pub record Parks (s : ShardState J) (j : J) (op : Op) (s' : ShardState J) : Type 0 where
    pub kept : s' ≡ record s { waiting = s'.waiting; reserved = None }
    pub waiting : IsPermutation ((j, op) ∷ s.waiting) s'.waiting
    pub own : line told (object_for told j op) s'.waiting ≡ line told (object_for told j op) s.waiting ++ (j, op) ∷ []
    pub others : (o : Object) → same_object (object_for told j op) o ≡ false → line told o s'.waiting ≡ line told o s.waiting

  -- A waiting job whose operation is allowed leaves. All such jobs wait at its object, and it is the
  -- first of them in the line there.
  pub record Wakes (s : ShardState J) (j : J) (op : Op) (s' : ShardState J) : Type 0 where
    pub allowed : (reply : Reply) × (reply_now told s.log j op ≡ Some reply)
    pub one_line : All (λ w. same_object (object_for told w.0 w.1) (object_for told j op) ≡ false → MustWait told s.log w) s.waiting
    pub front : List (J × Op)
    pub back : List (J × Op)
    pub front_waits : All (MustWait told s.log) front
    pub own : line told (object_for told j op) s.waiting ≡ front ++ (j, op) ∷ back
    pub own_left : line told (object_for told j op) s'.waiting ≡ front ++ back
    pub others : (o : Object) → same_object (object_for told j op) o ≡ false → line told o s'.waiting ≡ line told o s.waiting
    pub waiting : IsPermutation s.waiting ((j, op) ∷ s'.waiting)
    pub kept : s' ≡ record s { waiting = s'.waiting; reserved = None }

  abbrev pub WakesNext : ShardState J → Option (J × Op) → ShardState J → Type 0
  WakesNext s (Some w) s' = Wakes s w.0 w.1 s'
  WakesNext s None s' = IsSettled told s × (s' ≡ s)
