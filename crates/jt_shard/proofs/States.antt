-- The calls of a shard, by what its callers see of it.
use Rattle.std.proofs.Common.{◌≡◌, List, ◌∷◌, None}
use Rattle.std.specs.List.{All}
use Rattle.std.proofs.lemmas.List.Elements.{All-cons}
use Rattle.std.proofs.lemmas.List.Sorted.{All-permutation}
use Rattle.jt_base.specs.declared.operation.Op.{Op}
use Rattle.jt_base.specs.declared.entry.Entry.{Entry}
use Rattle.jt_base.specs.Jobs.{Held}
use Rattle.jt_shard.specs.Shards.{ShardState, MustWait}
use Rattle.jt_shard.specs.Calls.{Parks, Wakes}
use Rattle.jt_shard.proofs.Lines.{JoinsLine, LeavesLine}

module _ {J S : Type 0} (told : J → Held S) where
  pub parks_of : (s s' : ShardState J) (j : J) (op : Op) → s' ≡ record s { waiting = s'.waiting; reserved = None } → JoinsLine told s.waiting (j, op) s'.waiting → Parks told s j op s'
  parks_of s s' j op k l = record { kept = k; waiting = l.permuted; own = l.own; others = l.others }

  pub wakes_of : (s s' : ShardState J) (w : J × Op) → s' ≡ record s { waiting = s'.waiting; reserved = None } → LeavesLine told s.log s.waiting w s'.waiting → Wakes told s w.0 w.1 s'
  wakes_of s s' w k l = record {
    allowed = l.allowed;
    one_line = l.one_line;
    front = l.front;
    back = l.back;
    front_waits = l.front_waits;
    own = l.own;
    own_left = l.own_left;
    others = l.others;
    waiting = l.permuted;
    kept = k;
  }

  -- one more job that must wait
  pub settled_more : (log : List Entry) (waiting more : List (J × Op)) (w : J × Op) → JoinsLine told waiting w more → MustWait told log w → All (MustWait told log) waiting → All (MustWait told log) more
  settled_more log waiting more w l m a =
      All-permutation (MustWait told log) (w ∷ waiting) more l.permuted (All-cons (MustWait told log) w waiting m a)
