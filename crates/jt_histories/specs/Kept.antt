-- Legality by stamps alone, whatever the order of the list; and what a kind of task must give for it.
use Rattle.std.specs.Prelude.{◌≡◌, ℕ, List, [], ◌∷◌, ◌++◌, Some, true, false}
use Rattle.jt_base.specs.declared.operation.Op.{Op}
use Rattle.jt_base.specs.declared.operation.Op.TheVariants.{Begin, Spawn}
use Rattle.jt_base.specs.declared.operation.Reply.{Reply}
use Rattle.jt_base.specs.declared.entry.Entry.{Entry}
use Rattle.jt_base.specs.Coming.{Needs, Spawns, op_of}
use Rattle.jt_laws.specs.Entries.{spawns, of_task, of_shard, below, In, Rising}
use Rattle.jt_laws.specs.Histories.{World, Fits, Stamps}

-- the path of the task that an operation makes
abbrev pub made_path : Op → List ℕ
made_path (Spawn path how) = path
made_path op = []

module _ (S : Type 0) (world : World S) where
  -- Each entry fits and is stamped by the entries with smaller stamps, and the stamps of each task and
  -- of each shard rise. The order of entries of different tasks and shards doesn't matter.
  pub record Kept (h : List Entry) : Type 0 where
    pub fits : (e : Entry) → In e h → Fits S world h (below e.stamp h) e
    pub stamps : (e : Entry) → In e h → Stamps S world (below e.stamp h) e
    pub tasks_rise : (path : List ℕ) → Rising (of_task path h)
    pub shards_rise : (k : ℕ) → Rising (of_shard k h)

  -- what a kind of task must give
  pub record Laws : Type 0 where
    -- nothing comes before Begin
    pub begins : (path : List ℕ) (start : S) (op : Op) → op_of (world.next path start []) ≡ Some op → op ≡ Begin
    -- a spawn that comes names the task's path followed by some number
    pub names : (path : List ℕ) (start : S) (rs : List Reply) (op : Op) (child : List ℕ) → op_of (world.next path start rs) ≡ Some op → spawns op child ≡ true → (k : ℕ) × (child ≡ path ++ k ∷ [])
    -- a spawn and no other operation comes with a start
    pub makes : (path : List ℕ) (start : S) (rs : List Reply) (op : Op) (t : S) → world.next path start rs ≡ Some (Spawns op t) → spawns op (made_path op) ≡ true
    pub no_spawn : (path : List ℕ) (start : S) (rs : List Reply) (op : Op) → world.next path start rs ≡ Some (Needs op) → (child : List ℕ) → spawns op child ≡ false

-- two lists with the same entries of each task and of each shard, in the same order
pub record Same (h g : List Entry) : Type 0 where
  pub tasks : (path : List ℕ) → of_task path h ≡ of_task path g
  pub shards : (k : ℕ) → of_shard k h ≡ of_shard k g
