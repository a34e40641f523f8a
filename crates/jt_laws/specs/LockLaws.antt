-- What follows for every lawful list of a lock's or a condition's entries.
use Rattle.std.specs.Prelude.{◌≡◌, ◌⊎◌, ℕ, ◌+◌, ◌<◌, List, ◌∷◌, [], ◌++◌, length, take, filter, Bool, true, false}
use Rattle.jt_base.specs.declared.operation.Op.{Op}
use Rattle.jt_base.specs.declared.operation.Op.TheVariants.{Lock, Unlock}
use Rattle.jt_base.specs.declared.operation.Reply.{Reply}
use Rattle.jt_base.specs.declared.entry.Entry.{Entry}
use Rattle.jt_laws.specs.Entries.{of_task}
use Rattle.jt_laws.specs.Locks.{is_ok, is_wait, is_back, level, waits_of, backs_of, waiting_of, is_notified, woken_by}

-- at most one task has a level
abbrev pub OneHolds : List Entry → Type 0
OneHolds own = (p q : List ℕ) → 0 < level p own → 0 < level q own → p ≡ q

abbrev pub is_lock_entry : Op → Bool
is_lock_entry (Lock name) = true
is_lock_entry op = false

abbrev pub is_unlock_entry : Op → Reply → Bool
is_unlock_entry (Unlock name) r = is_ok r
is_unlock_entry op r = false

-- how often the task took the lock, and how often it gave it back
abbrev pub locks_of : List ℕ → List Entry → ℕ
locks_of path own = length (filter (λ e. is_lock_entry e.op) (of_task path own))

abbrev pub unlocks_of : List ℕ → List Entry → ℕ
unlocks_of path own = length (filter (λ e. is_unlock_entry e.op e.reply) (of_task path own))

-- the level of a task that never waited is how often it took the lock and has not given it back
abbrev pub LevelsAddUp : List Entry → Type 0
LevelsAddUp own = (path : List ℕ) → waits_of path own ≡ 0 → level path own + unlocks_of path own ≡ locks_of path own

-- a wait of the task, by which it gives the lock up, and a return of the task
pub record IsWaitOf (path : List ℕ) (e : Entry) : Type 0 where
  pub task : e.task ≡ path
  pub waits : is_wait e.op e.reply ≡ true

pub record IsReturnOf (path : List ℕ) (e : Entry) : Type 0 where
  pub task : e.task ≡ path
  pub returns : is_back e.op ≡ true

-- the list ends with a wait of the task
pub record EndsWithWait (path : List ℕ) (own : List Entry) : Type 0 where
  pub before : List Entry
  pub wait : Entry
  pub is_wait : IsWaitOf path wait
  pub parts : own ≡ before ++ wait ∷ []

-- the list ends with a return of the task, which had this level before its last wait
pub record EndsWithReturn (path : List ℕ) (own : List Entry) (had : ℕ) : Type 0 where
  pub before : List Entry
  pub wait : Entry
  pub between : List Entry
  pub back : Entry
  pub is_wait : IsWaitOf path wait
  pub is_last : waits_of path between ≡ 0
  pub is_return : IsReturnOf path back
  pub level_before : level path before ≡ had
  pub parts : own ≡ before ++ wait ∷ between ++ back ∷ []

-- a task starts anew after this list with this level: none where nothing was done yet and after a wait, and after a return the level before the wait
abbrev pub StartsWith : List ℕ → List Entry → ℕ → Type 0
StartsWith path own had =
    ((own ≡ []) × (had ≡ 0)) ⊎ ((EndsWithWait path own × (had ≡ 0)) ⊎ EndsWithReturn path own had)

-- the task neither waits nor comes back
pub record Stays (path : List ℕ) (own : List Entry) : Type 0 where
  pub waits : waits_of path own ≡ 0
  pub returns : backs_of path own ≡ 0

-- since a task started anew, its level rose as often as it took the lock and fell as often as it gave it back
abbrev pub AddsUpSince : List ℕ → List Entry → List Entry → ℕ → Type 0
AddsUpSince path past since had = level path (past ++ since) + unlocks_of path since ≡ had + locks_of path since

-- the last time that a task started anew in this list
pub record LastStart (path : List ℕ) (own : List Entry) : Type 0 where
  pub past : List Entry
  pub since : List Entry
  pub had : ℕ
  pub parts : own ≡ past ++ since
  pub starts : StartsWith path past had
  pub stays : Stays path since

abbrev pub Among : List ℕ → List (List ℕ) → Type 0
Among path [] = ⊥
Among path (w ∷ ws) = (w ≡ path) ⊎ Among path ws

-- a notify takes the oldest tasks from the waiting list, all of them or at most one, and they are notified
pub record WakesOldest (own : List Entry) (notify : Entry) (all : Bool) (n : ℕ) : Type 0 where
  pub number : n ≡ woken_by all own
  pub oldest : waiting_of own ≡ take n (waiting_of own) ++ waiting_of (own ++ notify ∷ [])
  pub notified : (path : List ℕ) → Among path (take n (waiting_of own)) → is_notified path (own ++ notify ∷ []) ≡ true
