-- Locks, which one task holds at a time and may take more than once, and conditions: locks with a
-- list of tasks that wait to be notified.
use Rattle.std.specs.Prelude.{ℕ, ◌+◌, ◌-◌, pos, List, [], ◌∷◌, ◌++◌, length, drop, min, Option, Some, None, Bool, true, false, ◌&&◌, not, if◌then◌else◌, nat_eq, nat_lt, filter, fold}
use Rattle.std.specs.List.{list_any, list_all}
use Rattle.jt_base.specs.declared.operation.Op.{Op}
use Rattle.jt_base.specs.declared.operation.Op.TheVariants.{NewCondition, NewLock, Lock, Unlock, CWait, CBack, CNotify}
use Rattle.jt_base.specs.declared.operation.Reply.{Reply}
use Rattle.jt_base.specs.declared.operation.Reply.TheVariants as reply
use Rattle.jt_base.specs.declared.entry.Entry.{Entry}
use Rattle.jt_laws.specs.Tasks.{ok_if}
use Rattle.jt_laws.specs.Entries.{same_path, of_task}

-- what the first entry makes
abbrev pub makes_condition : Op → Bool
makes_condition (NewCondition name) = true
makes_condition op = false

abbrev pub makes_lock : Op → Bool
makes_lock (NewLock name) = true
makes_lock (NewCondition name) = true
makes_lock op = false

abbrev pub is_condition : List Entry → Bool
is_condition [] = false
is_condition (e ∷ es) = makes_condition e.op

-- a condition is a lock too
abbrev pub is_lock : List Entry → Bool
is_lock [] = false
is_lock (e ∷ es) = makes_lock e.op

abbrev pub is_ok : Reply → Bool
is_ok reply.Ok = true
is_ok r = false

-- a task's level, which counts how often it holds the lock, and its level just before it last waited
pub record Levels : Type 0 where
  pub now : ℕ
  pub before_wait : ℕ

abbrev pub unlocked : Levels → Reply → Levels
unlocked l reply.Ok = record { now = l.now - 1; before_wait = l.before_wait }
unlocked l r = l

abbrev pub waits : Levels → Reply → Levels
waits l reply.Ok = record { now = 0; before_wait = l.now }
waits l r = l

-- a lock adds a level and an unlock takes one away; a wait gives all up, and the task has them again when it is back
abbrev pub levels_by : Op → Levels → Reply → Levels
levels_by (Lock name) l r = record { now = l.now + 1; before_wait = l.before_wait }
levels_by (Unlock name) l r = unlocked l r
levels_by (CWait name) l r = waits l r
levels_by (CBack name) l r = record { now = l.before_wait; before_wait = l.before_wait }
levels_by op l r = l

abbrev pub levels_after : Levels → Entry → Levels
levels_after l e = levels_by e.op l e.reply

abbrev pub no_levels : Levels
no_levels = record { now = 0; before_wait = 0 }

-- the level of a task after a list
abbrev pub levels_of : List ℕ → List Entry → Levels
levels_of path own = fold levels_after no_levels (of_task path own)

abbrev pub level : List ℕ → List Entry → ℕ
level path own = (levels_of path own).now

-- no task has a level
abbrev pub is_free : List Entry → Bool
is_free own = list_all (λ e. nat_eq (level e.task own) 0) own

-- a task other than this one has a level
abbrev pub is_held_by_other : List ℕ → List Entry → Bool
is_held_by_other path own = list_any (λ e. not (same_path e.task path) && nat_lt 0 (level e.task own)) own

-- the reply to what only the holder may do
abbrev pub holder_reply : List ℕ → List Entry → Reply → Option Reply
holder_reply path own held =
    Some (if is_free own then reply.NotLocked else if is_held_by_other path own then reply.NotOwner else held)

abbrev pub lock_reply : List Entry → List ℕ → Option Reply
lock_reply own path = ok_if (is_lock own && not (is_held_by_other path own))

abbrev pub unlock_reply : List Entry → List ℕ → Option Reply
unlock_reply own path = if is_lock own then holder_reply path own reply.Ok else None

-- the waiting list: a task joins its end by a wait, and a notify takes as many from its front as it replies
abbrev pub joined : List ℕ → Reply → List (List ℕ) → List (List ℕ)
joined path reply.Ok waiting = waiting ++ path ∷ []
joined path r waiting = waiting

abbrev pub without_first : Reply → List (List ℕ) → List (List ℕ)
without_first (reply.Int (pos n)) waiting = drop n waiting
without_first r waiting = waiting

abbrev pub waiting_by : Op → List (List ℕ) → List ℕ → Reply → List (List ℕ)
waiting_by (CWait name) waiting path r = joined path r waiting
waiting_by (CNotify name all) waiting path r = without_first r waiting
waiting_by op waiting path r = waiting

abbrev pub waiting_after : List (List ℕ) → Entry → List (List ℕ)
waiting_after waiting e = waiting_by e.op waiting e.task e.reply

abbrev pub waiting_of : List Entry → List (List ℕ)
waiting_of own = fold waiting_after [] own

-- how many a notify wakes: all that wait, or the oldest one if there is one
abbrev pub woken_by : Bool → List Entry → ℕ
woken_by true own = length (waiting_of own)
woken_by false own = min 1 (length (waiting_of own))

abbrev pub is_wait : Op → Reply → Bool
is_wait (CWait name) r = is_ok r
is_wait op r = false

abbrev pub is_back : Op → Bool
is_back (CBack name) = true
is_back op = false

-- how often a task has waited, how often it came back, and how often it stands in the waiting list
abbrev pub waits_of : List ℕ → List Entry → ℕ
waits_of path own = length (filter (λ e. is_wait e.op e.reply) (of_task path own))

abbrev pub backs_of : List ℕ → List Entry → ℕ
backs_of path own = length (filter (λ e. is_back e.op) (of_task path own))

abbrev pub places_of : List ℕ → List Entry → ℕ
places_of path own = length (filter (λ waiting. same_path waiting path) (waiting_of own))

-- a wait of the task was notified, and it isn't back from it
abbrev pub is_notified : List ℕ → List Entry → Bool
is_notified path own = nat_lt (backs_of path own + places_of path own) (waits_of path own)

abbrev pub condition_wait_reply : List Entry → List ℕ → Option Reply
condition_wait_reply own path = if is_condition own then holder_reply path own reply.Ok else None

abbrev pub back_reply : List Entry → List ℕ → Option Reply
back_reply own path = ok_if (is_condition own && (is_free own && is_notified path own))

abbrev pub notify_reply : List Entry → List ℕ → Bool → Option Reply
notify_reply own path all =
    if is_condition own then holder_reply path own (reply.Int (pos (woken_by all own))) else None
