-- What a list of a lock's entries leaves, and how the lock answers.
use Rattle.std.specs.Prelude.{ℕ, ◌+◌, ◌-◌, List, [], ◌∷◌, Option, Some, None, Bool, true, false, Result, Ok, Err, if◌then◌else◌, nat_le, nat_lt, find, option_map}
use Rattle.jt_base.specs.declared.operation.Op.{Op}
use Rattle.jt_base.specs.declared.operation.Op.TheVariants.{NewLock, Lock, Unlock}
use Rattle.jt_base.specs.declared.operation.Reply.{Reply}
use Rattle.jt_base.specs.declared.operation.Reply.TheVariants as reply
use Rattle.jt_base.specs.declared.entry.Entry.{Entry}
use Rattle.jt_base.specs.declared.entry.Ask.{Ask}
use Rattle.jt_base.specs.declared.entry.Ask.TheVariants.{Done, NotYet}
use Rattle.jt_laws.specs.Entries.{same_path}
use Rattle.jt_laws.specs.Locks.{level}

-- the operations on locks
abbrev pub is_lock_op : Op → Bool
is_lock_op (Lock name) = true
is_lock_op (Unlock name) = true
is_lock_op op = false

-- the task that holds a lock, and its level
pub record Holder : Type 0 where
  pub task : List ℕ
  pub level : ℕ

-- the task of an entry that has a level
abbrev pub holder_of : List Entry → Option Holder
holder_of own =
    option_map (λ (e : Entry). record { task = e.task; level = level e.task own }) (find (λ e. nat_lt 0 (level e.task own)) own)

-- a lock that isn't a condition
abbrev pub is_new_lock : Op → Bool
is_new_lock (NewLock name) = true
is_new_lock op = false

abbrev pub is_plain_lock : List Entry → Bool
is_plain_lock [] = false
is_plain_lock (e ∷ es) = is_new_lock e.op

abbrev pub lock_left_by : List Entry → Option (Option Holder)
lock_left_by own = if is_plain_lock own then Some (holder_of own) else None

-- the level of a task, by the holder
abbrev pub level_in : Option Holder → List ℕ → ℕ
level_in None task = 0
level_in (Some h) task = if same_path h.task task then h.level else 0

-- a lock by a task that holds it, or while it is free
abbrev pub lock_answer : Option Holder → List ℕ → Ask
lock_answer None task = Done reply.Ok
lock_answer (Some h) task = if same_path h.task task then Done reply.Ok else NotYet

abbrev pub after_lock : Option Holder → List ℕ → Option Holder
after_lock None task = Some (record { task = task; level = 1 })
after_lock (Some h) task =
    if same_path h.task task then Some (record { task = h.task; level = h.level + 1 }) else Some h

-- the reply to what only the holder may do
abbrev pub reply_to : Option Holder → List ℕ → Reply → Reply
reply_to None task held = reply.NotLocked
reply_to (Some h) task held = if same_path h.task task then held else reply.NotOwner

abbrev pub lowered : Holder → Option Holder
lowered h = if nat_le h.level 1 then None else Some (record { task = h.task; level = h.level - 1 })

abbrev pub after_unlock : Option Holder → List ℕ → Option Holder
after_unlock None task = None
after_unlock (Some h) task = if same_path h.task task then lowered h else Some h

-- the level of a task that holds the lock, or why it doesn't
abbrev pub holding : Option Holder → List ℕ → Result ℕ Reply
holding None task = Err reply.NotLocked
holding (Some h) task = if same_path h.task task then Ok h.level else Err reply.NotOwner
