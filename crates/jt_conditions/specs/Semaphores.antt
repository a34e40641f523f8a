-- What a list of a semaphore's entries leaves, and how the semaphore answers.
use Rattle.std.specs.Prelude.{ℕ, ◌+◌, ◌-◌, Bool, true, false, List, Option, if◌then◌else◌, nat_eq, nat_lt, option_map}
use Rattle.jt_base.specs.declared.entry.Entry.{Entry}
use Rattle.jt_base.specs.declared.entry.Ask.{Ask}
use Rattle.jt_base.specs.declared.entry.Ask.TheVariants.{Done, NotYet}
use Rattle.jt_base.specs.declared.operation.Op.{Op}
use Rattle.jt_base.specs.declared.operation.Op.TheVariants.{Acquire, Release}
use Rattle.jt_base.specs.declared.operation.Reply.TheVariants as reply
use Rattle.jt_laws.specs.Semaphores.{count_of, held_of}

-- how often the semaphore can be held at a time, and how often it is held
pub record Semaphore : Type 0 where
  pub count : ℕ
  pub held : ℕ

abbrev pub semaphore_left_by : List Entry → Option Semaphore
semaphore_left_by own =
    option_map (λ (count : ℕ). record { count = count; held = held_of own }) (count_of own)

-- the operations on semaphores
abbrev pub is_semaphore_op : Op → Bool
is_semaphore_op (Acquire name) = true
is_semaphore_op (Release name) = true
is_semaphore_op op = false

-- an acquire needs it held less often than its count
abbrev pub acquire_answer : Semaphore → Ask
acquire_answer s = if nat_lt s.held s.count then Done reply.Ok else NotYet

abbrev pub after_acquire : Semaphore → Semaphore
after_acquire s = if nat_lt s.held s.count then record { count = s.count; held = s.held + 1 } else s

-- a release of a semaphore that isn't held changes nothing
abbrev pub release_answer : Semaphore → Ask
release_answer s = Done (if nat_eq s.held 0 then reply.NotHeld else reply.Ok)

abbrev pub after_release : Semaphore → Semaphore
after_release s = record { count = s.count; held = s.held - 1 }
