-- Semaphores: held as often as acquired, less the releases that were no mistake.
use Rattle.std.specs.Prelude.{ℕ, ◌-◌, List, [], ◌∷◌, length, Option, Some, None, Bool, false, if◌then◌else◌, nat_eq, nat_lt, filter, option_and_then}
use Rattle.jt_base.specs.declared.operation.Op.{Op}
use Rattle.jt_base.specs.declared.operation.Op.TheVariants.{NewSemaphore, Acquire, Release}
use Rattle.jt_base.specs.declared.operation.Reply.{Reply}
use Rattle.jt_base.specs.declared.operation.Reply.TheVariants as reply
use Rattle.jt_base.specs.declared.entry.Entry.{Entry}
use Rattle.jt_laws.specs.Tasks.{ok_if}
use Rattle.jt_laws.specs.Locks.{is_ok}

-- the count of the semaphore that the first entry makes; other objects have none
abbrev pub count_by : Op → Option ℕ
count_by (NewSemaphore name count) = Some count
count_by op = None

abbrev pub count_of : List Entry → Option ℕ
count_of [] = None
count_of (e ∷ es) = count_by e.op

abbrev pub is_acquire : Op → Reply → Bool
is_acquire (Acquire name) r = is_ok r
is_acquire op r = false

abbrev pub is_release : Op → Reply → Bool
is_release (Release name) r = is_ok r
is_release op r = false

-- how often it is held
abbrev pub held_of : List Entry → ℕ
held_of own =
    length (filter (λ e. is_acquire e.op e.reply) own) - length (filter (λ e. is_release e.op e.reply) own)

abbrev pub acquire_reply : List Entry → Option Reply
acquire_reply own = option_and_then (λ (count : ℕ). ok_if (nat_lt (held_of own) count)) (count_of own)

abbrev pub release_reply : List Entry → Option Reply
release_reply own =
    option_and_then (λ (count : ℕ). Some (if nat_eq (held_of own) 0 then reply.NotHeld else reply.Ok)) (count_of own)
