-- The objects of small scripts, entry by entry: the main task's path is empty, that of its first
-- spawn is 0.
use Rattle.std.specs.Prelude.{◌≡◌, ℕ, List, [], ◌∷◌, ◌++◌, pos, negsuc, Some, None, true, false, refl}
use Rattle.jt_base.specs.declared.operation.Op.{Op}
use Rattle.jt_base.specs.declared.operation.Op.TheVariants.{Begin, End, Fail, Spawn, Fetch, Wait, Yield, NewChannel, NewAtomic, NewEvent, NewCondition, NewLock, NewSemaphore, Put, Offer, Landed, Take, Next, Close, IsOpen, IsReady, Notify, Reset, EWait, Lock, Unlock, CWait, CBack, CNotify, Acquire, Release, AGet, ASet, AAdd, ASub, AXchg, ACas}
use Rattle.jt_base.specs.declared.operation.Reply.{Reply}
use Rattle.jt_base.specs.declared.operation.Reply.TheVariants as reply
use Rattle.jt_base.specs.declared.operation.How.TheVariants as how
use Rattle.jt_base.specs.declared.operation.Fault.TheVariants as fault
use Rattle.jt_base.specs.declared.value.Value.TheVariants as value
use Rattle.jt_base.specs.declared.entry.Entry.{Entry}
use Rattle.jt_base.specs.declared.name.Name.{Name}
use Rattle.jt_laws.specs.Channels.{channel_left_by}
use Rattle.jt_laws.specs.Locks.{level, waiting_of}
use Rattle.jt_laws.specs.LockLaws.{EndsWithReturn, AddsUpSince}
use Rattle.jt_laws.specs.Objects.{reply_after, IsLawful}
use Rattle.jt_num.specs.Wrapping.{wrapped}

abbrev main : List ℕ
main = []

abbrev child : List ℕ
child = 0 ∷ []

-- the first object that main makes
abbrev n : Name
n = record { path = []; number = 0 }

abbrev by : List ℕ → Op → Reply → Entry
by task op r = record { stamp = 0; worker = 0; task = task; op = op; reply = r }

-- `c = Channel{Int64}(); put!(c, 1)`: the offer never lands
abbrev offered : List Entry
offered = by main (NewChannel n 0) reply.Ok ∷ by main (Offer n (pos 1)) (reply.Int (pos 1)) ∷ []

offered_lawful : IsLawful offered
offered_lawful = (refl, (refl, tt))

landed_never : reply_after offered main (Landed n 1) ≡ None
landed_never = refl

-- `c = Channel{Int64}(1); put!(c, 5); close(c); println(take!(c)); take!(c)`: an item that is left
-- comes out of a closed channel, and then none
abbrev drained : List Entry
drained =
    by main (NewChannel n 1) reply.Ok ∷ by main (Put n (pos 5)) reply.Ok ∷ by main (Close n) reply.Ok ∷ by main (Take n) (reply.Int (pos 5)) ∷ by main (Take n) reply.Closed ∷ []

drained_lawful : IsLawful drained
drained_lawful = (refl, (refl, (refl, (refl, (refl, tt)))))

-- a second put has no room before the take, and a put after the close is refused
full : reply_after (by main (NewChannel n 1) reply.Ok ∷ by main (Put n (pos 5)) reply.Ok ∷ []) main (Put n (pos 6)) ≡ None
full = refl

put_closed : reply_after drained main (Put n (pos 6)) ≡ Some reply.Closed
put_closed = refl

next_closed : reply_after drained main (Next n) ≡ Some reply.NoItem
next_closed = refl

-- `c = Channel{Int64}(); t = @async put!(c, 7); println(take!(c)); close(c); println(isopen(c))`
abbrev met : List Entry
met =
    by main (NewChannel n 0) reply.Ok ∷ by child (Offer n (pos 7)) (reply.Int (pos 1)) ∷ by main (Take n) (reply.Int (pos 7)) ∷ by child (Landed n 1) reply.Ok ∷ by main (Close n) reply.Ok ∷ by main (IsOpen n) (reply.Flag false) ∷ []

met_lawful : IsLawful met
met_lawful = (refl, (refl, (refl, (refl, (refl, (refl, tt))))))

-- a take of an empty channel waits, and so does a put of an unbuffered one for ever
take_waits : reply_after (by main (NewChannel n 0) reply.Ok ∷ []) main (Take n) ≡ None
take_waits = refl

no_buffer : reply_after met main (Put n (pos 1)) ≡ None
no_buffer = refl

-- a close withdraws an offer: nothing is left to take, and it never lands
abbrev withdrawn : List Entry
withdrawn = offered ++ by child (IsReady n) (reply.Flag true) ∷ by child (Close n) reply.Ok ∷ by child (IsReady n) (reply.Flag false) ∷ by child (Next n) reply.NoItem ∷ by main (Landed n 1) reply.Closed ∷ by main (Offer n (pos 2)) reply.Closed ∷ []

withdrawn_lawful : IsLawful withdrawn
withdrawn_lawful = (refl, (refl, (refl, (refl, (refl, (refl, (refl, (refl, tt))))))))

-- `c = Channel{Int64}(1); put!(c, 1); println(isready(c)); close(c); println(isready(c)); println(take!(c)); println(isready(c))`
abbrev ready : List Entry
ready =
    by main (NewChannel n 1) reply.Ok ∷ by main (Put n (pos 1)) reply.Ok ∷ by main (IsReady n) (reply.Flag true) ∷ by main (Close n) reply.Ok ∷ by main (IsReady n) (reply.Flag true) ∷ by main (Take n) (reply.Int (pos 1)) ∷ by main (IsReady n) (reply.Flag false) ∷ []

ready_lawful : IsLawful ready
ready_lawful = (refl, (refl, (refl, (refl, (refl, (refl, (refl, tt)))))))

-- what lists leave
left_ready : channel_left_by ready ≡ Some (record { capacity = 1; items = []; taken = 0; closed = true })
left_ready = refl

left_met : channel_left_by met ≡ Some (record { capacity = 0; items = []; taken = 1; closed = true })
left_met = refl

left_offered : channel_left_by offered ≡ Some (record { capacity = 0; items = pos 1 ∷ []; taken = 0; closed = false })
left_offered = refl

-- `a = Threads.Atomic{Int64}(5); println(Threads.atomic_cas!(a, 4, 9), " ", Threads.atomic_xchg!(a, 7), " ", a[])`
abbrev exchanged : List Entry
exchanged =
    by main (NewAtomic n (pos 5)) reply.Ok ∷ by main (ACas n (pos 4) (pos 9)) (reply.Int (pos 5)) ∷ by main (AXchg n (pos 7)) (reply.Int (pos 5)) ∷ by main (AGet n) (reply.Int (pos 7)) ∷ []

exchanged_lawful : IsLawful exchanged
exchanged_lawful = (refl, (refl, (refl, (refl, tt))))

-- sums and differences wrap
abbrev summed : List Entry
summed =
    by main (NewAtomic n (pos 9223372036854775807)) reply.Ok ∷ by main (AAdd n (pos 1)) (reply.Int (pos 9223372036854775807)) ∷ by child (ASub n (pos 2)) (reply.Int (negsuc 9223372036854775807)) ∷ by main (ACas n (pos 9223372036854775806) (pos 3)) (reply.Int (pos 9223372036854775806)) ∷ by main (AGet n) (reply.Int (pos 3)) ∷ by main (ASet n (pos 4)) reply.Ok ∷ by main (AGet n) (reply.Int (pos 4)) ∷ []

summed_lawful : IsLawful summed
unfolding wrapped
summed_lawful = (refl, (refl, (refl, (refl, (refl, (refl, (refl, tt)))))))

-- `e = Base.Event(true); notify(e); wait(e); wait(e)`: the first wait resets it
abbrev awaited : List Entry
awaited = by main (NewEvent n true) reply.Ok ∷ by main (Notify n) reply.Ok ∷ by main (EWait n) reply.Ok ∷ []

awaited_lawful : IsLawful awaited
awaited_lawful = (refl, (refl, (refl, tt)))

awaited_twice : reply_after awaited main (EWait n) ≡ None
awaited_twice = refl

-- an event that isn't automatic stays set until its reset
abbrev set : List Entry
set = by main (NewEvent n false) reply.Ok ∷ by main (Notify n) reply.Ok ∷ by main (EWait n) reply.Ok ∷ by child (EWait n) reply.Ok ∷ by main (Reset n) reply.Ok ∷ []

set_lawful : IsLawful set
set_lawful = (refl, (refl, (refl, (refl, (refl, tt)))))

reset : reply_after set main (EWait n) ≡ None
reset = refl

-- `c = Threads.Condition(); lock(c); println(notify(c)); unlock(c); unlock(c)`
abbrev unlocked_twice : List Entry
unlocked_twice =
    by main (NewCondition n) reply.Ok ∷ by main (Lock n) reply.Ok ∷ by main (CNotify n true) (reply.Int (pos 0)) ∷ by main (Unlock n) reply.Ok ∷ by main (Unlock n) reply.NotLocked ∷ []

unlocked_twice_lawful : IsLawful unlocked_twice
unlocked_twice_lawful = (refl, (refl, (refl, (refl, (refl, tt)))))

-- a task waits on a condition with two levels and has them again after a notify, once the lock is free
abbrev waiting : List Entry
waiting = by main (NewCondition n) reply.Ok ∷ by child (Lock n) reply.Ok ∷ by child (Lock n) reply.Ok ∷ by child (CWait n) reply.Ok ∷ by main (Lock n) reply.Ok ∷ []

abbrev notified : List Entry
notified = waiting ++ by main (CNotify n true) (reply.Int (pos 1)) ∷ by main (Unlock n) reply.Ok ∷ []

abbrev back : List Entry
back = notified ++ by child (CBack n) reply.Ok ∷ by main (Unlock n) reply.NotOwner ∷ by child (Unlock n) reply.Ok ∷ by child (Unlock n) reply.Ok ∷ []

back_lawful : IsLawful back
back_lawful = (refl, (refl, (refl, (refl, (refl, (refl, (refl, (refl, (refl, (refl, (refl, tt)))))))))))

one_waits : waiting_of waiting ≡ child ∷ []
one_waits = refl

two_levels : level child (notified ++ by child (CBack n) reply.Ok ∷ []) ≡ 2
two_levels = refl

back_with_two : EndsWithReturn child (notified ++ by child (CBack n) reply.Ok ∷ []) 2
back_with_two = record {
  before = by main (NewCondition n) reply.Ok ∷ by child (Lock n) reply.Ok ∷ by child (Lock n) reply.Ok ∷ [];
  wait = by child (CWait n) reply.Ok;
  between = by main (Lock n) reply.Ok ∷ by main (CNotify n true) (reply.Int (pos 1)) ∷ by main (Unlock n) reply.Ok ∷ [];
  back = by child (CBack n) reply.Ok;
  is_wait = record { task = refl; waits = refl };
  is_last = refl;
  is_return = record { task = refl; returns = refl };
  level_before = refl;
  parts = refl;
}

-- one of the two levels is given back
one_left : AddsUpSince child (notified ++ by child (CBack n) reply.Ok ∷ []) (by main (Unlock n) reply.NotOwner ∷ by child (Unlock n) reply.Ok ∷ []) 2
one_left = refl

-- not while the lock is held, and not before a notify
held_yet : reply_after (waiting ++ by main (CNotify n true) (reply.Int (pos 1)) ∷ []) child (CBack n) ≡ None
held_yet = refl

not_notified : reply_after (waiting ++ by main (Unlock n) reply.Ok ∷ []) child (CBack n) ≡ None
not_notified = refl

-- `t = @spawn begin lock(c); put!(ready, 1); wait(c); unlock(c); 9 end`, and then in main
-- `take!(ready); lock(c); println(notify(c)); unlock(c); println(fetch(t))`
abbrev woken : List Entry
woken =
    by main (NewCondition n) reply.Ok ∷ by child (Lock n) reply.Ok ∷ by child (CWait n) reply.Ok ∷ by main (Lock n) reply.Ok ∷ by main (CNotify n true) (reply.Int (pos 1)) ∷ by main (Unlock n) reply.Ok ∷ by child (CBack n) reply.Ok ∷ by child (Unlock n) reply.Ok ∷ []

woken_lawful : IsLawful woken
woken_lawful = (refl, (refl, (refl, (refl, (refl, (refl, (refl, (refl, tt))))))))

abbrev handed : List Entry
handed = by main (NewChannel n 1) reply.Ok ∷ by child (Put n (pos 1)) reply.Ok ∷ by main (Take n) (reply.Int (pos 1)) ∷ []

handed_lawful : IsLawful handed
handed_lawful = (refl, (refl, (refl, tt)))

-- a notify that isn't of all wakes the oldest
abbrev crowd : List Entry
crowd = by main (NewCondition n) reply.Ok ∷ by child (Lock n) reply.Ok ∷ by child (CWait n) reply.Ok ∷ by (1 ∷ []) (Lock n) reply.Ok ∷ by (1 ∷ []) (CWait n) reply.Ok ∷ by main (Lock n) reply.Ok ∷ by main (CNotify n false) (reply.Int (pos 1)) ∷ by main (Unlock n) reply.Ok ∷ []

crowd_lawful : IsLawful crowd
crowd_lawful = (refl, (refl, (refl, (refl, (refl, (refl, (refl, (refl, tt))))))))

oldest_is_back : reply_after crowd child (CBack n) ≡ Some reply.Ok
oldest_is_back = refl

younger_waits : reply_after crowd (1 ∷ []) (CBack n) ≡ None
younger_waits = refl

-- a lock is no condition, and another task waits for it
abbrev locked : List Entry
locked = by main (NewLock n) reply.Ok ∷ by main (Lock n) reply.Ok ∷ by main (Lock n) reply.Ok ∷ by main (Unlock n) reply.Ok ∷ by child (Unlock n) reply.NotOwner ∷ []

locked_lawful : IsLawful locked
locked_lawful = (refl, (refl, (refl, (refl, (refl, tt)))))

other_waits : reply_after locked child (Lock n) ≡ None
other_waits = refl

no_condition : reply_after locked main (CWait n) ≡ None
no_condition = refl

-- `s = Base.Semaphore(1); Base.acquire(s); Base.release(s); Base.release(s)`
abbrev released : List Entry
released = by main (NewSemaphore n 1) reply.Ok ∷ by main (Acquire n) reply.Ok ∷ by main (Release n) reply.Ok ∷ by main (Release n) reply.NotHeld ∷ []

released_lawful : IsLawful released
released_lawful = (refl, (refl, (refl, (refl, tt))))

held_up : reply_after (by main (NewSemaphore n 1) reply.Ok ∷ by main (Acquire n) reply.Ok ∷ []) child (Acquire n) ≡ None
held_up = refl

-- a task of main that ends with 9, and what main fetches
abbrev fetched : List Entry
fetched =
    by main (Spawn child how.Default) reply.Ok ∷ by child Begin reply.Ok ∷ by child Yield reply.Ok ∷ by child (End (value.Int (pos 9))) reply.Ok ∷ by main (Fetch child) (reply.Val (value.Int (pos 9))) ∷ by main (Wait child) reply.Ok ∷ []

fetched_lawful : IsLawful fetched
fetched_lawful = (refl, (refl, (refl, (refl, (refl, (refl, tt))))))

-- it begins once, does nothing after its end, and isn't fetched before
abbrev begun : List Entry
begun = by main (Spawn child how.Default) reply.Ok ∷ by child Begin reply.Ok ∷ []

begins_once : reply_after begun child Begin ≡ None
begins_once = refl

ends_once : reply_after fetched child (Fail fault.Divide) ≡ None
ends_once = refl

yields_no_more : reply_after fetched child Yield ≡ None
yields_no_more = refl

fetch_waits : reply_after begun main (Fetch child) ≡ None
fetch_waits = refl

spawned_once : reply_after begun main (Spawn child how.Default) ≡ None
spawned_once = refl

-- the main task has no Spawn; one that fails
abbrev failed : List Entry
failed = by main Begin reply.Ok ∷ by main (Fail fault.Divide) reply.Ok ∷ by child (Wait main) reply.Failed ∷ by child (Fetch main) reply.Failed ∷ []

failed_lawful : IsLawful failed
failed_lawful = (refl, (refl, (refl, (refl, tt))))

main_is_there : reply_after [] main (Spawn main how.Async) ≡ None
main_is_there = refl

not_spawned : reply_after [] child Begin ≡ None
not_spawned = refl

-- nothing is done to an object that was never made, is of another kind, or twice made
never_made : reply_after [] main (Take n) ≡ None
never_made = refl

other_kind : reply_after exchanged main (Take n) ≡ None
other_kind = refl

other_value : reply_after drained main (AGet n) ≡ None
other_value = refl

made_once : reply_after drained main (NewLock n) ≡ None
made_once = refl
