-- The law of every object, as one function: the only reply that an operation can have after the
-- earlier entries of its object. So no operation is allowed with two replies.
use Rattle.std.specs.Prelude.{◌≡◌, ℕ, List, [], ◌∷◌, ◌++◌, Option, Some, None, Bool, not}
use Rattle.std.specs.Option.{is_some}
use Rattle.jt_base.specs.declared.operation.Op.{Op}
use Rattle.jt_base.specs.declared.operation.Op.TheVariants.{Begin, End, Fail, Spawn, Fetch, Wait, Yield, Print, NewChannel, NewAtomic, NewEvent, NewCondition, NewLock, NewSemaphore, Put, Offer, Landed, Take, Next, Close, IsOpen, IsReady, Notify, Reset, EWait, Lock, Unlock, CWait, CBack, CNotify, Acquire, Release, AGet, ASet, AAdd, ASub, AXchg, ACas}
use Rattle.jt_base.specs.declared.operation.Reply.{Reply}
use Rattle.jt_base.specs.declared.operation.Reply.TheVariants as reply
use Rattle.jt_base.specs.declared.entry.Entry.{Entry}
use Rattle.jt_base.specs.declared.entry.Ask.{Ask}
use Rattle.jt_base.specs.declared.entry.Ask.TheVariants.{Done, NotYet}
use Rattle.jt_base.specs.declared.object.Object.{Object}
use Rattle.jt_laws.specs.Entries.{of_object}
use Rattle.jt_laws.specs.Tasks.{ok_if, is_new, spawn_reply, begin_reply, own_reply, fetch_reply, wait_reply}
use Rattle.jt_laws.specs.Channels.{on_channel, put_reply, offer_reply, landed_reply, take_reply, has_item, is_closed}
use Rattle.jt_laws.specs.Atomics.{value_reply, set_reply}
use Rattle.jt_laws.specs.Events.{event_reply, event_wait_reply}
use Rattle.jt_laws.specs.Locks.{lock_reply, unlock_reply, condition_wait_reply, back_reply, notify_reply}
use Rattle.jt_laws.specs.Semaphores.{acquire_reply, release_reply}

-- the reply to a task's operation after the earlier entries of its object, oldest first; none where it isn't allowed
abbrev pub reply_after : List Entry → List ℕ → Op → Option Reply
reply_after own task Begin = begin_reply own task
reply_after own task (End value) = own_reply own
reply_after own task (Fail fault) = own_reply own
reply_after own task (Spawn path how) = spawn_reply own path
reply_after own task (Fetch path) = fetch_reply own
reply_after own task (Wait path) = wait_reply own
reply_after own task Yield = own_reply own
reply_after own task (Print text) = Some reply.Ok
reply_after own task (NewChannel name capacity) = ok_if (is_new own)
reply_after own task (NewAtomic name v) = ok_if (is_new own)
reply_after own task (NewEvent name auto) = ok_if (is_new own)
reply_after own task (NewCondition name) = ok_if (is_new own)
reply_after own task (NewLock name) = ok_if (is_new own)
reply_after own task (NewSemaphore name count) = ok_if (is_new own)
reply_after own task (Put name v) = on_channel own put_reply
reply_after own task (Offer name v) = on_channel own offer_reply
reply_after own task (Landed name number) = on_channel own (landed_reply number)
reply_after own task (Take name) = on_channel own (take_reply reply.Closed)
reply_after own task (Next name) = on_channel own (take_reply reply.NoItem)
reply_after own task (Close name) = on_channel own (λ capacity entries. Some reply.Ok)
reply_after own task (IsOpen name) = on_channel own (λ capacity entries. Some (reply.Flag (not (is_closed entries))))
reply_after own task (IsReady name) = on_channel own (λ capacity entries. Some (reply.Flag (has_item capacity entries)))
reply_after own task (Notify name) = event_reply own
reply_after own task (Reset name) = event_reply own
reply_after own task (EWait name) = event_wait_reply own
reply_after own task (Lock name) = lock_reply own task
reply_after own task (Unlock name) = unlock_reply own task
reply_after own task (CWait name) = condition_wait_reply own task
reply_after own task (CBack name) = back_reply own task
reply_after own task (CNotify name all) = notify_reply own task all
reply_after own task (Acquire name) = acquire_reply own
reply_after own task (Release name) = release_reply own
reply_after own task (AGet name) = value_reply own
reply_after own task (ASet name v) = set_reply own
reply_after own task (AAdd name v) = value_reply own
reply_after own task (ASub name v) = value_reply own
reply_after own task (AXchg name v) = value_reply own
reply_after own task (ACas name expected v) = value_reply own

-- an object's entries are lawful where each has the reply that the entries before it allow
abbrev pub LawfulFrom : List Entry → List Entry → Type 0
LawfulFrom past [] = Unit {0}
LawfulFrom past (e ∷ es) = (reply_after past e.task e.op ≡ Some e.reply) × LawfulFrom (past ++ e ∷ []) es

abbrev pub IsLawful : List Entry → Type 0
IsLawful own = LawfulFrom [] own

-- a list of entries is lawful where the entries of each object are
abbrev pub AreLawful : List Entry → Type 0
AreLawful entries = (o : Object) → IsLawful (of_object o entries)

-- an object that is asked answers by its law
abbrev pub answer_of : Option Reply → Ask
answer_of None = NotYet
answer_of (Some r) = Done r

-- An object in the state `before` is asked a task's operation, answers and is in the state `after`:
-- whatever lawful list of its entries left the first state, the answer is that of the law after this
-- list, and the longer list leaves the second state. `left_by` is the state that a list leaves.
pub record Asked (S : Type 0) (left_by : List Entry → Option S) (task : List ℕ) (op : Op) (before : S) (answer : Ask) (after : S) : Type 0 where
  pub answers : (past : List Entry) → IsLawful past → left_by past ≡ Some before → answer ≡ answer_of (reply_after past task op)
  pub moves : (past : List Entry) (e : Entry) → IsLawful past → left_by past ≡ Some before → e.task ≡ task → e.op ≡ op → reply_after past task op ≡ Some e.reply → left_by (past ++ e ∷ []) ≡ Some after
  pub stays : answer ≡ NotYet → after ≡ before

-- An object in this state says beforehand whether it would allow a task's operation: whatever lawful list
-- of its entries left the state, it says yes exactly where the law has a reply after this list.
abbrev pub Allowed : (S : Type 0) → (List Entry → Option S) → List ℕ → Op → S → Bool → Type 0
Allowed S left_by task op state answer = (past : List Entry) → IsLawful past → left_by past ≡ Some state → answer ≡ is_some (reply_after past task op)

-- An object is made in this state by an operation: the entry of it, as the object's first, leaves the state.
abbrev pub MadeBy : (S : Type 0) → (List Entry → Option S) → Op → S → Type 0
MadeBy S left_by op state = (e : Entry) → e.op ≡ op → left_by (e ∷ []) ≡ Some state

-- A state, and for how many more items memory is reserved.
pub record WithRoom (S : Type 0) : Type 0 where
  pub state : S
  pub room : ℕ
