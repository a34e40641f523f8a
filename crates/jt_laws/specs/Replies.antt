-- Which replies an operation can have.
use Rattle.std.specs.Prelude.{Bool, true, false}
use Rattle.jt_base.specs.declared.operation.Op.{Op}
use Rattle.jt_base.specs.declared.operation.Op.TheVariants.{Begin, End, Fail, Spawn, Fetch, Wait, Yield, Print, NewChannel, NewAtomic, NewEvent, NewCondition, NewLock, NewSemaphore, Put, Offer, Landed, Take, Next, Close, IsOpen, IsReady, Notify, Reset, EWait, Lock, Unlock, CWait, CBack, CNotify, Acquire, Release, AGet, ASet, AAdd, ASub, AXchg, ACas}
use Rattle.jt_base.specs.declared.operation.Reply.{Reply}
use Rattle.jt_base.specs.declared.operation.Reply.TheVariants as reply
use Rattle.jt_laws.specs.Locks.{is_ok}

abbrev pub is_number : Reply → Bool
is_number (reply.Int v) = true
is_number r = false

abbrev pub is_flag : Reply → Bool
is_flag (reply.Flag b) = true
is_flag r = false

abbrev pub is_result : Reply → Bool
is_result (reply.Val v) = true
is_result reply.Failed = true
is_result r = false

abbrev pub is_ok_or_failed : Reply → Bool
is_ok_or_failed reply.Ok = true
is_ok_or_failed reply.Failed = true
is_ok_or_failed r = false

abbrev pub is_ok_or_closed : Reply → Bool
is_ok_or_closed reply.Ok = true
is_ok_or_closed reply.Closed = true
is_ok_or_closed r = false

abbrev pub is_number_or_closed : Reply → Bool
is_number_or_closed (reply.Int v) = true
is_number_or_closed reply.Closed = true
is_number_or_closed r = false

abbrev pub is_number_or_no_item : Reply → Bool
is_number_or_no_item (reply.Int v) = true
is_number_or_no_item reply.NoItem = true
is_number_or_no_item r = false

abbrev pub is_ok_or_not_held : Reply → Bool
is_ok_or_not_held reply.Ok = true
is_ok_or_not_held reply.NotHeld = true
is_ok_or_not_held r = false

-- of what only the holder of a lock may do
abbrev pub is_ok_or_not_holder : Reply → Bool
is_ok_or_not_holder reply.Ok = true
is_ok_or_not_holder reply.NotLocked = true
is_ok_or_not_holder reply.NotOwner = true
is_ok_or_not_holder r = false

abbrev pub is_number_or_not_holder : Reply → Bool
is_number_or_not_holder (reply.Int v) = true
is_number_or_not_holder reply.NotLocked = true
is_number_or_not_holder reply.NotOwner = true
is_number_or_not_holder r = false

abbrev pub can_reply : Op → Reply → Bool
can_reply Begin r = is_ok r
can_reply (End value) r = is_ok r
can_reply (Fail fault) r = is_ok r
can_reply (Spawn path how) r = is_ok r
can_reply (Fetch path) r = is_result r
can_reply (Wait path) r = is_ok_or_failed r
can_reply Yield r = is_ok r
can_reply (Print text) r = is_ok r
can_reply (NewChannel name capacity) r = is_ok r
can_reply (NewAtomic name v) r = is_ok r
can_reply (NewEvent name auto) r = is_ok r
can_reply (NewCondition name) r = is_ok r
can_reply (NewLock name) r = is_ok r
can_reply (NewSemaphore name count) r = is_ok r
can_reply (Put name v) r = is_ok_or_closed r
can_reply (Offer name v) r = is_number_or_closed r
can_reply (Landed name number) r = is_ok_or_closed r
can_reply (Take name) r = is_number_or_closed r
can_reply (Next name) r = is_number_or_no_item r
can_reply (Close name) r = is_ok r
can_reply (IsOpen name) r = is_flag r
can_reply (IsReady name) r = is_flag r
can_reply (Notify name) r = is_ok r
can_reply (Reset name) r = is_ok r
can_reply (EWait name) r = is_ok r
can_reply (Lock name) r = is_ok r
can_reply (Unlock name) r = is_ok_or_not_holder r
can_reply (CWait name) r = is_ok_or_not_holder r
can_reply (CBack name) r = is_ok r
can_reply (CNotify name all) r = is_number_or_not_holder r
can_reply (Acquire name) r = is_ok r
can_reply (Release name) r = is_ok_or_not_held r
can_reply (AGet name) r = is_number r
can_reply (ASet name v) r = is_ok r
can_reply (AAdd name v) r = is_number r
can_reply (ASub name v) r = is_number r
can_reply (AXchg name v) r = is_number r
can_reply (ACas name expected v) r = is_number r
