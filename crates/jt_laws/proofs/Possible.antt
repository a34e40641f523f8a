-- An allowed reply is one that its operation can have.
use Rattle.std.proofs.Common.{◌≡◌, ℕ, List, Option, Some, None, Bool, true, false, refl, sym, ap, ◌∙◌}
use Rattle.std.specs.Prelude.{ℤ, if◌then◌else◌, find, nat_eq, slice_get, option_map}
use Rattle.jt_base.specs.declared.operation.Op.{Op}
use Rattle.jt_base.specs.declared.operation.Op.TheVariants.{Begin, End, Fail, Spawn, Fetch, Wait, Yield, Print, NewChannel, NewAtomic, NewEvent, NewCondition, NewLock, NewSemaphore, Put, Offer, Landed, Take, Next, Close, IsOpen, IsReady, Notify, Reset, EWait, Lock, Unlock, CWait, CBack, CNotify, Acquire, Release, AGet, ASet, AAdd, ASub, AXchg, ACas}
use Rattle.jt_base.specs.declared.operation.Reply.{Reply}
use Rattle.jt_base.specs.declared.operation.Reply.TheVariants as reply
use Rattle.jt_base.specs.declared.entry.Entry.{Entry}
use Rattle.jt_laws.specs.Entries.{ends}
use Rattle.jt_laws.specs.Tasks.{ok_if, fetch_of, wait_of}
use Rattle.jt_laws.specs.Channels.{capacity_of, put_reply, offer_reply, landed_reply, take_reply, has_item, is_closed, items_in, outs}
use Rattle.jt_laws.specs.Atomics.{atomic_left_by}
use Rattle.jt_laws.specs.Events.{auto_of, is_set}
use Rattle.jt_laws.specs.Locks.{is_ok, is_lock, is_condition, is_free, is_held_by_other}
use Rattle.jt_laws.specs.Semaphores.{count_of, held_of}
use Rattle.jt_laws.specs.Objects.{reply_after}
use Rattle.jt_laws.specs.Replies.{can_reply, is_number, is_flag, is_result, is_ok_or_failed, is_ok_or_closed, is_number_or_closed, is_ok_or_not_held, is_ok_or_not_holder, is_number_or_not_holder}
use Rattle.jt_laws.proofs.Lawful.{of_kind}

same : (can : Reply → Bool) (x r : Reply) → can x ≡ true → Some x ≡ Some r → can r ≡ true
same can x r h e = let p : x ≡ r = cc in ap can (sym p) ∙ h

ok : (b : Bool) (r : Reply) → ok_if b ≡ Some r → is_ok r ≡ true
ok true r e = same is_ok reply.Ok r refl e
ok false r e = absurd (cc)

fetched : (op : Op) (r : Reply) → fetch_of op ≡ Some r → is_result r ≡ true
fetched (End v) r e = same is_result (reply.Val v) r refl e
fetched (Fail fault) r e = same is_result reply.Failed r refl e
fetched op r e = absurd (cc)

waited : (op : Op) (r : Reply) → wait_of op ≡ Some r → is_ok_or_failed r ≡ true
waited (End v) r e = same is_ok_or_failed reply.Ok r refl e
waited (Fail fault) r e = same is_ok_or_failed reply.Failed r refl e
waited op r e = absurd (cc)

put : (unbuffered closed room : Bool) (r : Reply) → (if unbuffered then None else if closed then Some reply.Closed else ok_if room) ≡ Some r → is_ok_or_closed r ≡ true
put true closed room r e = absurd (cc)
put false true room r e = same is_ok_or_closed reply.Closed r refl e
put false false true r e = same is_ok_or_closed reply.Ok r refl e
put false false false r e = absurd (cc)

offer : (unbuffered closed : Bool) (n : ℤ) (r : Reply) → (if unbuffered then if closed then Some reply.Closed else Some (reply.Int n) else None) ≡ Some r → is_number_or_closed r ≡ true
offer true true n r e = same is_number_or_closed reply.Closed r refl e
offer true false n r e = same is_number_or_closed (reply.Int n) r refl e
offer false closed n r e = absurd (cc)

landed : (unbuffered enough closed : Bool) (r : Reply) → (if unbuffered then if enough then Some reply.Ok else if closed then Some reply.Closed else None else None) ≡ Some r → is_ok_or_closed r ≡ true
landed true true closed r e = same is_ok_or_closed reply.Ok r refl e
landed true false true r e = same is_ok_or_closed reply.Closed r refl e
landed true false false r e = absurd (cc)
landed false enough closed r e = absurd (cc)

take : (can : Reply → Bool) (none : Reply) → can none ≡ true → ((v : ℤ) → can (reply.Int v) ≡ true) → (has closed : Bool) (next : Option ℤ) (r : Reply) → (if has then option_map reply.Int next else if closed then Some none else None) ≡ Some r → can r ≡ true
take can none h k true closed (Some v) r e = same can (reply.Int v) r (k v) e
take can none h k true closed None r e = absurd (cc)
take can none h k false true next r e = same can none r h e
take can none h k false false next r e = absurd (cc)

holder : (can : Reply → Bool) (held r : Reply) → can reply.NotLocked ≡ true → can reply.NotOwner ≡ true → can held ≡ true → (mine free other : Bool) → (if mine then Some (if free then reply.NotLocked else if other then reply.NotOwner else held) else None) ≡ Some r → can r ≡ true
holder can held r l o h true true other e = same can reply.NotLocked r l e
holder can held r l o h true false true e = same can reply.NotOwner r o e
holder can held r l o h true false false e = same can held r h e
holder can held r l o h false free other e = absurd (cc)

released : (free : Bool) (r : Reply) → Some (if free then reply.NotHeld else reply.Ok) ≡ Some r → is_ok_or_not_held r ≡ true
released true r e = same is_ok_or_not_held reply.NotHeld r refl e
released false r e = same is_ok_or_not_held reply.Ok r refl e

number : (o : Option ℤ) (r : Reply) → option_map reply.Int o ≡ Some r → is_number r ≡ true
number (Some v) r e = same is_number (reply.Int v) r refl e
number None r e = absurd (cc)

set : (o : Option ℤ) (r : Reply) → option_map (λ (v : ℤ). reply.Ok) o ≡ Some r → is_ok r ≡ true
set (Some v) r e = same is_ok reply.Ok r refl e
set None r e = absurd (cc)

event : (o : Option Bool) (r : Reply) → option_map (λ (auto : Bool). reply.Ok) o ≡ Some r → is_ok r ≡ true
event (Some auto) r e = same is_ok reply.Ok r refl e
event None r e = absurd (cc)

pub possible : (own : List Entry) (task : List ℕ) (op : Op) (r : Reply) → reply_after own task op ≡ Some r → can_reply op r ≡ true
possible own task Begin r e = ok _ r e
possible own task (End v) r e = ok _ r e
possible own task (Fail fault) r e = ok _ r e
possible own task (Spawn path how) r e = ok _ r e
possible own task (Fetch path) r e =
    let k = of_kind (find (λ (x : Entry). ends x.op) own) (λ (x : Entry). fetch_of x.op) r e in
    fetched k.0.op r k.2
possible own task (Wait path) r e =
    let k = of_kind (find (λ (x : Entry). ends x.op) own) (λ (x : Entry). wait_of x.op) r e in
    waited k.0.op r k.2
possible own task Yield r e = ok _ r e
possible own task (Print text) r e = same is_ok reply.Ok r refl e
possible own task (NewChannel name capacity) r e = ok _ r e
possible own task (NewAtomic name v) r e = ok _ r e
possible own task (NewEvent name auto) r e = ok _ r e
possible own task (NewCondition name) r e = ok _ r e
possible own task (NewLock name) r e = ok _ r e
possible own task (NewSemaphore name count) r e = ok _ r e
possible own task (Put name v) r e =
    let k = of_kind (capacity_of own) (λ (n : ℕ). put_reply n own) r e in
    put (nat_eq k.0 0) (is_closed own) _ r k.2
possible own task (Offer name v) r e =
    let k = of_kind (capacity_of own) (λ (n : ℕ). offer_reply n own) r e in
    offer (nat_eq k.0 0) (is_closed own) _ r k.2
possible own task (Landed name n) r e =
    let k = of_kind (capacity_of own) (λ (c : ℕ). landed_reply n c own) r e in
    landed (nat_eq k.0 0) _ (is_closed own) r k.2
possible own task (Take name) r e =
    let k = of_kind (capacity_of own) (λ (n : ℕ). take_reply reply.Closed n own) r e in
    take (can_reply (Take name)) reply.Closed refl (λ v. refl) (has_item k.0 own) (is_closed own) (slice_get (items_in own) (outs own)) r k.2
possible own task (Next name) r e =
    let k = of_kind (capacity_of own) (λ (n : ℕ). take_reply reply.NoItem n own) r e in
    take (can_reply (Next name)) reply.NoItem refl (λ v. refl) (has_item k.0 own) (is_closed own) (slice_get (items_in own) (outs own)) r k.2
possible own task (Close name) r e =
    same is_ok reply.Ok r refl (of_kind (capacity_of own) (λ (n : ℕ). Some reply.Ok) r e).2
possible own task (IsOpen name) r e =
    same is_flag _ r refl (of_kind (capacity_of own) (λ (n : ℕ). Some (reply.Flag _)) r e).2
possible own task (IsReady name) r e =
    same is_flag _ r refl (of_kind (capacity_of own) (λ (n : ℕ). Some (reply.Flag (has_item n own))) r e).2
possible own task (Notify name) r e = event (auto_of own) r e
possible own task (Reset name) r e = event (auto_of own) r e
possible own task (EWait name) r e =
    let k = of_kind (auto_of own) (λ (auto : Bool). ok_if (is_set auto own)) r e in
    ok (is_set k.0 own) r k.2
possible own task (Lock name) r e = ok _ r e
possible own task (Unlock name) r e =
    holder is_ok_or_not_holder reply.Ok r refl refl refl (is_lock own) (is_free own) (is_held_by_other task own) e
possible own task (CWait name) r e =
    holder is_ok_or_not_holder reply.Ok r refl refl refl (is_condition own) (is_free own) (is_held_by_other task own) e
possible own task (CBack name) r e = ok _ r e
possible own task (CNotify name all) r e =
    holder is_number_or_not_holder _ r refl refl refl (is_condition own) (is_free own) (is_held_by_other task own) e
possible own task (Acquire name) r e =
    let k = of_kind (count_of own) _ r e in
    ok _ r k.2
possible own task (Release name) r e =
    let k = of_kind (count_of own) _ r e in
    released (nat_eq (held_of own) 0) r k.2
possible own task (AGet name) r e = number (atomic_left_by own) r e
possible own task (ASet name v) r e = set (atomic_left_by own) r e
possible own task (AAdd name v) r e = number (atomic_left_by own) r e
possible own task (ASub name v) r e = number (atomic_left_by own) r e
possible own task (AXchg name v) r e = number (atomic_left_by own) r e
possible own task (ACas name expected v) r e = number (atomic_left_by own) r e
