-- An operation that changes nothing leaves each refusal as it was.
use Rattle.std.proofs.Common.{◌≡◌, ℕ, ◌+◌, ℤ, pos, List, [], ◌∷◌, ◌++◌, Option, Some, None, Bool, true, false, refl, ap, ◌∙◌, length}
use Rattle.std.specs.Prelude.{◌&&◌, not, if◌then◌else◌, nat_eq, nat_lt, nat_le, slice_get, option_map, option_and_then}
use Rattle.jt_base.specs.declared.operation.Op.{Op}
use Rattle.jt_base.specs.declared.operation.Op.TheVariants.{Begin, End, Fail, Spawn, Fetch, Wait, Yield, Print, NewChannel, NewAtomic, Put, Offer, Landed, Take, Next, Close, IsOpen, IsReady, AGet, ASet, AAdd, ASub, AXchg, ACas}
use Rattle.jt_base.specs.declared.operation.Reply.{Reply}
use Rattle.jt_base.specs.declared.operation.Reply.TheVariants as reply
use Rattle.jt_base.specs.declared.entry.Entry.{Entry}
use Rattle.jt_base.specs.declared.name.Name.{Name}
use Rattle.jt_base.specs.declared.object.Object.{Object}
use Rattle.jt_base.specs.declared.object.Object.TheVariants.{Printer, Task, Named}
use Rattle.jt_base.specs.Objects.{object_of}
use Rattle.jt_laws.specs.Entries.{object}
use Rattle.jt_laws.specs.Tasks.{ok_if, is_spawned, fetch_of, wait_of}
use Rattle.jt_laws.specs.Channels.{capacity_by, items_in, items_out, is_closed, on_channel}
use Rattle.jt_laws.specs.Atomics.{written, last_written, opening_by}
use Rattle.jt_laws.specs.Objects.{reply_after}
use Rattle.jt_shard.specs.Changing.{changes, KeepsRefusals}
use Rattle.jt_shard.proofs.Unchanged.{same_running, same_end, still_begun, looks_at_channel, same_in, same_out, same_close, last_more}

-- behind a first entry of the task every reply stays
same_reply : (x : Entry) (past : List Entry) (e : Entry) (path task : List ℕ) (op : Op) → changes e.op ≡ false → object_of task op ≡ Task path → reply_after ((x ∷ past) ++ e ∷ []) task op ≡ reply_after (x ∷ past) task op
same_reply x past e path task Begin n o =
    ap (λ b. ok_if (is_spawned (x ∷ past) task && not b)) (still_begun (x ∷ past) e n)
same_reply x past e path task (End value) n o = same_running (x ∷ past) e n
same_reply x past e path task (Fail fault) n o = same_running (x ∷ past) e n
same_reply x past e path task Yield n o = same_running (x ∷ past) e n
same_reply x past e path task (Spawn q how) n o = refl
same_reply x past e path task (Fetch q) n o =
    ap (option_and_then (λ (y : Entry). fetch_of y.op)) (same_end (x ∷ past) e n)
same_reply x past e path task (Wait q) n o =
    ap (option_and_then (λ (y : Entry). wait_of y.op)) (same_end (x ∷ past) e n)
same_reply x past e path task op n o = absurd (cc)

-- a task's first entry changes it
not_first : (path task : List ℕ) (op : Op) (r : Reply) → changes op ≡ false → object_of task op ≡ Task path → reply_after [] task op ≡ Some r → ⊥
not_first path task Yield r n o a = absurd (cc)
not_first path task (Fetch q) r n o a = absurd (cc)
not_first path task (Wait q) r n o a = absurd (cc)
not_first path task (Print text) r n o a = absurd (cc)
not_first path task op r n o a = absurd (cc)

-- the printer refuses nothing
printer_refuses : (past : List Entry) (task : List ℕ) (op : Op) → object_of task op ≡ Printer → reply_after past task op ≡ None → ⊥
printer_refuses past task (Print text) o n = absurd (cc)
printer_refuses past task op o n = absurd (cc)

-- the laws of channels, by their capacity, the items put in, those taken out, and whether they are closed
abbrev Parts : Type 0
Parts = ℕ → List ℤ → List ℤ → Bool → Option Reply

abbrev has_item_by : ℕ → List ℤ → List ℤ → Bool → Bool
has_item_by k i o c = nat_lt (length o) (length i) && not (nat_eq k 0 && c)

abbrev put_by : Parts
put_by k i o c =
    if nat_eq k 0 then None else if c then Some reply.Closed else ok_if (nat_lt (length i) (length o + k))

abbrev offer_by : Parts
offer_by k i o c =
    if nat_eq k 0 then if c then Some reply.Closed else Some (reply.Int (pos (length i + 1))) else None

abbrev landed_by : ℕ → Parts
landed_by number k i o c =
    if nat_eq k 0 then if nat_le number (length o) then Some reply.Ok else if c then Some reply.Closed else None else None

abbrev take_by : Reply → Parts
take_by none k i o c =
    if has_item_by k i o c then option_map reply.Int (slice_get i (length o)) else if c then Some none else None

abbrev by_parts : Parts → List Entry → Option Reply
by_parts law own = on_channel own (λ k l. law k (items_in l) (items_out l) (is_closed l))

-- the longer list leaves the same of them
three : {A : Type 0} (f : List ℤ → List ℤ → Bool → A) (i i' o o' : List ℤ) (c c' : Bool) → i ≡ i' → o ≡ o' → c ≡ c' → f i o c ≡ f i' o' c'
three f i i' o o' c c' p q r = ap (λ x. f x o c) p ∙ ap (λ x. f i' x c) q ∙ ap (f i' o') r

same_parts : (law : Parts) (x : Entry) (past : List Entry) (e : Entry) → looks_at_channel e.op ≡ true → by_parts law ((x ∷ past) ++ e ∷ []) ≡ by_parts law (x ∷ past)
same_parts law x past e l =
    three (λ i o c. option_and_then (λ (k : ℕ). law k i o c) (capacity_by x.op))
    (items_in ((x ∷ past) ++ e ∷ [])) (items_in (x ∷ past)) (items_out ((x ∷ past) ++ e ∷ [])) (items_out (x ∷ past)) (is_closed ((x ∷ past) ++ e ∷ [])) (is_closed (x ∷ past))
    (same_in (x ∷ past) e l) (same_out (x ∷ past) e l) (same_close (x ∷ past) e l)

-- what the first entry makes
made_channel : (op : Op) (k : ℕ) → capacity_by op ≡ Some k → (name : Name) × (op ≡ NewChannel name k)
made_channel (NewChannel name c) k h = let p : c ≡ k = cc in (name, ap (NewChannel name) p)
made_channel op k h = absurd (cc)

made_atomic : (op : Op) (v : ℤ) → opening_by op ≡ Some v → (name : Name) × (op ≡ NewAtomic name v)
made_atomic (NewAtomic name c) v h = let p : c ≡ v = cc in (name, ap (NewAtomic name) p)
made_atomic op v h = absurd (cc)

-- the first entry by this operation
abbrev entry_by : Op → Entry → Entry
entry_by made x = record { stamp = x.stamp; worker = x.worker; task = x.task; op = made; reply = x.reply }

channel_refuses : (name : Name) (k : ℕ) (x : Entry) (past : List Entry) (e : Entry) (task : List ℕ) (op : Op) (n : Name) → looks_at_channel e.op ≡ true → x.op ≡ NewChannel name k → object_of task op ≡ Named n → reply_after (x ∷ past) task op ≡ None → reply_after ((x ∷ past) ++ e ∷ []) task op ≡ None
channel_refuses name k x past e task (Put m v) n l is o r = same_parts put_by x past e l ∙ r
channel_refuses name k x past e task (Offer m v) n l is o r = same_parts offer_by x past e l ∙ r
channel_refuses name k x past e task (Landed m number) n l is o r = same_parts (landed_by number) x past e l ∙ r
channel_refuses name k x past e task (Take m) n l is o r = same_parts (take_by reply.Closed) x past e l ∙ r
channel_refuses name k x past e task (Next m) n l is o r = same_parts (take_by reply.NoItem) x past e l ∙ r
channel_refuses name k x past e task (Close m) n l is o r = r
channel_refuses name k x past e task (IsOpen m) n l is o r =
    same_parts (λ c i t b. Some (reply.Flag (not b))) x past e l ∙ r
channel_refuses name k x past e task (IsReady m) n l is o r =
    same_parts (λ c i t b. Some (reply.Flag (has_item_by c i t b))) x past e l ∙ r
channel_refuses name k x past e task Begin n l is o r = absurd (cc)
channel_refuses name k x past e task (End v) n l is o r = absurd (cc)
channel_refuses name k x past e task (Fail v) n l is o r = absurd (cc)
channel_refuses name k x past e task (Spawn p v) n l is o r = absurd (cc)
channel_refuses name k x past e task (Fetch p) n l is o r = absurd (cc)
channel_refuses name k x past e task (Wait p) n l is o r = absurd (cc)
channel_refuses name k x past e task Yield n l is o r = absurd (cc)
channel_refuses name k x past e task (Print t) n l is o r = absurd (cc)
channel_refuses name k x past e task op n l is o r =
    ap (λ m. reply_after (entry_by m x ∷ past ++ e ∷ []) task op) is

atomic_reply : (law : Option ℤ → Option Reply) (x : Entry) (past : List Entry) (e : Entry) → written e.op e.reply ≡ None → law (option_and_then (λ (v : ℤ). last_written ((x ∷ past) ++ e ∷ [])) (opening_by x.op)) ≡ law (option_and_then (λ (v : ℤ). last_written (x ∷ past)) (opening_by x.op))
atomic_reply law x past e n =
    ap (λ w. law (option_and_then (λ (v : ℤ). w) (opening_by x.op))) (last_more (x ∷ past) e n)

atomic_refuses : (name : Name) (k : ℤ) (x : Entry) (past : List Entry) (e : Entry) (task : List ℕ) (op : Op) (n : Name) → written e.op e.reply ≡ None → x.op ≡ NewAtomic name k → object_of task op ≡ Named n → reply_after (x ∷ past) task op ≡ None → reply_after ((x ∷ past) ++ e ∷ []) task op ≡ None
atomic_refuses name k x past e task (AGet m) n w is o r = atomic_reply (option_map reply.Int) x past e w ∙ r
atomic_refuses name k x past e task (ASet m v) n w is o r =
    atomic_reply (option_map (λ (z : ℤ). reply.Ok)) x past e w ∙ r
atomic_refuses name k x past e task (AAdd m v) n w is o r = atomic_reply (option_map reply.Int) x past e w ∙ r
atomic_refuses name k x past e task (ASub m v) n w is o r = atomic_reply (option_map reply.Int) x past e w ∙ r
atomic_refuses name k x past e task (AXchg m v) n w is o r = atomic_reply (option_map reply.Int) x past e w ∙ r
atomic_refuses name k x past e task (ACas m a v) n w is o r = atomic_reply (option_map reply.Int) x past e w ∙ r
atomic_refuses name k x past e task Begin n w is o r = absurd (cc)
atomic_refuses name k x past e task (End v) n w is o r = absurd (cc)
atomic_refuses name k x past e task (Fail v) n w is o r = absurd (cc)
atomic_refuses name k x past e task (Spawn p v) n w is o r = absurd (cc)
atomic_refuses name k x past e task (Fetch p) n w is o r = absurd (cc)
atomic_refuses name k x past e task (Wait p) n w is o r = absurd (cc)
atomic_refuses name k x past e task Yield n w is o r = absurd (cc)
atomic_refuses name k x past e task (Print t) n w is o r = absurd (cc)
atomic_refuses name k x past e task op n w is o r =
    ap (λ m. reply_after (entry_by m x ∷ past ++ e ∷ []) task op) is

-- what is replied to a look stands behind the first entry of such an object
some_of : {A : Type 0} (o : Option A) (f : A → Option Reply) (r : Reply) → option_and_then f o ≡ Some r → (a : A) × (o ≡ Some a)
some_of (Some a) f r h = (a, refl)
some_of None f r h = absurd (cc)

atomic_there : (o : Option ℤ) (last : Option ℤ) (r : Reply) → option_map reply.Int (option_and_then (λ (v : ℤ). last) o) ≡ Some r → (v : ℤ) × (o ≡ Some v)
atomic_there (Some v) last r h = (v, refl)
atomic_there None last r h = absurd (cc)

behind_channel : (x : Entry) (past : List Entry) (e : Entry) (task : List ℕ) (op : Op) (n : Name) → looks_at_channel e.op ≡ true → (k : ℕ) × (capacity_by x.op ≡ Some k) → object_of task op ≡ Named n → reply_after (x ∷ past) task op ≡ None → reply_after ((x ∷ past) ++ e ∷ []) task op ≡ None
behind_channel x past e task op n l h o r =
    let m = made_channel x.op h.0 h.1 in channel_refuses m.0 h.0 x past e task op n l m.1 o r

behind_atomic : (x : Entry) (past : List Entry) (e : Entry) (task : List ℕ) (op : Op) (n : Name) → written e.op e.reply ≡ None → (v : ℤ) × (opening_by x.op ≡ Some v) → object_of task op ≡ Named n → reply_after (x ∷ past) task op ≡ None → reply_after ((x ∷ past) ++ e ∷ []) task op ≡ None
behind_atomic x past e task op n w h o r =
    let m = made_atomic x.op h.0 h.1 in atomic_refuses m.0 h.0 x past e task op n w m.1 o r

named_refuses : (past : List Entry) (e : Entry) (looks : Op) (task : List ℕ) (op : Op) (n : Name) → e.op ≡ looks → object_of e.task looks ≡ Named n → changes looks ≡ false → reply_after past e.task looks ≡ Some e.reply → object_of task op ≡ Named n → reply_after past task op ≡ None → reply_after (past ++ e ∷ []) task op ≡ None
named_refuses [] e (Landed m number) task op n is at c a o r = absurd (cc)
named_refuses [] e (IsOpen m) task op n is at c a o r = absurd (cc)
named_refuses [] e (IsReady m) task op n is at c a o r = absurd (cc)
named_refuses [] e (AGet m) task op n is at c a o r = absurd (cc)
named_refuses (x ∷ past) e (Landed m number) task op n is at c a o r =
    behind_channel x past e task op n (ap looks_at_channel is) (some_of (capacity_by x.op) _ e.reply a) o r
named_refuses (x ∷ past) e (IsOpen m) task op n is at c a o r =
    behind_channel x past e task op n (ap looks_at_channel is) (some_of (capacity_by x.op) _ e.reply a) o r
named_refuses (x ∷ past) e (IsReady m) task op n is at c a o r =
    behind_channel x past e task op n (ap looks_at_channel is) (some_of (capacity_by x.op) _ e.reply a) o r
named_refuses (x ∷ past) e (AGet m) task op n is at c a o r =
    behind_atomic x past e task op n (ap (λ q. written q e.reply) is) (atomic_there (opening_by x.op) (last_written (x ∷ past)) e.reply a) o r
named_refuses past e Yield task op n is at c a o r = absurd (cc)
named_refuses past e (Fetch q) task op n is at c a o r = absurd (cc)
named_refuses past e (Wait q) task op n is at c a o r = absurd (cc)
named_refuses past e (Print t) task op n is at c a o r = absurd (cc)
named_refuses past e looks task op n is at c a o r = absurd (cc)

refusal_stays : (past : List Entry) (e : Entry) (task : List ℕ) (op : Op) (o : Object) → object e ≡ o → changes e.op ≡ false → reply_after past e.task e.op ≡ Some e.reply → object_of task op ≡ o → reply_after past task op ≡ None → reply_after (past ++ e ∷ []) task op ≡ None
refusal_stays past e task op Printer at n a o r = absurd (printer_refuses past task op o r)
refusal_stays [] e task op (Task path) at n a o r = absurd (not_first path e.task e.op e.reply n at a)
refusal_stays (x ∷ past) e task op (Task path) at n a o r = same_reply x past e path task op n o ∙ r
refusal_stays past e task op (Named name) at n a o r = named_refuses past e e.op task op name refl at n a o r

pub keeps_refusals : (op : Op) → changes op ≡ false → KeepsRefusals op
keeps_refusals op n past e task asked is a o r =
    refusal_stays past e task asked (object e) refl (ap changes is ∙ n) a o r
