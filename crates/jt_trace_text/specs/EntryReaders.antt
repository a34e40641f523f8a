-- Reading operations, replies and entries.
use Rattle.std.specs.Prelude.{ℕ, ℤ, Bool, if◌then◌else◌, List, [], ◌∷◌, Option, Some, None, option_map, option_and_then, codes}
use Rattle.std.specs.Str.{bytes_eq}
use Rattle.jt_base.specs.declared.entry.Entry.{Entry}
use Rattle.jt_base.specs.declared.name.Name.{Name}
use Rattle.jt_base.specs.declared.operation.Op.{Op}
use Rattle.jt_base.specs.declared.operation.Op.TheVariants as op
use Rattle.jt_base.specs.declared.operation.Reply.{Reply}
use Rattle.jt_base.specs.declared.operation.Reply.TheVariants as reply
use Rattle.jt_trace_text.specs.declared.keywords.ObjectWord.{ObjectWord}
use Rattle.jt_trace_text.specs.declared.keywords.ObjectWord.TheVariants as object
use Rattle.jt_trace_text.specs.declared.keywords.NumberWord.{NumberWord}
use Rattle.jt_trace_text.specs.declared.keywords.NumberWord.TheVariants as numeric
use Rattle.jt_trace_text.specs.Lines.{Bytes}
use Rattle.jt_trace_text.specs.Readers.{cut, field, pair_at, behind, lookup}
use Rattle.jt_trace_text.specs.Words.{most_u32, most_u64}
use Rattle.jt_trace_text.specs.WordReaders.{number_in, int_of, flag_of, path_of, name_of, text_of, how_of, value_of, fault_of}
use Rattle.jt_trace_text.specs.Operations.{most_capacity}
use Rattle.jt_trace_text.specs.Entries.{is_fetch}

-- ---- operations on an object alone

abbrev pub object_words : List (Bytes × ObjectWord)
object_words =
    (codes "newcondition", object.NewCondition) ∷ (codes "newlock", object.NewLock) ∷ (codes "take", object.Take) ∷ (codes "next", object.Next)
    ∷ (codes "close", object.Close) ∷ (codes "isopen", object.IsOpen) ∷ (codes "isready", object.IsReady) ∷ (codes "notify", object.Notify)
    ∷ (codes "reset", object.Reset) ∷ (codes "ewait", object.EWait) ∷ (codes "lock", object.Lock) ∷ (codes "unlock", object.Unlock)
    ∷ (codes "cwait", object.CWait) ∷ (codes "cback", object.CBack) ∷ (codes "acquire", object.Acquire) ∷ (codes "release", object.Release)
    ∷ (codes "aget", object.AGet) ∷ []

-- what the table has, in three steps
unfoldable pub last_word_of : Bytes → Option ObjectWord
last_word_of w =
    if bytes_eq w (codes "acquire") then Some object.Acquire
    else if bytes_eq w (codes "release") then Some object.Release
    else if bytes_eq w (codes "aget") then Some object.AGet
    else None

unfoldable pub event_word_of : Bytes → Option ObjectWord
event_word_of w =
    if bytes_eq w (codes "notify") then Some object.Notify
    else if bytes_eq w (codes "reset") then Some object.Reset
    else if bytes_eq w (codes "ewait") then Some object.EWait
    else if bytes_eq w (codes "lock") then Some object.Lock
    else if bytes_eq w (codes "unlock") then Some object.Unlock
    else if bytes_eq w (codes "cwait") then Some object.CWait
    else if bytes_eq w (codes "cback") then Some object.CBack
    else last_word_of w

unfoldable pub object_word_of : Bytes → Option ObjectWord
object_word_of w =
    if bytes_eq w (codes "newcondition") then Some object.NewCondition
    else if bytes_eq w (codes "newlock") then Some object.NewLock
    else if bytes_eq w (codes "take") then Some object.Take
    else if bytes_eq w (codes "next") then Some object.Next
    else if bytes_eq w (codes "close") then Some object.Close
    else if bytes_eq w (codes "isopen") then Some object.IsOpen
    else if bytes_eq w (codes "isready") then Some object.IsReady
    else event_word_of w

abbrev pub object_operation : ObjectWord → Name → Op
object_operation object.NewCondition n = op.NewCondition n
object_operation object.NewLock n = op.NewLock n
object_operation object.Take n = op.Take n
object_operation object.Next n = op.Next n
object_operation object.Close n = op.Close n
object_operation object.IsOpen n = op.IsOpen n
object_operation object.IsReady n = op.IsReady n
object_operation object.Notify n = op.Notify n
object_operation object.Reset n = op.Reset n
object_operation object.EWait n = op.EWait n
object_operation object.Lock n = op.Lock n
object_operation object.Unlock n = op.Unlock n
object_operation object.CWait n = op.CWait n
object_operation object.CBack n = op.CBack n
object_operation object.Acquire n = op.Acquire n
object_operation object.Release n = op.Release n
object_operation object.AGet n = op.AGet n

-- ---- operations on an object with a number

abbrev pub number_words : List (Bytes × NumberWord)
number_words =
    (codes "newatomic", numeric.NewAtomic) ∷ (codes "put", numeric.Put) ∷ (codes "offer", numeric.Offer) ∷ (codes "aset", numeric.ASet)
    ∷ (codes "aadd", numeric.AAdd) ∷ (codes "asub", numeric.ASub) ∷ (codes "axchg", numeric.AXchg) ∷ []

unfoldable pub number_word_of : Bytes → Option NumberWord
number_word_of = lookup number_words

abbrev pub number_operation : NumberWord → Name → ℤ → Op
number_operation numeric.NewAtomic n z = op.NewAtomic n z
number_operation numeric.Put n z = op.Put n z
number_operation numeric.Offer n z = op.Offer n z
number_operation numeric.ASet n z = op.ASet n z
number_operation numeric.AAdd n z = op.AAdd n z
number_operation numeric.ASub n z = op.ASub n z
number_operation numeric.AXchg n z = op.AXchg n z

-- ---- arguments, each with a space behind it

abbrev pub one_argument : {A : Type 0} → (A → Op) → (Bytes → Option A) → Bytes → Option (Op × Bytes)
one_argument {A} make read z = option_map (λ (x : A × Bytes). (make x.0, x.1)) (field 32 read z)

abbrev pub two_arguments : {A B : Type 0} → (A → B → Op) → (Bytes → Option A) → (Bytes → Option B) → Bytes → Option (Op × Bytes)
two_arguments {A} {B} make first second z = option_and_then (λ (x : A × Bytes). one_argument (make x.0) second x.1) (field 32 first z)

abbrev pub three_arguments : {A B C : Type 0} → (A → B → C → Op) → (Bytes → Option A) → (Bytes → Option B) → (Bytes → Option C) → Bytes → Option (Op × Bytes)
three_arguments {A} {B} {C} make first second third z = option_and_then (λ (x : A × Bytes). two_arguments (make x.0) second third x.1) (field 32 first z)

unfoldable pub object_at : ObjectWord → Bytes → Option (Op × Bytes)
object_at k = one_argument (object_operation k) name_of

unfoldable pub number_at : NumberWord → Bytes → Option (Op × Bytes)
number_at k = two_arguments (number_operation k) name_of int_of

unfoldable pub end_at : Bytes → Option (Op × Bytes)
end_at = one_argument (λ v. op.End v) value_of

unfoldable pub fail_at : Bytes → Option (Op × Bytes)
fail_at = one_argument (λ f. op.Fail f) fault_of

unfoldable pub spawn_at : Bytes → Option (Op × Bytes)
spawn_at = two_arguments (λ p h. op.Spawn p h) path_of how_of

unfoldable pub fetch_at : Bytes → Option (Op × Bytes)
fetch_at = one_argument (λ p. op.Fetch p) path_of

unfoldable pub wait_at : Bytes → Option (Op × Bytes)
wait_at = one_argument (λ p. op.Wait p) path_of

unfoldable pub print_at : Bytes → Option (Op × Bytes)
print_at = one_argument (λ t. op.Print t) text_of

unfoldable pub channel_at : Bytes → Option (Op × Bytes)
channel_at = two_arguments (λ n c. op.NewChannel n c) name_of (number_in 0 most_capacity)

unfoldable pub event_at : Bytes → Option (Op × Bytes)
event_at = two_arguments (λ n b. op.NewEvent n b) name_of flag_of

unfoldable pub notify_at : Bytes → Option (Op × Bytes)
notify_at = two_arguments (λ n b. op.CNotify n b) name_of flag_of

unfoldable pub semaphore_at : Bytes → Option (Op × Bytes)
semaphore_at = two_arguments (λ n k. op.NewSemaphore n k) name_of (number_in 0 most_u64)

unfoldable pub landed_at : Bytes → Option (Op × Bytes)
landed_at = two_arguments (λ n k. op.Landed n k) name_of (number_in 0 most_u64)

unfoldable pub exchange_at : Bytes → Option (Op × Bytes)
exchange_at = three_arguments (λ n z y. op.ACas n z y) name_of int_of int_of

-- ---- by the first word

-- on objects with other arguments
unfoldable pub other_at : Bytes → Bytes → Option (Op × Bytes)
other_at w z =
    if bytes_eq w (codes "newchannel") then channel_at z
    else if bytes_eq w (codes "newevent") then event_at z
    else if bytes_eq w (codes "newsemaphore") then semaphore_at z
    else if bytes_eq w (codes "landed") then landed_at z
    else if bytes_eq w (codes "cnotify") then notify_at z
    else if bytes_eq w (codes "acas") then exchange_at z
    else None

-- on tasks and the printer
unfoldable pub task_at : Bytes → Bytes → Option (Op × Bytes)
task_at w z =
    if bytes_eq w (codes "begin") then Some (op.Begin, z)
    else if bytes_eq w (codes "yield") then Some (op.Yield, z)
    else if bytes_eq w (codes "end") then end_at z
    else if bytes_eq w (codes "fail") then fail_at z
    else if bytes_eq w (codes "spawn") then spawn_at z
    else if bytes_eq w (codes "fetch") then fetch_at z
    else if bytes_eq w (codes "wait") then wait_at z
    else if bytes_eq w (codes "print") then print_at z
    else other_at w z

abbrev pub number_or_task : Option NumberWord → Bytes → Bytes → Option (Op × Bytes)
number_or_task (Some k) w z = number_at k z
number_or_task None w z = task_at w z

abbrev pub object_or_other : Option ObjectWord → Bytes → Bytes → Option (Op × Bytes)
object_or_other (Some k) w z = object_at k z
object_or_other None w z = number_or_task (number_word_of w) w z

unfoldable pub operation_by : Bytes → Bytes → Option (Op × Bytes)
operation_by w z = object_or_other (object_word_of w) w z

unfoldable pub operation_at : Bytes → Option (Op × Bytes)
operation_at z = option_and_then (λ (p : Bytes × Bytes). operation_by p.0 p.1) (cut 32 z)

-- ---- replies

abbrev pub plain_replies : List (Bytes × Reply)
plain_replies =
    (codes "ok", reply.Ok) ∷ (codes "failed", reply.Failed) ∷ (codes "closed", reply.Closed) ∷ (codes "none", reply.NoItem)
    ∷ (codes "notlocked", reply.NotLocked) ∷ (codes "notowner", reply.NotOwner) ∷ (codes "notheld", reply.NotHeld) ∷ []

unfoldable pub plain_reply_of : Bytes → Option Reply
plain_reply_of = lookup plain_replies

abbrev pub flag_or_int : Option Bool → Bytes → Option Reply
flag_or_int (Some b) w = Some (reply.Flag b)
flag_or_int None w = option_map reply.Int (int_of w)

abbrev pub plain_or_other : Option Reply → Bool → Bytes → Option Reply
plain_or_other (Some r) fetch w = Some r
plain_or_other None fetch w = if fetch then option_map reply.Val (value_of w) else flag_or_int (flag_of w) w

unfoldable pub reply_of : Bool → Bytes → Option Reply
reply_of fetch w = plain_or_other (plain_reply_of w) fetch w

unfoldable pub reply_at : Bool → Bytes → Option (Reply × Bytes)
reply_at fetch = behind (codes "= ") (field 10 (reply_of fetch))

-- ---- entries

abbrev pub OperationParts : Type 0
OperationParts = ℕ × (ℕ × (List ℕ × (Op × Reply)))

abbrev pub entry_of : OperationParts → Entry
entry_of x = record { stamp = x.0; worker = x.1.0; task = x.1.1.0; op = x.1.1.1.0; reply = x.1.1.1.1 }

abbrev pub parts_at : ℕ → Bytes → Option (OperationParts × Bytes)
parts_at most =
    pair_at (field 32 (number_in 1 most)) (λ stamp.
    pair_at (field 32 (number_in 0 most_u32)) (λ worker.
    pair_at (field 32 path_of) (λ task.
    pair_at operation_at (λ o. reply_at (is_fetch o)))))

unfoldable pub entry_at : ℕ → Bytes → Option (Entry × Bytes)
entry_at most z = option_map (λ (x : OperationParts × Bytes). (entry_of x.0, x.1)) (parts_at most z)
