-- Atomic numbers: the value after a list is fixed by its last entry that isn't a read.
use Rattle.std.specs.Prelude.{ℤ, ◌+ℤ◌, ◌-ℤ◌, List, [], ◌∷◌, Option, Some, None, Bool, true, false, if◌then◌else◌, option_map, option_and_then}
use Rattle.std.specs.Ordering.{int_eq}
use Rattle.std.specs.Option.{option_or}
use Rattle.jt_base.specs.declared.operation.Op.{Op}
use Rattle.jt_base.specs.declared.operation.Op.TheVariants.{NewAtomic, AGet, ASet, AAdd, ASub, AXchg, ACas}
use Rattle.jt_base.specs.declared.operation.Reply.{Reply}
use Rattle.jt_base.specs.declared.operation.Reply.TheVariants as reply
use Rattle.jt_base.specs.declared.entry.Entry.{Entry}
use Rattle.jt_num.specs.Wrapping.{wrapped}

-- the value that an operation other than a read leaves, by what it replied
abbrev pub sum_with : ℤ → Reply → Option ℤ
sum_with v (reply.Int old) = Some (wrapped (old +ℤ v))
sum_with v r = None

abbrev pub difference_with : ℤ → Reply → Option ℤ
difference_with v (reply.Int old) = Some (wrapped (old -ℤ v))
difference_with v r = None

abbrev pub exchange_with : ℤ → ℤ → Reply → Option ℤ
exchange_with expected v (reply.Int old) = Some (if int_eq old expected then v else old)
exchange_with expected v r = None

abbrev pub written : Op → Reply → Option ℤ
written (NewAtomic name v) r = Some v
written (ASet name v) r = Some v
written (AAdd name v) r = sum_with v r
written (ASub name v) r = difference_with v r
written (AXchg name v) r = Some v
written (ACas name expected v) r = exchange_with expected v r
written op r = None

-- the value that the last entry other than a read left
abbrev pub last_written : List Entry → Option ℤ
last_written [] = None
last_written (e ∷ es) = option_or (last_written es) (written e.op e.reply)

-- an atomic is made by its first entry, with its opening value
abbrev pub opening_by : Op → Option ℤ
opening_by (NewAtomic name v) = Some v
opening_by op = None

abbrev pub opening_value : List Entry → Option ℤ
opening_value [] = None
opening_value (e ∷ es) = opening_by e.op

-- the value that a list of an atomic's entries leaves
abbrev pub atomic_left_by : List Entry → Option ℤ
atomic_left_by own = option_and_then (λ (v : ℤ). last_written own) (opening_value own)

-- each reply is the value before
abbrev pub value_reply : List Entry → Option Reply
value_reply own = option_map reply.Int (atomic_left_by own)

abbrev pub set_reply : List Entry → Option Reply
set_reply own = option_map (λ (v : ℤ). reply.Ok) (atomic_left_by own)

-- the operations on an atomic that is there
abbrev pub is_atomic_op : Op → Bool
is_atomic_op (AGet name) = true
is_atomic_op (ASet name v) = true
is_atomic_op (AAdd name v) = true
is_atomic_op (ASub name v) = true
is_atomic_op (AXchg name v) = true
is_atomic_op (ACas name expected v) = true
is_atomic_op op = false
