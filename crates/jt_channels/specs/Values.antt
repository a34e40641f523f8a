-- What the operations do to an atomic number.
use Rattle.std.specs.Prelude.{ℤ, ◌+ℤ◌, ◌-ℤ◌, if◌then◌else◌}
use Rattle.std.specs.Ordering.{int_eq}
use Rattle.jt_base.specs.declared.operation.Op.{Op}
use Rattle.jt_base.specs.declared.operation.Op.TheVariants.{ASet, AAdd, ASub, AXchg, ACas}
use Rattle.jt_base.specs.declared.operation.Reply.{Reply}
use Rattle.jt_base.specs.declared.operation.Reply.TheVariants as reply
use Rattle.jt_num.specs.Wrapping.{wrapped}

-- the value after an operation
abbrev pub value_after : Op → ℤ → ℤ
value_after (ASet name v) old = v
value_after (AAdd name v) old = wrapped (old +ℤ v)
value_after (ASub name v) old = wrapped (old -ℤ v)
value_after (AXchg name v) old = v
value_after (ACas name expected v) old = if int_eq old expected then v else old
value_after op old = old

-- what it replies
abbrev pub value_reply_at : Op → ℤ → Reply
value_reply_at (ASet name v) old = reply.Ok
value_reply_at op old = reply.Int old
