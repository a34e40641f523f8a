-- What a list of an event's entries leaves, and how the event answers.
use Rattle.std.specs.Prelude.{List, Option, Bool, true, false, not, if◌then◌else◌, option_map}
use Rattle.jt_base.specs.declared.entry.Entry.{Entry}
use Rattle.jt_base.specs.declared.entry.Ask.{Ask}
use Rattle.jt_base.specs.declared.entry.Ask.TheVariants.{Done, NotYet}
use Rattle.jt_base.specs.declared.operation.Op.{Op}
use Rattle.jt_base.specs.declared.operation.Op.TheVariants.{Notify, Reset, EWait}
use Rattle.jt_base.specs.declared.operation.Reply.TheVariants as reply
use Rattle.jt_laws.specs.Events.{auto_of, is_set}

-- whether each wait resets the event, and whether it is set
pub record EventState : Type 0 where
  pub auto : Bool
  pub set : Bool

abbrev pub event_left_by : List Entry → Option EventState
event_left_by own =
    option_map (λ (auto : Bool). record { auto = auto; set = is_set auto own }) (auto_of own)

-- the operations on events
abbrev pub is_event_op : Op → Bool
is_event_op (Notify n) = true
is_event_op (Reset n) = true
is_event_op (EWait n) = true
is_event_op _ = false

-- a wait needs the event set, and resets an automatic one
abbrev pub event_wait_answer : EventState → Ask
event_wait_answer s = if s.set then Done reply.Ok else NotYet

abbrev pub event_after_wait : EventState → EventState
event_after_wait s = if s.set then record { auto = s.auto; set = not s.auto } else s
