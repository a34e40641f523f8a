-- Events: set by a notify, until a reset, or on an automatic event until one task has waited.
use Rattle.std.specs.Prelude.{List, [], ◌∷◌, Option, Some, None, Bool, true, false, ◌&&◌, ◌||◌, not, option_map, option_and_then}
use Rattle.std.specs.List.{list_any}
use Rattle.jt_base.specs.declared.operation.Op.{Op}
use Rattle.jt_base.specs.declared.operation.Op.TheVariants.{NewEvent, Notify, Reset, EWait}
use Rattle.jt_base.specs.declared.operation.Reply.{Reply}
use Rattle.jt_base.specs.declared.operation.Reply.TheVariants as reply
use Rattle.jt_base.specs.declared.entry.Entry.{Entry}
use Rattle.jt_laws.specs.Tasks.{ok_if}

-- whether the event that the first entry makes is automatic; other objects are no events
abbrev pub auto_by : Op → Option Bool
auto_by (NewEvent name auto) = Some auto
auto_by op = None

abbrev pub auto_of : List Entry → Option Bool
auto_of [] = None
auto_of (e ∷ es) = auto_by e.op

abbrev pub is_notify : Op → Bool
is_notify (Notify name) = true
is_notify op = false

-- a reset unsets an event, and so does a wait where it is automatic
abbrev pub unsets : Bool → Op → Bool
unsets auto (Reset name) = true
unsets auto (EWait name) = auto
unsets auto op = false

-- it is set where a Notify stands after which nothing unsets it
abbrev pub is_set : Bool → List Entry → Bool
is_set auto [] = false
is_set auto (e ∷ es) = (is_notify e.op && not (list_any (λ x. unsets auto x.op) es)) || is_set auto es

abbrev pub event_reply : List Entry → Option Reply
event_reply own = option_map (λ (auto : Bool). reply.Ok) (auto_of own)

-- a wait needs it set
abbrev pub event_wait_reply : List Entry → Option Reply
event_wait_reply own = option_and_then (λ (auto : Bool). ok_if (is_set auto own)) (auto_of own)
