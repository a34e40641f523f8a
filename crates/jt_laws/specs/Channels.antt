-- Channels: first in, first out. An item goes in by a Put or an Offer whose reply isn't `closed`,
-- and comes out by a Take or a Next that replies it. All else follows from how many went in and
-- came out, and from whether a Close stands in the list.
use Rattle.std.specs.Prelude.{ℕ, ◌+◌, ℤ, pos, List, [], ◌∷◌, length, drop, Option, Some, None, Bool, true, false, ◌&&◌, not, if◌then◌else◌, nat_eq, nat_lt, nat_le, filter_map, slice_get, option_map, option_and_then}
use Rattle.std.specs.List.{list_any}
use Rattle.jt_base.specs.declared.operation.Op.{Op}
use Rattle.jt_base.specs.declared.operation.Op.TheVariants.{NewChannel, Put, Offer, Take, Next, Close}
use Rattle.jt_base.specs.declared.operation.Reply.{Reply}
use Rattle.jt_base.specs.declared.operation.Reply.TheVariants as reply
use Rattle.jt_base.specs.declared.entry.Entry.{Entry}
use Rattle.jt_laws.specs.Tasks.{ok_if}

-- the capacity of the channel that the first entry makes; other objects have none
abbrev pub capacity_by : Op → Option ℕ
capacity_by (NewChannel name capacity) = Some capacity
capacity_by op = None

abbrev pub capacity_of : List Entry → Option ℕ
capacity_of [] = None
capacity_of (e ∷ es) = capacity_by e.op

-- the item that an entry puts in
abbrev pub unless_closed : ℤ → Reply → Option ℤ
unless_closed v reply.Closed = None
unless_closed v r = Some v

abbrev pub item_put : Op → Reply → Option ℤ
item_put (Put name v) r = unless_closed v r
item_put (Offer name v) r = unless_closed v r
item_put op r = None

-- the item that an entry takes out
abbrev pub number_of : Reply → Option ℤ
number_of (reply.Int v) = Some v
number_of r = None

abbrev pub item_taken : Op → Reply → Option ℤ
item_taken (Take name) r = number_of r
item_taken (Next name) r = number_of r
item_taken op r = None

abbrev pub is_close : Op → Bool
is_close (Close name) = true
is_close op = false

-- the items that went in, and those that came out, in order
abbrev pub items_in : List Entry → List ℤ
items_in own = filter_map (λ (e : Entry). item_put e.op e.reply) own

abbrev pub items_out : List Entry → List ℤ
items_out own = filter_map (λ (e : Entry). item_taken e.op e.reply) own

-- how many went in, and how many came out
abbrev pub ins : List Entry → ℕ
ins own = length (items_in own)

abbrev pub outs : List Entry → ℕ
outs own = length (items_out own)

abbrev pub is_closed : List Entry → Bool
is_closed own = list_any (λ e. is_close e.op) own

-- the close of an unbuffered channel withdraws the items that are left in it
abbrev pub is_withdrawn : ℕ → List Entry → Bool
is_withdrawn capacity own = nat_eq capacity 0 && is_closed own

-- an item is left
abbrev pub has_item : ℕ → List Entry → Bool
has_item capacity own = nat_lt (outs own) (ins own) && not (is_withdrawn capacity own)

abbrev pub reply_if_closed : Reply → List Entry → Option Reply
reply_if_closed r own = if is_closed own then Some r else None

-- a put needs a buffer, and room in it
abbrev pub put_reply : ℕ → List Entry → Option Reply
put_reply capacity own =
    if nat_eq capacity 0 then None else if is_closed own then Some reply.Closed else ok_if (nat_lt (ins own) (outs own + capacity))

-- an offer to an unbuffered channel has its number, from 1 on
abbrev pub offer_reply : ℕ → List Entry → Option Reply
offer_reply capacity own =
    if nat_eq capacity 0 then if is_closed own then Some reply.Closed else Some (reply.Int (pos (ins own + 1))) else None

-- the offer of this number has landed where as many items came out
abbrev pub landed_reply : ℕ → ℕ → List Entry → Option Reply
landed_reply number capacity own =
    if nat_eq capacity 0 then if nat_le number (outs own) then Some reply.Ok else reply_if_closed reply.Closed own else None

-- the item that comes out next is the one that went in after as many others as came out before
abbrev pub next_item : List Entry → Option Reply
next_item own = option_map reply.Int (slice_get (items_in own) (outs own))

-- a take where no item is left and none can come has this other reply
abbrev pub take_reply : Reply → ℕ → List Entry → Option Reply
take_reply none capacity own = if has_item capacity own then next_item own else reply_if_closed none own

-- the reply on a channel
abbrev pub on_channel : List Entry → (ℕ → List Entry → Option Reply) → Option Reply
on_channel own law = option_and_then (λ (capacity : ℕ). law capacity own) (capacity_of own)

-- what a list leaves: the items left, how many came out of it where it is unbuffered, and whether it is closed
pub record Channel : Type 0 where
  pub capacity : ℕ
  pub items : List ℤ
  pub taken : ℕ
  pub closed : Bool

abbrev pub items_left : ℕ → List Entry → List ℤ
items_left capacity own = if is_withdrawn capacity own then [] else drop (outs own) (items_in own)

abbrev pub taken_unbuffered : ℕ → List Entry → ℕ
taken_unbuffered capacity own = if nat_eq capacity 0 then outs own else 0

abbrev pub channel_of : ℕ → List Entry → Channel
channel_of capacity own = record {
  capacity = capacity;
  items = items_left capacity own;
  taken = taken_unbuffered capacity own;
  closed = is_closed own;
}

-- the channel that a list of its entries leaves
abbrev pub channel_left_by : List Entry → Option Channel
channel_left_by own = option_map (λ (capacity : ℕ). channel_of capacity own) (capacity_of own)
