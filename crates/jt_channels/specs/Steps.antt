-- What the operations do to the state of a channel.
use Rattle.std.specs.Prelude.{◌≡◌, ℕ, ◌+◌, ◌≤◌, ℤ, List, [], ◌∷◌, ◌++◌, length, drop, Bool, true, false, ◌&&◌, ◌||◌, not, if◌then◌else◌, nat_eq, nat_lt, nat_le}
use Rattle.jt_base.specs.declared.operation.Op.{Op}
use Rattle.jt_base.specs.declared.operation.Op.TheVariants.{Put, Offer, Landed, Take, Next, Close, IsOpen, IsReady}
use Rattle.jt_laws.specs.Channels.{Channel}
use Rattle.jt_laws.specs.Objects.{WithRoom}

-- the operations on a channel that is there
abbrev pub is_channel_op : Op → Bool
is_channel_op (Put name v) = true
is_channel_op (Offer name v) = true
is_channel_op (Landed name number) = true
is_channel_op (Take name) = true
is_channel_op (Next name) = true
is_channel_op (Close name) = true
is_channel_op (IsOpen name) = true
is_channel_op (IsReady name) = true
is_channel_op op = false

-- those that put an item into it
abbrev pub puts_item : Op → Bool
puts_item (Put name v) = true
puts_item (Offer name v) = true
puts_item op = false

abbrev pub is_offer : Op → Bool
is_offer (Offer name v) = true
is_offer op = false

-- a put needs a buffer with room, or one that is closed
abbrev pub can_put : Channel → Bool
can_put s = not (nat_eq s.capacity 0) && (s.closed || nat_lt (length s.items) s.capacity)

-- so many items of an unbuffered channel were taken, or no further one will be
abbrev pub can_land : Channel → ℕ → Bool
can_land s number = nat_eq s.capacity 0 && (s.closed || nat_le number s.taken)

-- a take needs an item, or that none can come
abbrev pub can_take : Channel → Bool
can_take s = s.closed || not (nat_eq (length s.items) 0)

-- the items left of these: none in an unbuffered channel that is closed
abbrev pub left_in : Bool → ℕ → List ℤ → List ℤ
left_in closed capacity items = if closed && nat_eq capacity 0 then [] else items

-- with one more item
abbrev pub with_item : Channel → ℤ → Channel
with_item s v =
    record { capacity = s.capacity; items = s.items ++ v ∷ []; taken = s.taken; closed = s.closed }

-- without the oldest item, which counts as taken where the channel is unbuffered
abbrev pub without_item : Channel → Channel
without_item s = record {
  capacity = s.capacity;
  items = drop 1 s.items;
  taken = if nat_eq s.capacity 0 then s.taken + 1 else s.taken;
  closed = s.closed;
}

-- closed, and without the items of an unbuffered channel
abbrev pub when_closed : Channel → Channel
when_closed s = record {
  capacity = s.capacity;
  items = if nat_eq s.capacity 0 then [] else s.items;
  taken = s.taken;
  closed = true;
}

-- how many offers of an unbuffered channel were numbered, while it is open
abbrev pub numbered : Channel → ℕ
numbered s = s.taken + length s.items

-- a call keeps the capacity, numbers at most so many more offers, and uses at most so much room
pub record Keeps (old new : WithRoom Channel) (more : ℕ) : Type 0 where
  pub capacity : new.state.capacity ≡ old.state.capacity
  pub offers : numbered new.state ≤ numbered old.state + more
  pub room : old.room ≤ new.room + more
