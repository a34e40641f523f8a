-- What follows for every lawful list of a channel's entries.
use Rattle.std.specs.Prelude.{◌≡◌, ℕ, ◌-◌, ℤ, pos, List, [], ◌∷◌, ◌++◌, take, drop, Some, true, slice_get}
use Rattle.jt_base.specs.declared.operation.Op.TheVariants.{Offer, Landed}
use Rattle.jt_base.specs.declared.operation.Reply.TheVariants as reply
use Rattle.jt_base.specs.declared.entry.Entry.{Entry}
use Rattle.jt_base.specs.declared.name.Name.{Name}
use Rattle.jt_laws.specs.Channels.{items_in, items_out, outs, is_closed}
use Rattle.jt_laws.specs.Objects.{reply_after, IsLawful}

-- the items that came out are the first that went in, in the same order
abbrev pub FirstInFirstOut : List Entry → Type 0
FirstInFirstOut own = items_out own ≡ take (outs own) (items_in own)

-- after a close no item goes in, and those that come out are the first that were left, each once
pub record ClosedForGood (own more : List Entry) : Type 0 where
  pub closed : is_closed (own ++ more) ≡ true
  pub nothing_in : items_in more ≡ []
  pub what_was_left : items_out more ≡ take (outs more) (drop (outs own) (items_in own))

-- an item was offered, and the offer's number has landed: the item that came out under this number is the one that was offered
pub record Offered (before after : List Entry) (offer : Entry) (task : List ℕ) (name : Name) (v : ℤ) (number : ℕ) : Type 0 where
  pub lawful : IsLawful (before ++ offer ∷ after)
  pub op : offer.op ≡ Offer name v
  pub numbered : offer.reply ≡ reply.Int (pos number)
  pub landed : reply_after (before ++ offer ∷ after) task (Landed name number) ≡ Some reply.Ok

abbrev pub WasTaken : List Entry → ℕ → ℤ → Type 0
WasTaken own number v = slice_get (items_out own) (number - 1) ≡ Some v
