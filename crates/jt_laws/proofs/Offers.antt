-- A channel has no more offers and items than entries.
use Rattle.std.proofs.Common.{◌≡◌, ℕ, ◌+◌, ◌≤◌, List, [], ◌∷◌, length, drop, Option, Some, None, Bool, true, false, ◌&&◌, subst, arith}
use Rattle.std.specs.Prelude.{ℤ, if◌then◌else◌, option_map, nat_eq}
use Rattle.std.specs.List.{cons_option}
use Rattle.std.proofs.lemmas.List.{length-drop}
use Rattle.jt_base.specs.declared.entry.Entry.{Entry}
use Rattle.jt_laws.specs.Channels.{Channel, item_put, items_in, items_out, ins, is_closed, capacity_of, channel_of, channel_left_by}
use Rattle.jt_laws.specs.Objects.{IsLawful}
use Rattle.jt_laws.proofs.Fifo.{outs_le}

ins_le : (own : List Entry) → ins own ≤ length own
ins_le [] = omega arith
ins_le (e ∷ es) = one (item_put e.op e.reply) (ins_le es)
  where
    one : (o : Option ℤ) → ins es ≤ length es → length (cons_option o (items_in es)) ≤ length (e ∷ es)
    one None h = omega arith
    one (Some v) h = omega arith

left_le : (unbuffered closed : Bool) (i o : List ℤ) → length o ≤ length i → (if unbuffered then length o else 0) + length (if unbuffered && closed then [] else drop (length o) i) ≤ length i
left_le true true i o h = omega arith
left_le true false i o h = omega (arith, length-drop (length o) i)
left_le false true i o h = omega (arith, length-drop (length o) i)
left_le false false i o h = omega (arith, length-drop (length o) i)

from_map : (o : Option ℕ) (f : ℕ → Channel) (s : Channel) → option_map f o ≡ Some s → (c : ℕ) × (f c ≡ s)
from_map None f s e = absurd (cc)
from_map (Some c) f s e = (c, cc)

pub offers_le : (own : List Entry) (s : Channel) → IsLawful own → channel_left_by own ≡ Some s → s.taken + length s.items ≤ length own
offers_le own s l e =
    let k = from_map (capacity_of own) (λ (c : ℕ). channel_of c own) s e in
    let few = left_le (nat_eq k.0 0) (is_closed own) (items_in own) (items_out own) (outs_le own l) in
    let n : (channel_of k.0 own).taken + length (channel_of k.0 own).items ≤ length own = omega (arith, few, ins_le own) in
    subst (λ (t : Channel). t.taken + length t.items ≤ length own) k.1 n
