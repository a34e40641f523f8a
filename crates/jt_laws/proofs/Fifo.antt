-- Channels: first in, first out.
use Rattle.std.proofs.Common.{◌≡◌, ℕ, zero, suc, ◌+◌, ◌≤◌, List, [], ◌∷◌, ◌++◌, length, take, Option, Some, None, Bool, true, false, refl, sym, ap, ◌∙◌, arith}
use Rattle.std.specs.Prelude.{ℤ, if◌then◌else◌, slice_get, option_map, option_and_then}
use Rattle.std.specs.List.{cons_option}
use Rattle.std.proofs.lemmas.List.{append-nil, take-append-le, length-take, length-append}
use Rattle.std.proofs.lemmas.List.Elements.{filter_map-append}
use Rattle.jt_base.specs.declared.operation.Op.{Op}
use Rattle.jt_base.specs.declared.operation.Op.TheVariants.{Take, Next}
use Rattle.jt_base.specs.declared.operation.Reply.{Reply}
use Rattle.jt_base.specs.declared.operation.Reply.TheVariants as reply
use Rattle.jt_base.specs.declared.entry.Entry.{Entry}
use Rattle.jt_laws.specs.Channels.{number_of, item_put, item_taken, items_in, items_out, ins, outs, is_closed, capacity_of, take_reply, has_item}
use Rattle.jt_laws.specs.ChannelLaws.{FirstInFirstOut}
use Rattle.jt_laws.specs.Objects.{reply_after, IsLawful}
use Rattle.jt_laws.proofs.Lawful.{along, of_kind}

-- where a take replies an item, it is the next
took : (has closed : Bool) (next : Option ℤ) (none r : Reply) (v : ℤ) → number_of none ≡ None → (if has then option_map reply.Int next else (if closed then Some none else None)) ≡ Some r → number_of r ≡ Some v → next ≡ Some v
took true closed (Some w) none r v n e q = ap (option_and_then number_of) e ∙ q
took true closed None none r v n e q = absurd (cc)
took false true next none r v n e q = absurd (let p : None ≡ Some v = sym n ∙ ap (option_and_then number_of) e ∙ q in cc)
took false false next none r v n e q = absurd (cc)

took_next : (past : List Entry) (none r : Reply) (v : ℤ) → number_of none ≡ None → option_and_then (λ (c : ℕ). take_reply none c past) (capacity_of past) ≡ Some r → number_of r ≡ Some v → slice_get (items_in past) (outs past) ≡ Some v
took_next past none r v n e q =
    let k = of_kind (capacity_of past) (λ c. take_reply none c past) r e in
    took (has_item k.0 past) (is_closed past) _ none r v n k.2 q

-- what comes out is the next item, and nothing goes in by the same entry
pub taken : (past : List Entry) (task : List ℕ) (op : Op) (r : Reply) (v : ℤ) → reply_after past task op ≡ Some r → item_taken op r ≡ Some v → (slice_get (items_in past) (outs past) ≡ Some v) × (item_put op r ≡ None)
taken past task (Take name) r v e q = (took_next past reply.Closed r v refl e q, refl)
taken past task (Next name) r v e q = (took_next past reply.NoItem r v refl e q, refl)
taken past task op r v e q = absurd (cc)

-- one more element of a list
add_one_take : (n : ℕ) → suc n + 1 ≡ suc (n + 1)
add_one_take n = omega arith

next_taken : (i : List ℤ) (n : ℕ) (v : ℤ) → slice_get i n ≡ Some v → take n i ++ v ∷ [] ≡ take (n + 1) i
next_taken [] n v e = absurd (cc)
next_taken (x ∷ xs) zero v e = let p : x ≡ v = cc in ap (λ y. y ∷ []) (sym p)
next_taken (x ∷ xs) (suc n) v e = rw add_one_take (ap (λ ys. x ∷ ys) (next_taken xs n v e))

-- no more came out than went in
fewer : (i o : List ℤ) → o ≡ take (length o) i → length o ≤ length i
fewer i o e = let p = ap length e ∙ length-take (length o) i in omega arith

-- one entry keeps the order: it takes nothing out, or the next item
keeps_order : (i o : List ℤ) (put out : Option ℤ) → o ≡ take (length o) i → ((v : ℤ) → out ≡ Some v → (slice_get i (length o) ≡ Some v) × (put ≡ None)) → o ++ cons_option out [] ≡ take (length (o ++ cons_option out [])) (i ++ cons_option put [])
keeps_order i o put None e f =
    rw append-nil (e ∙ sym (take-append-le (length o) i (cons_option put []) (fewer i o e)))
keeps_order i o put (Some v) e f =
    let t = f v refl in
    let n : length (o ++ v ∷ []) ≡ length o + 1 = simp length-append (omega arith) in
    ap (λ q. q ++ v ∷ []) e ∙ next_taken i (length o) v t.0 ∙ ap (λ m. take m i) (sym n) ∙ ap (take (length (o ++ v ∷ []))) (sym (append-nil i)) ∙ ap (λ p. take (length (o ++ v ∷ [])) (i ++ cons_option p [])) (sym t.1)

pub put_push : (past : List Entry) (e : Entry) → items_in (past ++ e ∷ []) ≡ items_in past ++ cons_option (item_put e.op e.reply) []
put_push past e = filter_map-append (λ (x : Entry). item_put x.op x.reply) past (e ∷ [])

pub out_push : (past : List Entry) (e : Entry) → items_out (past ++ e ∷ []) ≡ items_out past ++ cons_option (item_taken e.op e.reply) []
out_push past e = filter_map-append (λ (x : Entry). item_taken x.op x.reply) past (e ∷ [])

order_push : (past : List Entry) (e : Entry) → FirstInFirstOut past → reply_after past e.task e.op ≡ Some e.reply → FirstInFirstOut (past ++ e ∷ [])
order_push past e f a =
    out_push past e ∙ keeps_order (items_in past) (items_out past) (item_put e.op e.reply) (item_taken e.op e.reply) f (λ v q. taken past e.task e.op e.reply v a q)
    ∙ ap (λ o. take (length o) (items_in past ++ cons_option (item_put e.op e.reply) [])) (sym (out_push past e)) ∙ ap (take (outs (past ++ e ∷ []))) (sym (put_push past e))

pub in_order : (own : List Entry) → IsLawful own → FirstInFirstOut own
in_order own l = along FirstInFirstOut order_push [] own refl l

-- no more items came out than went in
pub outs_le : (own : List Entry) → IsLawful own → outs own ≤ ins own
outs_le own l = fewer (items_in own) (items_out own) (in_order own l)
