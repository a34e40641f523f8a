-- Channels: what a close leaves, and when an offer has landed.
use Rattle.std.proofs.Common.{◌≡◌, ℕ, zero, suc, ◌+◌, ◌-◌, ◌<◌, ◌≤◌, List, [], ◌∷◌, ◌++◌, length, take, drop, Option, Some, None, Bool, true, false, ◌||◌, refl, sym, ap, ◌∙◌, arith}
use Rattle.std.specs.Prelude.{ℤ, pos, if◌then◌else◌, slice_get, nat_eq, nat_le}
use Rattle.std.specs.List.{cons_option}
use Rattle.std.proofs.lemmas.Bool.Decides.{nat_tests}
use Rattle.std.proofs.lemmas.List.{append-nil, drop-take, length-append}
use Rattle.std.proofs.Math.Seq.{drop-append_seam}
use Rattle.std.proofs.lemmas.List.Elements.{filter_map-append}
use Rattle.std.proofs.lemmas.List.Folds.{list_any-append}
use Rattle.jt_base.specs.declared.operation.Op.{Op}
use Rattle.jt_base.specs.declared.operation.Op.TheVariants.{Put, Offer}
use Rattle.jt_base.specs.declared.operation.Reply.{Reply}
use Rattle.jt_base.specs.declared.operation.Reply.TheVariants as reply
use Rattle.jt_base.specs.declared.entry.Entry.{Entry}
use Rattle.jt_base.specs.declared.name.Name.{Name}
use Rattle.jt_laws.specs.Channels.{unless_closed, item_put, item_taken, items_in, items_out, ins, outs, is_close, is_closed, capacity_of, put_reply, offer_reply, landed_reply}
use Rattle.jt_laws.specs.ChannelLaws.{ClosedForGood, Offered, WasTaken}
use Rattle.jt_laws.specs.Objects.{reply_after, LawfulFrom, IsLawful}
use Rattle.jt_laws.proofs.Lawful.{split, of_kind}
use Rattle.jt_laws.proofs.Fifo.{in_order}

shut_put : (unbuffered closed : Bool) (other : Option Reply) (r : Reply) (v : ℤ) → closed ≡ true → (if unbuffered then None else if closed then Some reply.Closed else other) ≡ Some r → unless_closed v r ≡ None
shut_put true closed other r v c e = absurd (cc)
shut_put false true other r v c e = let p : reply.Closed ≡ r = cc in ap (unless_closed v) (sym p)
shut_put false false other r v c e = absurd (cc)

shut_offer : (unbuffered closed : Bool) (other : Option Reply) (r : Reply) (v : ℤ) → closed ≡ true → (if unbuffered then if closed then Some reply.Closed else other else None) ≡ Some r → unless_closed v r ≡ None
shut_offer false closed other r v c e = absurd (cc)
shut_offer true true other r v c e = let p : reply.Closed ≡ r = cc in ap (unless_closed v) (sym p)
shut_offer true false other r v c e = absurd (cc)

-- nothing goes into a closed channel
shut_in : (past : List Entry) (task : List ℕ) (op : Op) (r : Reply) → is_closed past ≡ true → reply_after past task op ≡ Some r → item_put op r ≡ None
shut_in past task (Put name v) r c e =
    let k = of_kind (capacity_of past) (λ (n : ℕ). put_reply n past) r e in
    shut_put (nat_eq k.0 0) (is_closed past) _ r v c k.2
shut_in past task (Offer name v) r c e =
    let k = of_kind (capacity_of past) (λ (n : ℕ). offer_reply n past) r e in
    shut_offer (nat_eq k.0 0) (is_closed past) _ r v c k.2
shut_in past task op r c e = refl

pub stays_closed : (past more : List Entry) → is_closed past ≡ true → is_closed (past ++ more) ≡ true
stays_closed past more c =
    list_any-append (λ (e : Entry). is_close e.op) past more ∙ ap (λ b. b || is_closed more) c

nothing_in : (past more : List Entry) → is_closed past ≡ true → LawfulFrom past more → items_in more ≡ []
nothing_in past [] c l = refl
nothing_in past (e ∷ es) c l =
    ap (λ p. cons_option p (items_in es)) (shut_in past e.task e.op e.reply c l.0) ∙ nothing_in (past ++ e ∷ []) es (stays_closed past (e ∷ []) c) l.1

rest_of : (o more i : List ℤ) → o ++ more ≡ take (length (o ++ more)) i → more ≡ take (length more) (drop (length o) i)
rest_of o more i e =
    sym (drop-append_seam o more) ∙ ap (drop (length o)) e ∙ ap (λ n. drop (length o) (take n i)) (length-append o more) ∙ drop-take (length o) (length more) i

pub closed_for_good : (own more : List Entry) → IsLawful (own ++ more) → is_closed own ≡ true → ClosedForGood own more
closed_for_good own more l c =
    let after = (split [] own more l).1 in
    let none = nothing_in own more c after in
    let outs_are = filter_map-append (λ (x : Entry). item_taken x.op x.reply) own more in
    let ins_are = filter_map-append (λ (x : Entry). item_put x.op x.reply) own more ∙ ap (λ i. items_in own ++ i) none ∙ append-nil (items_in own) in
    record {
      closed = stays_closed own more c;
      nothing_in = none;
      what_was_left = rest_of (items_out own) (items_out more) (items_in own) (sym outs_are ∙ in_order (own ++ more) l ∙ ap (λ o. take (length o) (items_in (own ++ more))) outs_are ∙ ap (take (length (items_out own ++ items_out more))) ins_are);
    }

at_seam : (xs : List ℤ) (v : ℤ) (ys : List ℤ) → slice_get (xs ++ v ∷ ys) (length xs) ≡ Some v
at_seam [] v ys = refl
at_seam (x ∷ xs) v ys = at_seam xs v ys

slice_get-take : (n k : ℕ) (xs : List ℤ) → k < n → slice_get (take n xs) k ≡ slice_get xs k
slice_get-take zero k xs h = absurd (omega arith)
slice_get-take (suc n) k [] h = refl
slice_get-take (suc n) zero (x ∷ xs) h = refl
slice_get-take (suc n) (suc k) (x ∷ xs) h = slice_get-take n k xs (omega arith)

offer_number : (unbuffered closed : Bool) (n number : ℕ) → (if unbuffered then if closed then Some reply.Closed else Some (reply.Int (pos n)) else None) ≡ Some (reply.Int (pos number)) → number ≡ n
offer_number true false n number e = cc
offer_number true true n number e = absurd (cc)
offer_number false closed n number e = absurd (cc)

has_landed : (unbuffered enough closed : Bool) → (if unbuffered then if enough then Some reply.Ok else if closed then Some reply.Closed else None else None) ≡ Some reply.Ok → enough ≡ true
has_landed true true closed e = refl
has_landed true false true e = absurd (cc)
has_landed true false false e = absurd (cc)
has_landed false enough closed e = absurd (cc)

pub landed_after_take : (before after : List Entry) (offer : Entry) (task : List ℕ) (name : Name) (v : ℤ) (number : ℕ) → Offered before after offer task name v number → WasTaken (before ++ offer ∷ after) number v
landed_after_take before after offer task name v number h =
    let own = before ++ offer ∷ after in
    let asked = (split [] before (offer ∷ after) h.lawful).1.0 in
    let replied : reply_after before offer.task (Offer name v) ≡ Some (reply.Int (pos number)) = ap (reply_after before offer.task) (sym h.op) ∙ asked ∙ ap Some h.numbered in
    let k = of_kind (capacity_of before) (λ (n : ℕ). offer_reply n before) _ replied in
    let number_is = offer_number (nat_eq k.0 0) (is_closed before) (ins before + 1) number k.2 in
    let put : item_put offer.op offer.reply ≡ Some v = ap (λ o. item_put o offer.reply) h.op ∙ ap (item_put (Offer name v)) h.numbered in
    let ins_are : items_in own ≡ items_in before ++ v ∷ items_in after = filter_map-append (λ (x : Entry). item_put x.op x.reply) before (offer ∷ after) ∙ ap (λ p. items_in before ++ cons_option p (items_in after)) put in
    let j = of_kind (capacity_of own) (λ (n : ℕ). landed_reply number n own) _ h.landed in
    let enough = has_landed (nat_eq j.0 0) (nat_le number (outs own)) (is_closed own) j.2 in
    let small : number ≤ outs own = grind (arith, nat_tests) in
    let place : number - 1 ≡ ins before = omega arith in
    ap (λ o. slice_get o (number - 1)) (in_order own h.lawful) ∙ slice_get-take (outs own) (number - 1) (items_in own) (omega arith) ∙ ap (λ i. slice_get i (number - 1)) ins_are ∙ ap (slice_get (items_in before ++ v ∷ items_in after)) place ∙ at_seam (items_in before) v (items_in after)
