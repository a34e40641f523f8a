-- A channel's state is fixed by the items that went in and came out, and by whether it is closed.
-- So an answer that is right by these is right after every lawful list that leaves the state.
use Rattle.std.proofs.Common.{◌≡◌, ℕ, ◌≤◌, List, [], ◌∷◌, ◌++◌, length, drop, Option, Some, None, Bool, true, false, ◌&&◌, ◌||◌, refl, sym, ap, ◌∙◌}
use Rattle.std.specs.Prelude.{ℤ, if◌then◌else◌, option_map, option_and_then, nat_eq}
use Rattle.std.specs.List.{cons_option}
use Rattle.std.proofs.lemmas.List.{append-nil}
use Rattle.std.proofs.lemmas.List.Folds.{list_any-append}
use Rattle.jt_base.specs.declared.operation.Op.{Op}
use Rattle.jt_base.specs.declared.operation.Reply.{Reply}
use Rattle.jt_base.specs.declared.entry.Entry.{Entry}
use Rattle.jt_base.specs.declared.entry.Ask.TheVariants.{Done, NotYet}
use Rattle.jt_laws.specs.Channels.{Channel, item_put, item_taken, items_in, items_out, is_close, is_closed, capacity_of, channel_of, channel_left_by}
use Rattle.jt_laws.specs.Objects.{reply_after, IsLawful, answer_of, Asked}
use Rattle.jt_laws.proofs.Fifo.{put_push, out_push, outs_le}

abbrev pub made : ℕ → List ℤ → ℕ → Bool → Channel
made c items taken closed =
    record { capacity = c; items = items; taken = taken; closed = closed }

-- the state of a channel, unbuffered or not, with these items in and out
abbrev pub state_at : Bool → ℕ → List ℤ → List ℤ → Bool → Channel
state_at unbuffered c i o closed =
    made c (if unbuffered && closed then [] else drop (length o) i) (if unbuffered then length o else 0) closed

-- the state after one more entry
abbrev pub state_after : Op → Reply → Bool → ℕ → List ℤ → List ℤ → Bool → Channel
state_after op r unbuffered c i o closed =
    state_at unbuffered c (i ++ cons_option (item_put op r) []) (o ++ cons_option (item_taken op r) []) (closed || (is_close op || false))

from_map : (o : Option ℕ) (f : ℕ → Channel) (s : Channel) → option_map f o ≡ Some s → (c : ℕ) × (o ≡ Some c) × (f c ≡ s)
from_map None f s e = absurd (cc)
from_map (Some c) f s e = (c, refl, cc)

capacity_push : (past : List Entry) (e : Entry) (c : ℕ) → capacity_of past ≡ Some c → capacity_of (past ++ e ∷ []) ≡ Some c
capacity_push [] e c h = absurd (cc)
capacity_push (x ∷ xs) e c h = h

left_push : (past : List Entry) (e : Entry) (c : ℕ) → capacity_of past ≡ Some c → channel_left_by (past ++ e ∷ []) ≡ Some (state_after e.op e.reply (nat_eq c 0) c (items_in past) (items_out past) (is_closed past))
left_push past e c h =
    let own = past ++ e ∷ [] in
    let state = state_at (nat_eq c 0) c in
    ap (option_map (λ (k : ℕ). channel_of k own)) (capacity_push past e c h)
    ∙ ap (λ i. Some (state i (items_out own) (is_closed own))) (put_push past e)
    ∙ ap (λ o. Some (state (items_in past ++ cons_option (item_put e.op e.reply) []) o (is_closed own))) (out_push past e)
    ∙ ap (λ b. Some (state (items_in past ++ cons_option (item_put e.op e.reply) []) (items_out past ++ cons_option (item_taken e.op e.reply) []) b)) (list_any-append (λ (x : Entry). is_close x.op) past (e ∷ []))

module _ (op : Op) (law : Bool → ℕ → List ℤ → List ℤ → Bool → Option Reply) (task : List ℕ) (is : (past : List Entry) → reply_after past task op ≡ option_and_then (λ (c : ℕ). law (nat_eq c 0) c (items_in past) (items_out past) (is_closed past)) (capacity_of past)) (s : Channel) where
  reply_at : (o : Option Reply) → ((unbuffered : Bool) (c : ℕ) (i out : List ℤ) (closed : Bool) → nat_eq c 0 ≡ unbuffered → length out ≤ length i → state_at unbuffered c i out closed ≡ s → law unbuffered c i out closed ≡ o) → (past : List Entry) → IsLawful past → channel_left_by past ≡ Some s → reply_after past task op ≡ o
  reply_at o does past lawful l =
      let k = from_map (capacity_of past) (λ (c : ℕ). channel_of c past) s l in
      is past ∙ ap (option_and_then (λ (c : ℕ). law (nat_eq c 0) c (items_in past) (items_out past) (is_closed past))) k.1 ∙ does (nat_eq k.0 0) k.0 (items_in past) (items_out past) (is_closed past) refl (outs_le past lawful) k.2

  -- the operation is answered
  pub asked_done : (r : Reply) (s' : Channel) → ((unbuffered : Bool) (c : ℕ) (i o : List ℤ) (closed : Bool) → nat_eq c 0 ≡ unbuffered → length o ≤ length i → state_at unbuffered c i o closed ≡ s → (law unbuffered c i o closed ≡ Some r) × (state_after op r unbuffered c i o closed ≡ s')) → Asked Channel channel_left_by task op s (Done r) s'
  asked_done r s' does =
      let replies = reply_at (Some r) (λ z c i o b q l e. (does z c i o b q l e).0) in
      record {
        answers = λ past lawful l. ap answer_of (sym (replies past lawful l));
        moves = λ past e lawful l t p a.
            let k = from_map (capacity_of past) (λ (c : ℕ). channel_of c past) s l in
            let now = λ (p : Op) (x : Reply). Some (state_after p x (nat_eq k.0 0) k.0 (items_in past) (items_out past) (is_closed past)) in
            let same : e.reply ≡ r = let b : Some e.reply ≡ Some r = sym a ∙ replies past lawful l in cc in
            left_push past e k.0 k.1 ∙ ap (λ p. now p e.reply) p ∙ ap (now op) same ∙ ap Some (does (nat_eq k.0 0) k.0 (items_in past) (items_out past) (is_closed past) refl (outs_le past lawful) k.2).1;
        stays = λ e. absurd (cc);
      }

  -- the operation waits
  pub asked_waits : ((unbuffered : Bool) (c : ℕ) (i o : List ℤ) (closed : Bool) → nat_eq c 0 ≡ unbuffered → length o ≤ length i → state_at unbuffered c i o closed ≡ s → law unbuffered c i o closed ≡ None) → Asked Channel channel_left_by task op s NotYet s
  asked_waits does =
      let replies = reply_at None does in
      record {
        answers = λ past lawful l. ap answer_of (sym (replies past lawful l));
        moves = λ past e lawful l t p a. absurd (let b : None ≡ Some e.reply = sym (replies past lawful l) ∙ a in cc);
        stays = λ e. refl;
      }

-- an entry that moves no item leaves the state
pub same_state : (unbuffered : Bool) (c : ℕ) (i o : List ℤ) (closed : Bool) → state_at unbuffered c (i ++ []) (o ++ []) (closed || (false || false)) ≡ state_at unbuffered c i o closed
same_state unbuffered c i o true =
    ap (λ i. state_at unbuffered c i (o ++ []) true) (append-nil i) ∙ ap (λ o. state_at unbuffered c i o true) (append-nil o)
same_state unbuffered c i o false =
    ap (λ i. state_at unbuffered c i (o ++ []) false) (append-nil i) ∙ ap (λ o. state_at unbuffered c i o false) (append-nil o)
