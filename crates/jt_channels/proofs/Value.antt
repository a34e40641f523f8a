-- An atomic number's answers are right after every lawful list that leaves its value.
use Rattle.std.proofs.Common.{◌≡◌, ℕ, List, [], ◌∷◌, ◌++◌, Option, Some, None, true, refl, sym, ap, ◌∙◌, subst}
use Rattle.std.specs.Prelude.{ℤ, option_map, option_and_then}
use Rattle.std.specs.Option.{option_or}
use Rattle.std.proofs.lemmas.Bool.{false≢true}
use Rattle.jt_base.specs.declared.operation.Op.{Op}
use Rattle.jt_base.specs.declared.operation.Op.TheVariants.{AGet, ASet, AAdd, ASub, AXchg, ACas}
use Rattle.jt_base.specs.declared.operation.Reply.{Reply}
use Rattle.jt_base.specs.declared.operation.Reply.TheVariants as reply
use Rattle.jt_base.specs.declared.entry.Entry.{Entry}
use Rattle.jt_base.specs.declared.entry.Ask.{Ask}
use Rattle.jt_base.specs.declared.entry.Ask.TheVariants.{Done}
use Rattle.jt_laws.specs.Atomics.{written, last_written, opening_value, atomic_left_by, is_atomic_op}
use Rattle.jt_laws.specs.Objects.{reply_after, answer_of, Asked}
use Rattle.jt_channels.specs.Values.{value_after, value_reply_at}

or_assoc : (x y z : Option ℤ) → option_or (option_or x y) z ≡ option_or x (option_or y z)
or_assoc None y z = refl
or_assoc (Some v) y z = refl

last_push : (past : List Entry) (e : Entry) → last_written (past ++ e ∷ []) ≡ option_or (written e.op e.reply) (last_written past)
last_push [] e = or_none (written e.op e.reply)
  where
    or_none : (x : Option ℤ) → option_or None x ≡ option_or x None
    or_none None = refl
    or_none (Some v) = refl
last_push (x ∷ xs) e =
    ap (λ o. option_or o (written x.op x.reply)) (last_push xs e) ∙ or_assoc (written e.op e.reply) (last_written xs) (written x.op x.reply)

made_before : (o w : Option ℤ) (v : ℤ) → option_and_then (λ (x : ℤ). w) o ≡ Some v → (a : ℤ) × (o ≡ Some a) × (w ≡ Some v)
made_before None w v e = absurd (cc)
made_before (Some a) w v e = (a, refl, e)

opening_push : (past : List Entry) (e : Entry) (a : ℤ) → opening_value past ≡ Some a → opening_value (past ++ e ∷ []) ≡ Some a
opening_push [] e a h = absurd (cc)
opening_push (x ∷ xs) e a h = h

left_push : (past : List Entry) (e : Entry) (v : ℤ) → atomic_left_by past ≡ Some v → atomic_left_by (past ++ e ∷ []) ≡ option_or (written e.op e.reply) (Some v)
left_push past e v l =
    let m = made_before (opening_value past) (last_written past) v l in
    ap (option_and_then (λ (x : ℤ). last_written (past ++ e ∷ []))) (opening_push past e m.0 m.1) ∙ last_push past e ∙ ap (option_or (written e.op e.reply)) m.2

asked_value : (op : Op) (task : List ℕ) (v : ℤ) (r : Reply) (after : ℤ) → ((past : List Entry) → atomic_left_by past ≡ Some v → reply_after past task op ≡ Some r) → option_or (written op r) (Some v) ≡ Some after → Asked ℤ atomic_left_by task op v (Done r) after
asked_value op task v r after replies w = record {
  answers = λ past lawful l. ap answer_of (sym (replies past l));
  moves = λ past e lawful l t p a.
      let same : e.reply ≡ r = let b : Some e.reply ≡ Some r = sym a ∙ replies past l in cc in
      left_push past e v l ∙ ap (λ q. option_or (written q e.reply) (Some v)) p ∙ ap (λ x. option_or (written op x) (Some v)) same ∙ w;
  stays = λ e. absurd (cc);
}

reply_int : (past : List Entry) (v : ℤ) → atomic_left_by past ≡ Some v → option_map reply.Int (atomic_left_by past) ≡ Some (reply.Int v)
reply_int past v l = ap (option_map reply.Int) l

pub asked_atomic : (op : Op) (task : List ℕ) (v : ℤ) → is_atomic_op op ≡ true → Asked ℤ atomic_left_by task op v (Done (value_reply_at op v)) (value_after op v)
asked_atomic (AGet name) task v h = asked_value (AGet name) task v (reply.Int v) v (λ past l. reply_int past v l) refl
asked_atomic (ASet name w) task v h =
    asked_value (ASet name w) task v reply.Ok w (λ past l. ap (option_map (λ (x : ℤ). reply.Ok)) l) refl
asked_atomic (AAdd name w) task v h = asked_value (AAdd name w) task v (reply.Int v) _ (λ past l. reply_int past v l) refl
asked_atomic (ASub name w) task v h = asked_value (ASub name w) task v (reply.Int v) _ (λ past l. reply_int past v l) refl
asked_atomic (AXchg name w) task v h = asked_value (AXchg name w) task v (reply.Int v) w (λ past l. reply_int past v l) refl
asked_atomic (ACas name expected w) task v h =
    asked_value (ACas name expected w) task v (reply.Int v) _ (λ past l. reply_int past v l) refl
asked_atomic op task v h = absurd (false≢true h)

pub asked_by : (op : Op) (task : List ℕ) (v : ℤ) (answer : Ask) (after : ℤ) → is_atomic_op op ≡ true → answer ≡ Done (value_reply_at op v) → after ≡ value_after op v → Asked ℤ atomic_left_by task op v answer after
asked_by op task v answer after h r a =
    subst (λ (x : Ask). Asked ℤ atomic_left_by task op v x after) (sym r) (subst (λ (x : ℤ). Asked ℤ atomic_left_by task op v (Done (value_reply_at op v)) x) (sym a) (asked_atomic op task v h))
