-- In a lawful list a task that waited had a level before.
use Rattle.std.proofs.Common.{◌≡◌, ℕ, ◌+◌, ◌<◌, ◌≤◌, List, [], ◌∷◌, ◌++◌, Option, Some, None, Bool, true, false, refl, sym, ap, ◌∙◌, arith}
use Rattle.std.specs.Prelude.{if◌then◌else◌}
use Rattle.jt_base.specs.declared.operation.Op.{Op}
use Rattle.jt_base.specs.declared.operation.Op.TheVariants.{Unlock, CWait}
use Rattle.jt_base.specs.declared.operation.Reply.{Reply}
use Rattle.jt_base.specs.declared.operation.Reply.TheVariants as reply
use Rattle.jt_base.specs.declared.entry.Entry.{Entry}
use Rattle.jt_base.specs.declared.name.Name.{Name}
use Rattle.jt_laws.specs.Entries.{same_path}
use Rattle.jt_laws.specs.Locks.{Levels, is_ok, levels_by, levels_of, level, waits, waits_of, backs_of, places_of, is_wait, is_condition, holder_reply, condition_wait_reply}
use Rattle.jt_laws.specs.Objects.{reply_after, IsLawful}
use Rattle.jt_laws.proofs.Lawful.{along, lawful_push}
use Rattle.jt_laws.proofs.LockLaws.{levels_own}
use Rattle.jt_laws.proofs.Notified.{ok_is, backs_within}
use Rattle.jt_laws.proofs.Paths.{same_equal}
use Rattle.jt_laws.proofs.Waits.{waits_other, waits_not, before_of, before_other, before_same, unlocked_before}
use Rattle.jt_conditions.specs.Locks.{Holder, holder_of, level_in, reply_to}
use Rattle.jt_conditions.proofs.Holders.{IsProper, levelled, proper, holder_replies}

pub record Account (q : List ℕ) (own : List Entry) : Type 0 where
  pub back : backs_of q own + places_of q own ≤ waits_of q own
  pub level : 0 < waits_of q own → 0 < before_of q own

abbrev Had : List ℕ → List Entry → Type 0
Had q own = 0 < waits_of q own → 0 < before_of q own

same_had : (q : List ℕ) (own now : List Entry) → waits_of q now ≡ waits_of q own → before_of q now ≡ before_of q own → Had q own → Had q now
same_had q own now w l a h =
    let g : 0 < before_of q own = a (omega (arith, h, w)) in omega (arith, g, l)

-- what is asked of a condition is answered by its holder
pub when_kind : {A : Type 0} (b : Bool) (o : Option A) (r : A) → (if b then o else None) ≡ Some r → (b ≡ true) × (o ≡ Some r)
when_kind true o r e = (refl, e)
when_kind false o r e = absurd (cc)

pub given_reply : (own : List Entry) (task : List ℕ) (held r : Reply) → IsLawful own → holder_reply task own held ≡ Some r → reply_to (holder_of own) task held ≡ r
given_reply own task held r l a =
    let e : Some (reply_to (holder_of own) task held) ≡ Some r = sym (holder_replies own (holder_of own) task held (levelled own l) (proper own)) ∙ a in cc

holds_level : (h : Option Holder) (task : List ℕ) → IsProper h → reply_to h task reply.Ok ≡ reply.Ok → 0 < level_in h task
holds_level None task p e = absurd (cc)
holds_level (Some h) task p e =
    elim (same_path h.task task) as (λ b. (if b then reply.Ok else reply.NotOwner) ≡ reply.Ok → 0 < (if b then h.level else 0)) [
      | true ↦ λ g. p
      | false ↦ λ g. absurd (cc)
    ] e

pub waits_no : (l : Levels) (r : Reply) → is_ok r ≡ false → waits l r ≡ l
waits_no l reply.Ok e = absurd (cc)
waits_no l r e = refl

-- a wait
wait_had : (own : List Entry) (e : Entry) (n : Name) → IsLawful own → e.op ≡ CWait n → condition_wait_reply own e.task ≡ Some e.reply → (q : List ℕ) → Had q own → Had q (own ++ e ∷ [])
wait_had own e n l q given r had =
    elim (is_ok e.reply) as (λ b. is_ok e.reply ≡ b → Had r (own ++ e ∷ [])) [
      | false ↦ λ k.
          same_had r own (own ++ e ∷ []) (waits_not r own e (ap (λ o. is_wait o e.reply) q ∙ k)) (before_same r own e (λ v. ap (λ o. (levels_by o v e.reply).before_wait) q ∙ ap (λ x. x.before_wait) (waits_no v e.reply k))) had
      | true ↦ λ k. elim (same_path e.task r) as (λ b. same_path e.task r ≡ b → Had r (own ++ e ∷ [])) [
        | false ↦ λ s. same_had r own (own ++ e ∷ []) (waits_other r own e s) (before_other r own e s) had
        | true ↦ λ s.
            let ok = ok_is e.reply k in
            let t = given_reply own e.task reply.Ok e.reply l (when_kind (is_condition own) _ e.reply given).1 in
            let g = holds_level (holder_of own) e.task (proper own) (t ∙ ok) in
            let now : before_of r (own ++ e ∷ []) ≡ level e.task own =
            ap (λ x. x.before_wait) (levels_own r own e s) ∙ ap (λ o. (levels_by o (levels_of r own) e.reply).before_wait) q ∙ ap (λ v. (waits (levels_of r own) v).before_wait) ok ∙ ap (λ z. level z own) (sym (same_equal e.task r s)) in
            let lv = levelled own l e.task in
            λ h. omega (arith, now, lv, g)
      ] refl
    ] refl

other_had : (own : List Entry) (e : Entry) → is_wait e.op e.reply ≡ false → ((l : Levels) → (levels_by e.op l e.reply).before_wait ≡ l.before_wait) → (q : List ℕ) → Had q own → Had q (own ++ e ∷ [])
other_had own e w l q had =
    same_had q own (own ++ e ∷ []) (waits_not q own e w) (before_same q own e l) had

one_more : (op : Op) (own : List Entry) (e : Entry) → IsLawful own → e.op ≡ op → reply_after own e.task op ≡ Some e.reply → (q : List ℕ) → Had q own → Had q (own ++ e ∷ [])
one_more (CWait n) own e l is a q had = wait_had own e n l is a q had
one_more (Unlock n) own e l is a q had =
    other_had own e (ap (λ o. is_wait o e.reply) is) (λ v. ap (λ o. (levels_by o v e.reply).before_wait) is ∙ unlocked_before v e.reply) q had
one_more op own e l is a q had =
    other_had own e (ap (λ o. is_wait o e.reply) is) (λ v. ap (λ o. (levels_by o v e.reply).before_wait) is) q had

none_yet : (q : List ℕ) → Had q []
none_yet q h = absurd (omega (arith, h))

pub counted : (own : List Entry) → IsLawful own → (q : List ℕ) → Account q own
counted own l q = record {
  back = backs_within own l q;
  level = (along (λ h. IsLawful h × ((r : List ℕ) → Had r h)) (λ past e p a. (lawful_push past e p.0 a, λ r. one_more e.op past e p.0 refl a r (p.1 r))) [] own (tt, none_yet) l).1 q;
}
