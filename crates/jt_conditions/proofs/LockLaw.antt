-- A lock answers by its law.
use Rattle.std.proofs.Common.{◌≡◌, ℕ, ◌+◌, ◌-◌, List, [], ◌∷◌, ◌++◌, Option, Some, None, true, false, refl, sym, ap, ◌∙◌, arith}
use Rattle.std.specs.Prelude.{◌&&◌, not, nat_le, if◌then◌else◌}
use Rattle.std.proofs.lemmas.Bool.Decides.{nat_tests}
use Rattle.jt_base.specs.declared.operation.Op.{Op}
use Rattle.jt_base.specs.declared.operation.Op.TheVariants.{NewLock, Lock, Unlock}
use Rattle.jt_base.specs.declared.operation.Reply.TheVariants as reply
use Rattle.jt_base.specs.declared.entry.Entry.{Entry}
use Rattle.jt_base.specs.declared.entry.Ask.TheVariants.{Done, NotYet}
use Rattle.jt_base.specs.declared.name.Name.{Name}
use Rattle.jt_laws.specs.Entries.{same_path}
use Rattle.jt_laws.specs.Tasks.{ok_if}
use Rattle.jt_laws.specs.Locks.{Levels, levels_by, levels_after, levels_of, level, unlocked, is_lock, makes_lock, is_held_by_other, holder_reply, lock_reply, unlock_reply}
use Rattle.jt_laws.specs.Objects.{IsLawful, answer_of, Asked}
use Rattle.jt_laws.proofs.Paths.{same_itself, same_equal}
use Rattle.jt_laws.proofs.TaskLaws.{when_ok, both_true}
use Rattle.jt_conditions.specs.Locks.{Holder, holder_of, is_new_lock, is_plain_lock, lock_left_by, level_in, lock_answer, after_lock, reply_to, lowered, after_unlock}
use Rattle.jt_conditions.proofs.Holders.{IsProper, levelled, proper, holder_after, other_in, held_other, holder_replies}

-- a lock by a task that holds it, or while it is free
lock_by : (h : Option Holder) (task : List ℕ) → answer_of (ok_if (not (other_in h task))) ≡ lock_answer h task
lock_by None task = refl
lock_by (Some h) task = elim (same_path h.task task) as (λ b. answer_of (ok_if (not (not b))) ≡ (if b then Done reply.Ok else NotYet)) [
  | true ↦ refl
  | false ↦ refl
]

pub lock_answers : (own : List Entry) (task : List ℕ) → IsLawful own → is_lock own ≡ true → lock_answer (holder_of own) task ≡ answer_of (lock_reply own task)
lock_answers own task l k =
    sym (lock_by (holder_of own) task) ∙ ap (λ b. answer_of (ok_if (not b))) (sym (held_other own (holder_of own) task (levelled own l) (proper own)))
    ∙ ap (λ b. answer_of (ok_if (b && not (is_held_by_other task own)))) (sym k)

lock_up : (h : Option Holder) (task : List ℕ) → not (other_in h task) ≡ true → level_in h task + 1 ≡ level_in (after_lock h task) task
lock_up None task e = ap (λ b. if b then 1 else 0) (sym (same_itself task))
lock_up (Some h) task e =
    elim (same_path h.task task) as (λ b. same_path h.task task ≡ b → not (not b) ≡ true → (if b then h.level else 0) + 1 ≡ level_in (if b then Some (record { task = h.task; level = h.level + 1 }) else Some h) task) [
      | true ↦ λ s n. ap (λ b. if b then h.level + 1 else 0) (sym s)
      | false ↦ λ s n. absurd (cc)
    ] refl e

other_task : (h : Holder) (task q : List ℕ) → same_path h.task task ≡ true → same_path task q ≡ false → same_path h.task q ≡ false
other_task h task q s n = ap (λ p. same_path p q) (same_equal h.task task s) ∙ n

lock_rest : (h : Option Holder) (task q : List ℕ) → same_path task q ≡ false → level_in h q ≡ level_in (after_lock h task) q
lock_rest None task q n = ap (λ b. if b then 1 else 0) (sym n)
lock_rest (Some h) task q n =
    elim (same_path h.task task) as (λ b. same_path h.task task ≡ b → (if same_path h.task q then h.level else 0) ≡ level_in (if b then Some (record { task = h.task; level = h.level + 1 }) else Some h) q) [
      | true ↦ λ s. let o = other_task h task q s n in ap (λ b. if b then h.level else 0) o ∙ sym (ap (λ b. if b then h.level + 1 else 0) o)
      | false ↦ λ s. refl
    ] refl

lock_proper : (h : Option Holder) (task : List ℕ) → IsProper h → IsProper (after_lock h task)
lock_proper None task p = omega arith
lock_proper (Some h) task p = elim (same_path h.task task) as (λ b. IsProper (if b then Some (record { task = h.task; level = h.level + 1 }) else Some h)) [
  | true ↦ omega arith
  | false ↦ p
]

pub lock_holder : (own : List Entry) (e : Entry) (name : Name) → IsLawful own → e.op ≡ Lock name → lock_reply own e.task ≡ Some e.reply → holder_of (own ++ e ∷ []) ≡ after_lock (holder_of own) e.task
lock_holder own e name l q a =
    let h = holder_of own in
    let free = (both_true (is_lock own) (not (is_held_by_other e.task own)) (when_ok _ e.reply a)).1 in
    let mine : not (other_in h e.task) ≡ true = ap not (sym (held_other own h e.task (levelled own l) (proper own))) ∙ free in
    let up : (levels_after (levels_of e.task own) e).now ≡ level e.task own + 1 = ap (λ o. (levels_by o (levels_of e.task own) e.reply).now) q in
    holder_after own e h (after_lock h e.task) (levelled own l) (up ∙ ap (λ n. n + 1) (levelled own l e.task) ∙ lock_up h e.task mine) (lock_rest h e.task) (lock_proper h e.task (proper own))

pub lock_stays : (h : Option Holder) (task : List ℕ) → lock_answer h task ≡ NotYet → after_lock h task ≡ h
lock_stays None task e = absurd (cc)
lock_stays (Some h) task e =
    elim (same_path h.task task) as (λ b. (if b then Done reply.Ok else NotYet) ≡ NotYet → ◌≡◌ {A = Option Holder} (if b then Some (record { task = h.task; level = h.level + 1 }) else Some h) (Some h)) [
      | true ↦ λ n. absurd (cc)
      | false ↦ λ n. refl
    ] e

-- an unlock
pub unlock_answers : (own : List Entry) (task : List ℕ) → IsLawful own → is_lock own ≡ true → Done (reply_to (holder_of own) task reply.Ok) ≡ answer_of (unlock_reply own task)
unlock_answers own task l k =
    ap answer_of (sym (holder_replies own (holder_of own) task reply.Ok (levelled own l) (proper own)))
    ∙ ap (λ b. answer_of (if b then holder_reply task own reply.Ok else None)) (sym k)

lower : (h : Holder) (task : List ℕ) → same_path h.task task ≡ true → h.level - 1 ≡ level_in (lowered h) task
lower h task s =
    elim (nat_le h.level 1) as (λ b. nat_le h.level 1 ≡ b → h.level - 1 ≡ level_in (if b then None else Some (record { task = h.task; level = h.level - 1 })) task) [
      | true ↦ λ n. grind (arith, nat_tests)
      | false ↦ λ n. ap (λ b. if b then h.level - 1 else 0) (sym s)
    ] refl

unlock_down : (h : Option Holder) (task : List ℕ) (k : Levels) → k.now ≡ level_in h task → (unlocked k (reply_to h task reply.Ok)).now ≡ level_in (after_unlock h task) task
unlock_down None task k n = n
unlock_down (Some h) task k n =
    elim (same_path h.task task) as (λ b. same_path h.task task ≡ b → k.now ≡ (if b then h.level else 0) → (unlocked k (if b then reply.Ok else reply.NotOwner)).now ≡ level_in (if b then lowered h else Some h) task) [
      | true ↦ λ s m. ap (λ j. j - 1) m ∙ lower h task s
      | false ↦ λ s m. m ∙ sym (ap (λ b. if b then h.level else 0) s)
    ] refl n

lower_rest : (h : Holder) (q : List ℕ) → same_path h.task q ≡ false → 0 ≡ level_in (lowered h) q
lower_rest h q s = elim (nat_le h.level 1) as (λ b. 0 ≡ level_in (if b then None else Some (record { task = h.task; level = h.level - 1 })) q) [
  | true ↦ refl
  | false ↦ sym (ap (λ b. if b then h.level - 1 else 0) s)
]

unlock_rest : (h : Option Holder) (task q : List ℕ) → same_path task q ≡ false → level_in h q ≡ level_in (after_unlock h task) q
unlock_rest None task q n = refl
unlock_rest (Some h) task q n =
    elim (same_path h.task task) as (λ b. same_path h.task task ≡ b → (if same_path h.task q then h.level else 0) ≡ level_in (if b then lowered h else Some h) q) [
      | true ↦ λ s. let o = other_task h task q s n in ap (λ b. if b then h.level else 0) o ∙ lower_rest h q o
      | false ↦ λ s. refl
    ] refl

lowered_proper : (h : Holder) → IsProper (lowered h)
lowered_proper h = elim (nat_le h.level 1) as (λ b. nat_le h.level 1 ≡ b → IsProper (if b then None else Some (record { task = h.task; level = h.level - 1 }))) [
  | true ↦ λ n. tt
  | false ↦ λ n. grind (arith, nat_tests)
] refl

unlock_proper : (h : Option Holder) (task : List ℕ) → IsProper h → IsProper (after_unlock h task)
unlock_proper None task p = tt
unlock_proper (Some h) task p = elim (same_path h.task task) as (λ b. IsProper (if b then lowered h else Some h)) [
  | true ↦ lowered_proper h
  | false ↦ p
]

pub unlock_holder : (own : List Entry) (e : Entry) (name : Name) → IsLawful own → is_lock own ≡ true → e.op ≡ Unlock name → unlock_reply own e.task ≡ Some e.reply → holder_of (own ++ e ∷ []) ≡ after_unlock (holder_of own) e.task
unlock_holder own e name l k q a =
    let h = holder_of own in
    let r : Some (reply_to h e.task reply.Ok) ≡ Some e.reply =
    sym (holder_replies own h e.task reply.Ok (levelled own l) (proper own)) ∙ ap (λ b. if b then holder_reply e.task own reply.Ok else None) (sym k) ∙ a in
    let given : reply_to h e.task reply.Ok ≡ e.reply = cc in
    let down : (levels_after (levels_of e.task own) e).now ≡ (unlocked (levels_of e.task own) (reply_to h e.task reply.Ok)).now =
    ap (λ o. (levels_by o (levels_of e.task own) e.reply).now) q ∙ ap (λ v. (unlocked (levels_of e.task own) v).now) (sym given) in
    holder_after own e h (after_unlock h e.task) (levelled own l) (down ∙ unlock_down h e.task (levels_of e.task own) (levelled own l e.task)) (unlock_rest h e.task) (unlock_proper h e.task (proper own))

-- a lock is made by its first entry
made_lock : (op : Op) → is_new_lock op ≡ true → makes_lock op ≡ true
made_lock (NewLock name) e = refl
made_lock op e = absurd (cc)

plain_lock : (own : List Entry) → is_plain_lock own ≡ true → is_lock own ≡ true
plain_lock [] e = absurd (cc)
plain_lock (x ∷ xs) e = made_lock x.op e

still : (own : List Entry) (e : Entry) → is_plain_lock own ≡ true → is_plain_lock (own ++ e ∷ []) ≡ true
still [] e k = absurd (cc)
still (x ∷ xs) e k = k

pub found : (own : List Entry) (before : Option Holder) → lock_left_by own ≡ Some before → (is_plain_lock own ≡ true) × (holder_of own ≡ before)
found own before e =
    elim (is_plain_lock own) as (λ b. is_plain_lock own ≡ b → (if b then Some (holder_of own) else None) ≡ Some before → (is_plain_lock own ≡ true) × (holder_of own ≡ before)) [
      | true ↦ λ k g. (k, cc)
      | false ↦ λ k g. absurd (cc)
    ] refl e

left : (own : List Entry) (e : Entry) (now : Option Holder) → is_plain_lock own ≡ true → holder_of (own ++ e ∷ []) ≡ now → lock_left_by (own ++ e ∷ []) ≡ Some now
left own e now k h =
    ap (λ b. if b then Some (holder_of (own ++ e ∷ [])) else None) (still own e k) ∙ ap Some h

pub lock_asked : (task : List ℕ) (n : Name) (before : Option Holder) → Asked (Option Holder) lock_left_by task (Lock n) before (lock_answer before task) (after_lock before task)
lock_asked task n before = record {
  answers = λ past l s. let f = found past before s in
      ap (λ h. lock_answer h task) (sym f.1) ∙ lock_answers past task l (plain_lock past f.0);
  moves = λ past e l s by q a. let f = found past before s in
      left past e (after_lock before task) f.0 (lock_holder past e n l q (ap (lock_reply past) by ∙ a) ∙ ap (after_lock (holder_of past)) by ∙ ap (λ h. after_lock h task) f.1);
  stays = lock_stays before task;
}

pub unlock_asked : (task : List ℕ) (n : Name) (before : Option Holder) → Asked (Option Holder) lock_left_by task (Unlock n) before (Done (reply_to before task reply.Ok)) (after_unlock before task)
unlock_asked task n before = record {
  answers = λ past l s. let f = found past before s in
      ap (λ h. Done (reply_to h task reply.Ok)) (sym f.1) ∙ unlock_answers past task l (plain_lock past f.0);
  moves = λ past e l s by q a. let f = found past before s in
      left past e (after_unlock before task) f.0 (unlock_holder past e n l (plain_lock past f.0) q (ap (unlock_reply past) by ∙ a) ∙ ap (after_unlock (holder_of past)) by ∙ ap (λ h. after_unlock h task) f.1);
  stays = λ h. absurd (cc);
}
