-- A condition answers by its law.
use Rattle.std.proofs.Common.{◌≡◌, ℕ, ◌+◌, ◌-◌, ◌<◌, ◌≤◌, List, [], ◌∷◌, ◌++◌, Option, Some, None, true, false, refl, sym, ap, subst, ◌∙◌, cond, arith}
use Rattle.std.specs.Prelude.{nat_lt, if◌then◌else◌}
use Rattle.std.specs.FinMap as finite
use Rattle.std.proofs.lemmas.Bool.Decides.{nat_tests}
use Rattle.jt_base.specs.declared.operation.Op.{Op}
use Rattle.jt_base.specs.declared.operation.Op.TheVariants.{NewCondition, Lock, Unlock, CWait}
use Rattle.jt_base.specs.declared.operation.Reply.{Reply}
use Rattle.jt_base.specs.declared.operation.Reply.TheVariants as reply
use Rattle.jt_base.specs.declared.entry.Entry.{Entry}
use Rattle.jt_base.specs.declared.entry.Ask.TheVariants.{Done}
use Rattle.jt_base.specs.declared.name.Name.{Name}
use Rattle.jt_laws.specs.Entries.{same_path}
use Rattle.jt_laws.specs.Locks.{Levels, is_ok, levels_by, levels_after, levels_of, level, waits, joined, waits_of, backs_of, places_of, waiting_of, waiting_by, is_wait, is_back, is_lock, makes_lock, makes_condition, is_condition, holder_reply, lock_reply, unlock_reply, condition_wait_reply}
use Rattle.jt_laws.specs.Objects.{IsLawful, answer_of, Asked}
use Rattle.jt_laws.proofs.LockLaws.{levels_own}
use Rattle.jt_laws.proofs.Paths.{same_itself, same_equal}
use Rattle.jt_conditions.specs.declared.absence.Absence.{Absence}
use Rattle.jt_conditions.specs.Locks.{Holder, holder_of, level_in, lock_answer, after_lock, reply_to, after_unlock}
use Rattle.jt_conditions.specs.Conditions.{Condition, condition_of, condition_left_by, absences, held_by, one_more_wait, gone, gone_by, after_wait}
use Rattle.jt_conditions.proofs.Absent.{kept, kept_of, get_absences, absences_are}
use Rattle.jt_laws.proofs.Notified.{joined_not}
use Rattle.jt_conditions.proofs.Counted.{counted, given_reply, when_kind, waits_no}
use Rattle.jt_conditions.proofs.Holders.{levelled, proper, holder_after, holder_replies}
use Rattle.jt_conditions.proofs.Keys.{get_put}
use Rattle.jt_conditions.proofs.LockLaw.{lock_answers, lock_holder, unlock_answers, unlock_holder, lock_stays}
use Rattle.jt_laws.proofs.Waits.{waits_more, waits_other, waits_not, backs_not, before_of, before_other, before_same, waiting_push, places_in, places_more, places_other, is_quiet, quiet_wait, quiet_back, quiet_waiting, quiet_before}

-- a condition is made by its first entry, and is a lock
made_lock : (op : Op) → makes_condition op ≡ true → makes_lock op ≡ true
made_lock (NewCondition name) e = refl
made_lock op e = absurd (cc)

lock_too : (own : List Entry) → is_condition own ≡ true → is_lock own ≡ true
lock_too [] e = absurd (cc)
lock_too (x ∷ xs) e = made_lock x.op e

still : (own : List Entry) (e : Entry) → is_condition own ≡ true → is_condition (own ++ e ∷ []) ≡ true
still [] e k = absurd (cc)
still (x ∷ xs) e k = k

pub found : (own : List Entry) (before : Condition) → condition_left_by own ≡ Some before → (is_condition own ≡ true) × (condition_of own ≡ before)
found own before e =
    elim (is_condition own) as (λ b. is_condition own ≡ b → (if b then Some (condition_of own) else None) ≡ Some before → (is_condition own ≡ true) × (condition_of own ≡ before)) [
      | true ↦ λ k g. (k, cc)
      | false ↦ λ k g. absurd (cc)
    ] refl e

pub left : (own : List Entry) (e : Entry) (now : Condition) → is_condition own ≡ true → holder_of (own ++ e ∷ []) ≡ now.holder → waiting_of (own ++ e ∷ []) ≡ now.waiting → absences (own ++ e ∷ []) ≡ now.absent → condition_left_by (own ++ e ∷ []) ≡ Some now
left own e now k h w a =
    ap (λ b. if b then Some (condition_of (own ++ e ∷ [])) else None) (still own e k)
    ∙ ap (λ x. Some (record { holder = x; waiting = waiting_of (own ++ e ∷ []); absent = absences (own ++ e ∷ []) })) h
    ∙ ap (λ x. Some (record { holder = now.holder; waiting = x; absent = absences (own ++ e ∷ []) })) w
    ∙ ap (λ x. Some (record { holder = now.holder; waiting = now.waiting; absent = x })) a

-- what is kept of a task, by the four numbers
pub kept_as : (q : List ℕ) (own : List Entry) (l w k p : ℕ) → before_of q own ≡ l → waits_of q own ≡ w → backs_of q own ≡ k → places_of q own ≡ p → kept_of q own ≡ kept l w k p
kept_as q own l w k p a b c d =
    ap (λ x. kept x (waits_of q own) (backs_of q own) (places_of q own)) a ∙ ap (λ x. kept l x (backs_of q own) (places_of q own)) b
    ∙ ap (λ x. kept l w x (places_of q own)) c ∙ ap (λ x. kept l w k x) d

-- an entry that leaves the tasks that are away as they are
same_absences : (own : List Entry) (e : Entry) → is_wait e.op e.reply ≡ false → is_back e.op ≡ false → waiting_of (own ++ e ∷ []) ≡ waiting_of own → ((l : Levels) → (levels_by e.op l e.reply).before_wait ≡ l.before_wait) → absences (own ++ e ∷ []) ≡ absences own
same_absences own e w b ws l =
    absences_are (own ++ e ∷ []) (absences own) (λ q.
    get_absences own q ∙ sym (kept_as q (own ++ e ∷ []) _ _ _ _ (before_same q own e l) (waits_not q own e w) (backs_not q own e b) (ap (places_in q) ws)))

quiet_moves : (own : List Entry) (e : Entry) (holder : Option Holder) → is_condition own ≡ true → is_quiet e.op ≡ true → holder_of (own ++ e ∷ []) ≡ holder → condition_left_by (own ++ e ∷ []) ≡ Some (held_by (condition_of own) holder)
quiet_moves own e holder k q h =
    let ws = waiting_push own e ∙ quiet_waiting e.op (waiting_of own) e.task e.reply q in
    left own e (held_by (condition_of own) holder) k h ws (same_absences own e (quiet_wait e.op e.reply q) (quiet_back e.op q) ws (λ l. quiet_before e.op l e.reply q))

-- an entry that changes nothing
pub unmoved : (own : List Entry) (e : Entry) → IsLawful own → is_condition own ≡ true → is_wait e.op e.reply ≡ false → is_back e.op ≡ false → waiting_of (own ++ e ∷ []) ≡ waiting_of own → ((l : Levels) → levels_by e.op l e.reply ≡ l) → condition_left_by (own ++ e ∷ []) ≡ Some (condition_of own)
unmoved own e l k w b ws lv =
    let h = holder_after own e (holder_of own) (holder_of own) (levelled own l) (ap (λ x. x.now) (lv (levels_of e.task own)) ∙ levelled own l e.task) (λ q s. refl) (proper own) in
    left own e (condition_of own) k h ws (same_absences own e w b ws (λ x. ap (λ y. y.before_wait) (lv x)))

-- lock and unlock
pub lock_asked : (task : List ℕ) (n : Name) (before : Condition) → Asked Condition condition_left_by task (Lock n) before (lock_answer before.holder task) (held_by before (after_lock before.holder task))
lock_asked task n before = record {
  answers = λ past l s. let f = found past before s in
      ap (λ x. lock_answer x.holder task) (sym f.1) ∙ lock_answers past task l (lock_too past f.0);
  moves = λ past e l s by q a. let f = found past before s in
      quiet_moves past e (after_lock (holder_of past) e.task) f.0 (ap is_quiet q) (lock_holder past e n l q (ap (lock_reply past) by ∙ a))
      ∙ ap (λ t. Some (held_by (condition_of past) (after_lock (holder_of past) t))) by ∙ ap (λ x. Some (held_by x (after_lock x.holder task))) f.1;
  stays = λ h. ap (held_by before) (lock_stays before.holder task h);
}

pub unlock_asked : (task : List ℕ) (n : Name) (before : Condition) → Asked Condition condition_left_by task (Unlock n) before (Done (reply_to before.holder task reply.Ok)) (held_by before (after_unlock before.holder task))
unlock_asked task n before = record {
  answers = λ past l s. let f = found past before s in
      ap (λ x. Done (reply_to x.holder task reply.Ok)) (sym f.1) ∙ unlock_answers past task l (lock_too past f.0);
  moves = λ past e l s by q a. let f = found past before s in
      quiet_moves past e (after_unlock (holder_of past) e.task) f.0 (ap is_quiet q) (unlock_holder past e n l (lock_too past f.0) q (ap (unlock_reply past) by ∙ a))
      ∙ ap (λ t. Some (held_by (condition_of past) (after_unlock (holder_of past) t))) by ∙ ap (λ x. Some (held_by x (after_unlock x.holder task))) f.1;
  stays = λ h. absurd (cc);
}

-- what is asked of the holder alone
pub holder_answers : (own : List Entry) (task : List ℕ) (held : Reply) → IsLawful own → is_condition own ≡ true → Done (reply_to (holder_of own) task held) ≡ answer_of (if is_condition own then holder_reply task own held else None)
holder_answers own task held l k =
    ap answer_of (sym (holder_replies own (holder_of own) task held (levelled own l) (proper own))) ∙ ap (λ b. answer_of (if b then holder_reply task own held else None)) (sym k)

-- a wait
pub absence_is : (l w k m x y : ℕ) → w ≡ x → k ≡ y → l ≡ m → ◌≡◌ {A = Option Absence} (Some (record { level = l; waits = w; notified = k })) (Some (record { level = m; waits = x; notified = y }))
absence_is l w k m x y a b c =
    ap (λ v. Some (record { level = l; waits = v; notified = k })) a ∙ ap (λ v. Some (record { level = l; waits = x; notified = v })) b
    ∙ ap (λ v. Some (record { level = v; waits = x; notified = y })) c

pub kept_some : (l w k p : ℕ) → 0 < w - k → kept l w k p ≡ Some (record { level = l; waits = w - k; notified = w - k - p })
kept_some l w k p h =
    let t : nat_lt 0 (w - k) ≡ true = grind (arith, nat_tests) in
    ap (λ b. if b then Some (record { level = l; waits = w - k; notified = w - k - p }) else None) t

pub kept_none : (l w k p : ℕ) → w - k ≡ 0 → kept l w k p ≡ None
kept_none l w k p h =
    let t : nat_lt 0 (w - k) ≡ false = grind (arith, nat_tests) in
    ap (λ b. if b then Some (record { level = l; waits = w - k; notified = w - k - p }) else None) t

waits_more_kept : (old l w k p : ℕ) → k + p ≤ w → Some (one_more_wait (kept old w k p) l) ≡ kept l (w + 1) k (p + 1)
waits_more_kept old l w k p h =
    let now = kept_some l (w + 1) k (p + 1) (omega arith) in
    elim (nat_lt 0 (w - k)) as (λ b. nat_lt 0 (w - k) ≡ b → Some (one_more_wait (if b then Some (record { level = old; waits = w - k; notified = w - k - p }) else None) l) ≡ kept l (w + 1) k (p + 1)) [
      | true ↦ λ t. absence_is l (w - k + 1) (w - k - p) l (w + 1 - k) (w + 1 - k - (p + 1)) (omega arith) (omega arith) refl ∙ sym now
      | false ↦ λ t. let z : w - k ≡ 0 = grind (arith, nat_tests) in absence_is l 1 0 l (w + 1 - k) (w + 1 - k - (p + 1)) (omega (arith, z)) (omega (arith, z)) refl ∙ sym now
    ] refl

-- a task that gives the lock up
wait_absences : (own : List Entry) (e : Entry) (n : Name) → IsLawful own → e.op ≡ CWait n → e.reply ≡ reply.Ok → (taken : ℕ) → level e.task own ≡ taken → waiting_of (own ++ e ∷ []) ≡ waiting_of own ++ e.task ∷ [] → absences (own ++ e ∷ []) ≡ finite.insert (absences own) e.task (one_more_wait (finite.get (absences own) e.task) taken)
wait_absences own e n l q ok taken lv ws =
    let w : is_wait e.op e.reply ≡ true = ap (λ o. is_wait o e.reply) q ∙ ap is_ok ok in
    absences_are (own ++ e ∷ []) _ (λ r.
    get_put (absences own) e.task (one_more_wait (finite.get (absences own) e.task) taken) r
    ∙ elim (same_path e.task r) as (λ b. same_path e.task r ≡ b → cond b (Some (one_more_wait (finite.get (absences own) e.task) taken)) (finite.get (absences own) r) ≡ kept_of r (own ++ e ∷ [])) [
      | true ↦ λ s.
          let now : before_of e.task (own ++ e ∷ []) ≡ taken =
          ap (λ x. x.before_wait) (levels_own e.task own e (same_itself e.task)) ∙ ap (λ o. (levels_by o (levels_of e.task own) e.reply).before_wait) q ∙ ap (λ v. (waits (levels_of e.task own) v).before_wait) ok ∙ lv in
          let p : places_of e.task (own ++ e ∷ []) ≡ places_of e.task own + 1 = ap (places_in e.task) ws ∙ places_more e.task e.task (waiting_of own) (same_itself e.task) in
          subst (λ z. Some (one_more_wait (finite.get (absences own) e.task) taken) ≡ kept_of z (own ++ e ∷ [])) (same_equal e.task r s)
          (ap (λ o. Some (one_more_wait o taken)) (get_absences own e.task)
          ∙ waits_more_kept (before_of e.task own) taken (waits_of e.task own) (backs_of e.task own) (places_of e.task own) (counted own l e.task).back
          ∙ sym (kept_as e.task (own ++ e ∷ []) taken (waits_of e.task own + 1) (backs_of e.task own) (places_of e.task own + 1) now (waits_more e.task own e (same_itself e.task) w) (backs_not e.task own e (ap is_back q)) p))
      | false ↦ λ s.
          get_absences own r ∙ sym (kept_as r (own ++ e ∷ []) _ _ _ _ (before_other r own e s) (waits_other r own e s) (backs_not r own e (ap is_back q)) (ap (places_in r) ws ∙ places_other r e.task (waiting_of own) s))
    ] refl)

wait_list : (own : List Entry) (e : Entry) (n : Name) → e.op ≡ CWait n → waiting_of (own ++ e ∷ []) ≡ joined e.task e.reply (waiting_of own)
wait_list own e n q = waiting_push own e ∙ ap (λ o. waiting_by o (waiting_of own) e.task e.reply) q

wait_gone : (own : List Entry) (e : Entry) (n : Name) (h : Holder) → IsLawful own → is_condition own ≡ true → e.op ≡ CWait n → holder_of own ≡ Some h → same_path h.task e.task ≡ true → e.reply ≡ reply.Ok → condition_left_by (own ++ e ∷ []) ≡ Some (gone (condition_of own) e.task h.level)
wait_gone own e n h l k q is s ok =
    let lv : level e.task own ≡ h.level = levelled own l e.task ∙ ap (λ o. level_in o e.task) is ∙ ap (λ b. if b then h.level else 0) s in
    let ws : waiting_of (own ++ e ∷ []) ≡ waiting_of own ++ e.task ∷ [] = wait_list own e n q ∙ ap (λ v. joined e.task v (waiting_of own)) ok in
    let zero : (levels_after (levels_of e.task own) e).now ≡ 0 =
    ap (λ o. (levels_by o (levels_of e.task own) e.reply).now) q ∙ ap (λ v. (waits (levels_of e.task own) v).now) ok in
    let free = holder_after own e (holder_of own) None (levelled own l) zero
    (λ r d. ap (λ o. level_in o r) is ∙ ap (λ b. if b then h.level else 0) (ap (λ z. same_path z r) (same_equal h.task e.task s) ∙ d)) tt in
    left own e (gone (condition_of own) e.task h.level) k free ws (wait_absences own e n l q ok h.level lv ws)

not_ok : (own : List Entry) (e : Entry) (n : Name) → IsLawful own → is_condition own ≡ true → e.op ≡ CWait n → is_ok e.reply ≡ false → condition_left_by (own ++ e ∷ []) ≡ Some (condition_of own)
not_ok own e n l k q r =
    unmoved own e l k (ap (λ o. is_wait o e.reply) q ∙ r) (ap is_back q) (wait_list own e n q ∙ joined_not e.task e.reply (waiting_of own) r) (λ v. ap (λ o. levels_by o v e.reply) q ∙ waits_no v e.reply r)

wait_by : (own : List Entry) (e : Entry) (n : Name) (holder : Option Holder) → IsLawful own → is_condition own ≡ true → e.op ≡ CWait n → holder_of own ≡ holder → reply_to holder e.task reply.Ok ≡ e.reply → condition_left_by (own ++ e ∷ []) ≡ Some (gone_by (condition_of own) holder e.task)
wait_by own e n None l k q is r = not_ok own e n l k q (ap is_ok (sym r))
wait_by own e n (Some h) l k q is r =
    elim (same_path h.task e.task) as (λ b. same_path h.task e.task ≡ b → (if b then reply.Ok else reply.NotOwner) ≡ e.reply → condition_left_by (own ++ e ∷ []) ≡ Some (if b then gone (condition_of own) e.task h.level else condition_of own)) [
      | true ↦ λ s g. wait_gone own e n h l k q is s (sym g)
      | false ↦ λ s g. not_ok own e n l k q (ap is_ok (sym g))
    ] refl r

pub wait_asked : (task : List ℕ) (n : Name) (before : Condition) → Asked Condition condition_left_by task (CWait n) before (Done (reply_to before.holder task reply.Ok)) (after_wait before task)
wait_asked task n before = record {
  answers = λ past l s. let f = found past before s in
      ap (λ x. Done (reply_to x.holder task reply.Ok)) (sym f.1) ∙ holder_answers past task reply.Ok l f.0;
  moves = λ past e l s by q a. let f = found past before s in
      let r = given_reply past e.task reply.Ok e.reply l (when_kind (is_condition past) _ e.reply (ap (condition_wait_reply past) by ∙ a)).1 in
      wait_by past e n (holder_of past) l f.0 q refl r ∙ ap (λ t. Some (after_wait (condition_of past) t)) by ∙ ap (λ x. Some (after_wait x task)) f.1;
  stays = λ h. absurd (cc);
}

-- a condition as it is made
pub made : (name : Name) (e : Entry) → e.op ≡ NewCondition name → condition_left_by (e ∷ []) ≡ Some (record { holder = None; waiting = []; absent = finite.empty })
made name e q =
    let holder : holder_of (e ∷ []) ≡ None = holder_after [] e None None (λ r. refl) (ap (λ o. (levels_by o (levels_of e.task []) e.reply).now) q) (λ r s. refl) tt in
    let ws : waiting_of (e ∷ []) ≡ [] = ap (λ o. waiting_by o [] e.task e.reply) q in
    let away : absences (e ∷ []) ≡ finite.empty = same_absences [] e (ap (λ o. is_wait o e.reply) q) (ap is_back q) ws (λ v. ap (λ o. (levels_by o v e.reply).before_wait) q) in
    ap (λ b. if b then Some (condition_of (e ∷ [])) else None) (ap makes_condition q)
    ∙ ap (λ x. Some (record { holder = x; waiting = waiting_of (e ∷ []); absent = absences (e ∷ []) })) holder
    ∙ ap (λ x. Some (record { holder = None; waiting = x; absent = absences (e ∷ []) })) ws
    ∙ ap (λ x. Some (record { holder = None; waiting = []; absent = x })) away
