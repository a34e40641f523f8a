-- A condition answers a notify, and the return of a task that was notified, by its law.
use Rattle.std.proofs.Common.{◌≡◌, ℕ, suc, ◌+◌, ◌-◌, ◌<◌, ◌≤◌, List, [], ◌∷◌, ◌++◌, length, take, drop, Option, Some, None, Bool, true, false, refl, sym, ap, subst, ◌∙◌, cond, arith}
use Rattle.std.specs.Prelude.{◌&&◌, pos, min, nat_lt, nat_le, filter, fold, option_map, if◌then◌else◌}
use Rattle.std.specs.Option.{is_some}
use Rattle.std.specs.FinMap as finite
use Rattle.std.proofs.lemmas.Bool.Decides.{nat_tests}
use Rattle.jt_base.specs.declared.operation.Op.TheVariants.{CBack, CNotify}
use Rattle.jt_base.specs.declared.operation.Reply.{Reply}
use Rattle.jt_base.specs.declared.operation.Reply.TheVariants as reply
use Rattle.jt_base.specs.declared.entry.Entry.{Entry}
use Rattle.jt_base.specs.declared.entry.Ask.TheVariants.{NotYet}
use Rattle.jt_base.specs.declared.name.Name.{Name}
use Rattle.jt_laws.specs.Entries.{same_path}
use Rattle.jt_laws.specs.Tasks.{ok_if}
use Rattle.jt_laws.specs.Locks.{levels_by, levels_after, levels_of, waits_of, backs_of, places_of, waiting_of, waiting_by, without_first, is_wait, is_back, is_condition, is_free, is_notified, woken_by, holder_reply, back_reply, notify_reply}
use Rattle.jt_laws.specs.Objects.{IsLawful, answer_of, Asked}
use Rattle.jt_laws.proofs.Paths.{same_itself, same_equal}
use Rattle.jt_conditions.specs.declared.absence.Absence.{Absence}
use Rattle.jt_conditions.specs.Absences.{AbsentTasks, wholly_notified}
use Rattle.jt_conditions.specs.Answers.{is_done}
use Rattle.jt_conditions.specs.Locks.{Holder, holder_of, reply_to}
use Rattle.jt_conditions.specs.Conditions as c
use Rattle.jt_conditions.specs.Conditions.{Condition, condition_of, condition_left_by, absences, notified_once, put_notified, with_notified, all_notified, how_many, woken, notify_answer, after_notify, one_less_wait, returning_by, returning, back_by, back_answer, back, back_with, after_back}
use Rattle.jt_conditions.proofs.Absent.{kept, kept_of, get_absences, absences_are}
use Rattle.jt_conditions.proofs.ConditionLaw.{found, left, kept_as, kept_some, kept_none, absence_is, unmoved, holder_answers}
use Rattle.jt_laws.proofs.Notified.{was_notified}
use Rattle.jt_conditions.proofs.Counted.{counted, given_reply, when_kind}
use Rattle.jt_conditions.proofs.Holders.{IsProper, Levelled, levelled, proper, holder_after, free_none, not_free}
use Rattle.jt_conditions.proofs.Keys.{get_put, get_less}
use Rattle.jt_conditions.proofs.Seen.{get_notified}
use Rattle.jt_laws.proofs.Waits.{waits_not, backs_more, backs_other, backs_not, before_of, before_same, waiting_push, places_in, places_split}

-- a task of which nothing is kept stays so, whoever is notified
no_other : (m : AbsentTasks) (p q : List ℕ) (o : Option Absence) → finite.get m p ≡ o → finite.get m q ≡ None → finite.get (put_notified m p o) q ≡ None
no_other m p q None e n = n
no_other m p q (Some a) e n =
    get_put m p (notified_once a) q ∙ elim (same_path p q) as (λ b. same_path p q ≡ b → cond b (Some (notified_once a)) (finite.get m q) ≡ None) [
      | true ↦ λ s. absurd (let same : Some a ≡ None = sym e ∙ ap (finite.get m) (same_equal p q s) ∙ n in cc)
      | false ↦ λ s. n
    ] refl

notified_none : (ps : List (List ℕ)) (m : AbsentTasks) (q : List ℕ) → finite.get m q ≡ None → finite.get (fold with_notified m ps) q ≡ None
notified_none [] m q n = n
notified_none (p ∷ ps) m q n = notified_none ps (with_notified m p) q (no_other m p q (finite.get m p) refl n)

-- another task's notify leaves what is kept
other_kept : (m : AbsentTasks) (p q : List ℕ) (o : Option Absence) → same_path p q ≡ false → finite.get (put_notified m p o) q ≡ finite.get m q
other_kept m p q None s = refl
other_kept m p q (Some a) s = get_put m p (notified_once a) q ∙ ap (λ b. cond b (Some (notified_once a)) (finite.get m q)) s

own_kept : (m : AbsentTasks) (p q : List ℕ) (a : Absence) → same_path p q ≡ true → finite.get m q ≡ Some a → finite.get (with_notified m p) q ≡ Some (notified_once a)
own_kept m p q a s h =
    let here : finite.get m p ≡ Some a = ap (finite.get m) (same_equal p q s) ∙ h in
    ap (λ o. finite.get (put_notified m p o) q) here ∙ get_put m p (notified_once a) q ∙ ap (λ b. cond b (Some (notified_once a)) (finite.get m q)) s

once : (l w n : ℕ) → n < w → Some (notified_once (record { level = l; waits = w; notified = n })) ≡ Some (record { level = l; waits = w; notified = n + 1 })
once l w n h =
    let t : nat_lt n w ≡ true = grind (arith, nat_tests) in
    ap (λ b. Some (record { level = l; waits = w; notified = if b then n + 1 else n })) t

-- each place among the notified tasks notifies one wait
notified_all : (ps : List (List ℕ)) (m : AbsentTasks) (q : List ℕ) (l w p : ℕ) → p ≤ w → places_in q ps ≤ p → finite.get m q ≡ Some (record { level = l; waits = w; notified = w - p }) → finite.get (fold with_notified m ps) q ≡ Some (record { level = l; waits = w; notified = w - (p - places_in q ps) })
notified_all [] m q l w p a b h = h ∙ absence_is l w (w - p) l w (w - (p - 0)) refl (omega arith) refl
notified_all (r ∷ ps) m q l w p a b h =
    elim (same_path r q) as (λ v. same_path r q ≡ v → length (cond v (r ∷ filter (λ x. same_path x q) ps) (filter (λ x. same_path x q) ps)) ≤ p → finite.get (fold with_notified (with_notified m r) ps) q ≡ Some (record { level = l; waits = w; notified = w - (p - length (cond v (r ∷ filter (λ x. same_path x q) ps) (filter (λ x. same_path x q) ps))) })) [
      | true ↦ λ s g.
          let here : finite.get (with_notified m r) q ≡ Some (record { level = l; waits = w; notified = w - (p - 1) }) =
          own_kept m r q (record { level = l; waits = w; notified = w - p }) s h ∙ once l w (w - p) (omega (arith, g, a)) ∙ absence_is l w (w - p + 1) l w (w - (p - 1)) refl (omega (arith, g, a)) refl in
          notified_all ps (with_notified m r) q l w (p - 1) (omega arith) (omega (arith, g)) here
          ∙ absence_is l w (w - (p - 1 - places_in q ps)) l w (w - (p - suc (places_in q ps))) refl (omega arith) refl
      | false ↦ λ s g.
          notified_all ps (with_notified m r) q l w p a g (other_kept m r q (finite.get m r) s ∙ h)
    ] refl b

-- the tasks that are away, after the first n that wait are notified
notify_absences : (own : List Entry) (e : Entry) (n : Name) (all : Bool) (k : ℕ) → IsLawful own → e.op ≡ CNotify n all → waiting_of (own ++ e ∷ []) ≡ drop k (waiting_of own) → absences (own ++ e ∷ []) ≡ fold with_notified (absences own) (take k (waiting_of own))
notify_absences own e n all k l q ws =
    absences_are (own ++ e ∷ []) _ (λ r.
    let split = places_split r k (waiting_of own) in
    let back = (counted own l r).back in
    let now = kept_as r (own ++ e ∷ []) (before_of r own) (waits_of r own) (backs_of r own) (places_in r (drop k (waiting_of own))) (before_same r own e (λ v. ap (λ o. (levels_by o v e.reply).before_wait) q)) (waits_not r own e (ap (λ o. is_wait o e.reply) q)) (backs_not r own e (ap is_back q)) (ap (places_in r) ws) in
    elim (nat_lt 0 (waits_of r own - backs_of r own)) as (λ b. nat_lt 0 (waits_of r own - backs_of r own) ≡ b → finite.get (fold with_notified (absences own) (take k (waiting_of own))) r ≡ kept_of r (own ++ e ∷ [])) [
      | true ↦ λ t.
          let away : 0 < waits_of r own - backs_of r own = grind (arith, nat_tests) in
          notified_all (take k (waiting_of own)) (absences own) r (before_of r own) (waits_of r own - backs_of r own) (places_of r own) (omega (arith, back)) (omega (arith, split))
          (get_absences own r ∙ kept_some (before_of r own) (waits_of r own) (backs_of r own) (places_of r own) away)
          ∙ absence_is (before_of r own) (waits_of r own - backs_of r own) _ (before_of r own) (waits_of r own - backs_of r own) (waits_of r own - backs_of r own - places_in r (drop k (waiting_of own))) refl (omega (arith, split, back)) refl
          ∙ sym (now ∙ kept_some (before_of r own) (waits_of r own) (backs_of r own) (places_in r (drop k (waiting_of own))) away)
      | false ↦ λ t.
          let none : waits_of r own - backs_of r own ≡ 0 = grind (arith, nat_tests) in
          notified_none (take k (waiting_of own)) (absences own) r (get_absences own r ∙ kept_none (before_of r own) (waits_of r own) (backs_of r own) (places_of r own) none)
          ∙ sym (now ∙ kept_none (before_of r own) (waits_of r own) (backs_of r own) (places_in r (drop k (waiting_of own))) none)
    ] refl)

notify_list : (own : List Entry) (e : Entry) (n : Name) (all : Bool) → e.op ≡ CNotify n all → waiting_of (own ++ e ∷ []) ≡ without_first e.reply (waiting_of own)
notify_list own e n all q = waiting_push own e ∙ ap (λ o. waiting_by o (waiting_of own) e.task e.reply) q

notify_holder : (own : List Entry) (e : Entry) (n : Name) (all : Bool) → IsLawful own → e.op ≡ CNotify n all → holder_of (own ++ e ∷ []) ≡ holder_of own
notify_holder own e n all l q =
    holder_after own e (holder_of own) (holder_of own) (levelled own l) (ap (λ o. (levels_by o (levels_of e.task own) e.reply).now) q ∙ levelled own l e.task) (λ r s. refl) (proper own)

refused : (own : List Entry) (e : Entry) (n : Name) (all : Bool) (r : Reply) → IsLawful own → is_condition own ≡ true → e.op ≡ CNotify n all → r ≡ e.reply → without_first r (waiting_of own) ≡ waiting_of own → condition_left_by (own ++ e ∷ []) ≡ Some (condition_of own)
refused own e n all r l k q is w =
    unmoved own e l k (ap (λ o. is_wait o e.reply) q) (ap is_back q) (notify_list own e n all q ∙ ap (λ v. without_first v (waiting_of own)) (sym is) ∙ w) (λ v. ap (λ o. levels_by o v e.reply) q)

drop_one : (waiting : List (List ℕ)) → drop (min 1 (length waiting)) waiting ≡ drop 1 waiting
drop_one [] = refl
drop_one (w ∷ ws) =
    let one : min 1 (suc (length ws)) ≡ 1 = omega arith in
    ap (λ m. drop m (w ∷ ws)) one

drop_all : (waiting : List (List ℕ)) → drop (length waiting) waiting ≡ []
drop_all [] = refl
drop_all (w ∷ ws) = drop_all ws

-- a notify of all notifies each wait
wholly_kept : (l w k p : ℕ) → option_map wholly_notified (kept l w k p) ≡ kept l w k 0
wholly_kept l w k p =
    elim (nat_lt 0 (w - k)) as (λ b. option_map wholly_notified (if b then Some (record { level = l; waits = w - k; notified = w - k - p }) else None) ≡ (if b then Some (record { level = l; waits = w - k; notified = w - k - 0 }) else None)) [
      | true ↦ absence_is l (w - k) (w - k) l (w - k) (w - k - 0) refl (omega arith) refl
      | false ↦ refl
    ]

all_absences : (own : List Entry) (e : Entry) (n : Name) (all : Bool) → e.op ≡ CNotify n all → waiting_of (own ++ e ∷ []) ≡ [] → absences (own ++ e ∷ []) ≡ all_notified (absences own)
all_absences own e n all q ws =
    absences_are (own ++ e ∷ []) (all_notified (absences own)) (λ r.
    get_notified (absences own) r ∙ ap (option_map wholly_notified) (get_absences own r) ∙ wholly_kept (before_of r own) (waits_of r own) (backs_of r own) (places_of r own)
    ∙ sym (kept_as r (own ++ e ∷ []) (before_of r own) (waits_of r own) (backs_of r own) 0 (before_same r own e (λ v. ap (λ o. (levels_by o v e.reply).before_wait) q)) (waits_not r own e (ap (λ o. is_wait o e.reply) q)) (backs_not r own e (ap is_back q)) (ap (places_in r) ws)))

notify_moves : (own : List Entry) (e : Entry) (n : Name) (all : Bool) → IsLawful own → is_condition own ≡ true → e.op ≡ CNotify n all → reply.Int (pos (how_many all (waiting_of own))) ≡ e.reply → condition_left_by (own ++ e ∷ []) ≡ Some (woken all (condition_of own))
notify_moves own e n true l k q g =
    let ws : waiting_of (own ++ e ∷ []) ≡ [] = notify_list own e n true q ∙ ap (λ v. without_first v (waiting_of own)) (sym g) ∙ drop_all (waiting_of own) in
    left own e (woken true (condition_of own)) k (notify_holder own e n true l q) ws (all_absences own e n true q ws)
notify_moves own e n false l k q g =
    let ws : waiting_of (own ++ e ∷ []) ≡ drop 1 (waiting_of own) = notify_list own e n false q ∙ ap (λ v. without_first v (waiting_of own)) (sym g) ∙ drop_one (waiting_of own) in
    left own e (woken false (condition_of own)) k (notify_holder own e n false l q) ws (notify_absences own e n false 1 l q ws)

notify_by : (own : List Entry) (e : Entry) (n : Name) (all : Bool) (holder : Option Holder) → IsLawful own → is_condition own ≡ true → e.op ≡ CNotify n all → reply_to holder e.task (reply.Int (pos (how_many all (waiting_of own)))) ≡ e.reply → condition_left_by (own ++ e ∷ []) ≡ Some (c.woken_by (condition_of own) holder e.task all)
notify_by own e n all None l k q r = refused own e n all reply.NotLocked l k q r refl
notify_by own e n all (Some h) l k q r =
    elim (same_path h.task e.task) as (λ b. (if b then reply.Int (pos (how_many all (waiting_of own))) else reply.NotOwner) ≡ e.reply → condition_left_by (own ++ e ∷ []) ≡ Some (if b then woken all (condition_of own) else condition_of own)) [
      | true ↦ λ g. notify_moves own e n all l k q g
      | false ↦ λ g. refused own e n all reply.NotOwner l k q g refl
    ] r

count_is : (all : Bool) (own : List Entry) → woken_by all own ≡ how_many all (waiting_of own)
count_is true own = refl
count_is false own = refl

pub notify_asked : (task : List ℕ) (n : Name) (all : Bool) (before : Condition) → Asked Condition condition_left_by task (CNotify n all) before (notify_answer before task all) (after_notify before task all)
notify_asked task n all before = record {
  answers = λ past l s. let f = found past before s in
      ap (λ x. notify_answer x task all) (sym f.1) ∙ holder_answers past task (reply.Int (pos (how_many all (waiting_of past)))) l f.0
      ∙ ap (λ m. answer_of (if is_condition past then holder_reply task past (reply.Int (pos m)) else None)) (sym (count_is all past));
  moves = λ past e l s by q a. let f = found past before s in
      let r = given_reply past e.task (reply.Int (pos (woken_by all past))) e.reply l (when_kind (is_condition past) _ e.reply (ap (λ t. notify_reply past t all) by ∙ a)).1 in
      notify_by past e n all (holder_of past) l f.0 q (ap (λ m. reply_to (holder_of past) e.task (reply.Int (pos m))) (sym (count_is all past)) ∙ r)
      ∙ ap (λ t. Some (after_notify (condition_of past) t all)) by ∙ ap (λ x. Some (after_notify x task all)) f.1;
  stays = λ h. absurd (cc);
}

-- a return
abbrev absence : ℕ → ℕ → ℕ → ℕ → Absence
absence l w k p = record { level = l; waits = w - k; notified = w - k - p }

kept_is : (l w k p : ℕ) (a : Absence) → kept l w k p ≡ Some a → (0 < w - k) × (absence l w k p ≡ a)
kept_is l w k p a e =
    elim (nat_lt 0 (w - k)) as (λ b. nat_lt 0 (w - k) ≡ b → (if b then Some (absence l w k p) else None) ≡ Some a → (0 < w - k) × (absence l w k p ≡ a)) [
      | true ↦ λ t g. (grind (arith, nat_tests), cc)
      | false ↦ λ t g. absurd (cc)
    ] refl e

same_test : (w k p : ℕ) → nat_lt (k + p) w ≡ nat_lt 0 (w - k - p)
same_test w k p =
    elim (nat_lt (k + p) w) as (λ b. nat_lt (k + p) w ≡ b → b ≡ nat_lt 0 (w - k - p)) [
      | true ↦ λ t. let h : k + p < w = grind (arith, nat_tests) in let g : 0 < w - k - p = omega (arith, h) in grind (arith, nat_tests)
      | false ↦ λ t. let h : w ≤ k + p = grind (arith, nat_tests) in let g : w - k - p ≡ 0 = omega (arith, h) in grind (arith, nat_tests)
    ] refl

ok_or_not : (b : Bool) (a : Absence) → answer_of (ok_if b) ≡ back_by (if b then Some a else None)
ok_or_not true a = refl
ok_or_not false a = refl

notified_test : (own : List Entry) (task : List ℕ) (o : Option Absence) → IsLawful own → finite.get (absences own) task ≡ o → answer_of (ok_if (is_notified task own)) ≡ back_by (returning_by None o)
notified_test own task None l g =
    let none = sym (get_absences own task) ∙ g in
    let b = (counted own l task).back in
    elim (is_notified task own) as (λ v. is_notified task own ≡ v → answer_of (ok_if v) ≡ NotYet) [
      | true ↦ λ t.
          let away : 0 < waits_of task own - backs_of task own = grind (arith, nat_tests) in
          absurd (let some = kept_some (before_of task own) (waits_of task own) (backs_of task own) (places_of task own) away in let clash : None ≡ Some (absence (before_of task own) (waits_of task own) (backs_of task own) (places_of task own)) = sym none ∙ some in cc)
      | false ↦ λ t. refl
    ] refl
notified_test own task (Some a) l g =
    let is = (kept_is (before_of task own) (waits_of task own) (backs_of task own) (places_of task own) a (sym (get_absences own task) ∙ g)).1 in
    ok_or_not (is_notified task own) a ∙ ap (λ b. back_by (if b then Some a else None)) (same_test (waits_of task own) (backs_of task own) (places_of task own) ∙ ap (λ x. nat_lt 0 x.notified) is)

back_answers : (own : List Entry) (task : List ℕ) (holder : Option Holder) → IsLawful own → is_condition own ≡ true → holder_of own ≡ holder → back_by (returning_by holder (finite.get (absences own) task)) ≡ answer_of (back_reply own task)
back_answers own task None l k h =
    let free = free_none own (subst (Levelled own) h (levelled own l)) in
    sym (ap (λ b. answer_of (ok_if (b && (is_free own && is_notified task own)))) k ∙ ap (λ b. answer_of (ok_if (b && is_notified task own))) free ∙ notified_test own task (finite.get (absences own) task) l refl)
back_answers own task (Some h) l k is =
    let free = not_free own h (subst (Levelled own) is (levelled own l)) (subst IsProper is (proper own)) in
    sym (ap (λ b. answer_of (ok_if (b && (is_free own && is_notified task own)))) k ∙ ap (λ b. answer_of (ok_if (b && is_notified task own))) free)

free_holder : (own : List Entry) (o : Option Holder) → IsLawful own → holder_of own ≡ o → is_free own ≡ true → o ≡ None
free_holder own None l h f = refl
free_holder own (Some h) l is f =
    absurd (let n = not_free own h (subst (Levelled own) is (levelled own l)) (subst IsProper is (proper own)) in let clash : true ≡ false = sym f ∙ n in cc)

one_less_kept : (l w k p : ℕ) → k + p < w → (b : Bool) → nat_le (w - k) 1 ≡ b → (if b then None else Some (record { level = l; waits = w - k - 1; notified = w - k - p - 1 })) ≡ kept l w (k + 1) p
one_less_kept l w k p h true t =
    let few : w - k ≤ 1 = grind (arith, nat_tests) in sym (kept_none l w (k + 1) p (omega (arith, few)))
one_less_kept l w k p h false t =
    let many : 1 < w - k = grind (arith, nat_tests) in
    absence_is l (w - k - 1) (w - k - p - 1) l (w - (k + 1)) (w - (k + 1) - p) (omega arith) (omega arith) refl ∙ sym (kept_some l w (k + 1) p (omega (arith, many)))

-- what is left of a task that is back from one of its waits
less_at : (m : AbsentTasks) (task q : List ℕ) (a : Absence) (b : Bool) → finite.get (if b then finite.remove m task else finite.insert m task (record { level = a.level; waits = a.waits - 1; notified = a.notified - 1 })) q ≡ cond (same_path task q) (if b then None else Some (record { level = a.level; waits = a.waits - 1; notified = a.notified - 1 })) (finite.get m q)
less_at m task q a true = get_less m task q
less_at m task q a false = get_put m task (record { level = a.level; waits = a.waits - 1; notified = a.notified - 1 }) q

back_absences : (own : List Entry) (e : Entry) (n : Name) → e.op ≡ CBack n → backs_of e.task own + places_of e.task own < waits_of e.task own → waiting_of (own ++ e ∷ []) ≡ waiting_of own → absences (own ++ e ∷ []) ≡ one_less_wait (absences own) e.task (absence (before_of e.task own) (waits_of e.task own) (backs_of e.task own) (places_of e.task own))
back_absences own e n q h ws =
    let a = absence (before_of e.task own) (waits_of e.task own) (backs_of e.task own) (places_of e.task own) in
    absences_are (own ++ e ∷ []) _ (λ r.
    less_at (absences own) e.task r a (nat_le a.waits 1)
    ∙ elim (same_path e.task r) as (λ b. same_path e.task r ≡ b → cond b (if nat_le a.waits 1 then None else Some (record { level = a.level; waits = a.waits - 1; notified = a.notified - 1 })) (finite.get (absences own) r) ≡ kept_of r (own ++ e ∷ [])) [
      | true ↦ λ s.
          subst (λ z. (if nat_le a.waits 1 then None else Some (record { level = a.level; waits = a.waits - 1; notified = a.notified - 1 })) ≡ kept_of z (own ++ e ∷ [])) (same_equal e.task r s)
          (one_less_kept (before_of e.task own) (waits_of e.task own) (backs_of e.task own) (places_of e.task own) h (nat_le a.waits 1) refl
          ∙ sym (kept_as e.task (own ++ e ∷ []) (before_of e.task own) (waits_of e.task own) (backs_of e.task own + 1) (places_of e.task own) (before_same e.task own e (λ v. ap (λ o. (levels_by o v e.reply).before_wait) q)) (waits_not e.task own e (ap (λ o. is_wait o e.reply) q)) (backs_more e.task own e (same_itself e.task) (ap is_back q)) (ap (places_in e.task) ws)))
      | false ↦ λ s.
          get_absences own r ∙ sym (kept_as r (own ++ e ∷ []) _ _ _ _ (before_same r own e (λ v. ap (λ o. (levels_by o v e.reply).before_wait) q)) (waits_not r own e (ap (λ o. is_wait o e.reply) q)) (backs_other r own e s) (ap (places_in r) ws))
    ] refl)

back_moves : (own : List Entry) (e : Entry) (n : Name) → IsLawful own → is_condition own ≡ true → e.op ≡ CBack n → back_reply own e.task ≡ Some e.reply → condition_left_by (own ++ e ∷ []) ≡ Some (after_back (condition_of own) e.task)
back_moves own e n l k q given =
    let t = e.task in
    let may = was_notified own t e.reply given in
    let h : backs_of t own + places_of t own < waits_of t own = may.1 in
    let free = free_holder own (holder_of own) l refl may.0 in
    let away : 0 < waits_of t own - backs_of t own = omega (arith, h) in
    let a = absence (before_of t own) (waits_of t own) (backs_of t own) (places_of t own) in
    let is : finite.get (absences own) t ≡ Some a = get_absences own t ∙ kept_some (before_of t own) (waits_of t own) (backs_of t own) (places_of t own) away in
    let ws : waiting_of (own ++ e ∷ []) ≡ waiting_of own = waiting_push own e ∙ ap (λ o. waiting_by o (waiting_of own) e.task e.reply) q in
    let now : (levels_after (levels_of t own) e).now ≡ before_of t own = ap (λ o. (levels_by o (levels_of t own) e.reply).now) q in
    let held : holder_of (own ++ e ∷ []) ≡ Some (record { task = t; level = before_of t own }) =
    holder_after own e None (Some (record { task = t; level = before_of t own })) (subst (Levelled own) free (levelled own l)) (now ∙ sym (ap (λ b. if b then before_of t own else 0) (same_itself t))) (λ r s. sym (ap (λ b. if b then before_of t own else 0) s)) ((counted own l t).level (omega (arith, h))) in
    let some : nat_lt 0 (waits_of t own - backs_of t own - places_of t own) ≡ true = let g : 0 < waits_of t own - backs_of t own - places_of t own = omega (arith, h) in grind (arith, nat_tests) in
    left own e (back (condition_of own) t a) k held ws (back_absences own e n q h ws)
    ∙ ap (λ b. Some (back_with (condition_of own) t (if b then Some a else None))) (sym some)
    ∙ ap (λ o. Some (back_with (condition_of own) t (returning_by None o))) (sym is)
    ∙ ap (λ o. Some (back_with (condition_of own) t (returning_by o (finite.get (absences own) t)))) (sym free)

back_stays_by : (s : Condition) (task : List ℕ) (o : Option Absence) → back_by o ≡ NotYet → back_with s task o ≡ s
back_stays_by s task None e = refl
back_stays_by s task (Some a) e = absurd (cc)

-- a task that may come back is answered by a reply
pub back_done : (o : Option Absence) → is_some o ≡ is_done (back_by o)
back_done None = refl
back_done (Some a) = refl

pub back_asked : (task : List ℕ) (n : Name) (before : Condition) → Asked Condition condition_left_by task (CBack n) before (back_answer before task) (after_back before task)
back_asked task n before = record {
  answers = λ past l s. let f = found past before s in
      ap (λ x. back_answer x task) (sym f.1) ∙ back_answers past task (holder_of past) l f.0 refl;
  moves = λ past e l s by q a. let f = found past before s in
      back_moves past e n l f.0 q (ap (back_reply past) by ∙ a) ∙ ap (λ t. Some (after_back (condition_of past) t)) by ∙ ap (λ x. Some (after_back x task)) f.1;
  stays = λ h. back_stays_by before task (returning before task) h;
}
