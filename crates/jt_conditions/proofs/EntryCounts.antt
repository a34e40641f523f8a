-- The numbers of a state are at most the number of the entries that left it.
use Rattle.std.proofs.Common.{◌≡◌, ℕ, ◌+◌, ◌-◌, ◌≤◌, List, [], ◌∷◌, length, Option, Some, None, Bool, true, false, sym, ap, ◌∙◌, cond, arith}
use Rattle.std.specs.Prelude.{nat_lt, filter, fold, if◌then◌else◌}
use Rattle.jt_base.specs.declared.operation.Op.{Op}
use Rattle.jt_base.specs.declared.operation.Op.TheVariants.{Lock, Unlock, CWait, CBack}
use Rattle.jt_base.specs.declared.operation.Reply.{Reply}
use Rattle.jt_base.specs.declared.operation.Reply.TheVariants as reply
use Rattle.jt_base.specs.declared.entry.Entry.{Entry}
use Rattle.jt_laws.specs.Entries.{same_path, of_task}
use Rattle.jt_laws.specs.Locks.{Levels, no_levels, unlocked, waits, levels_by, levels_after, levels_of, level, waits_of, backs_of, places_of, is_wait}
use Rattle.jt_laws.specs.Objects.{IsLawful}
use Rattle.jt_conditions.specs.Locks.{Holder, lock_left_by, level_in}
use Rattle.jt_conditions.specs.Conditions.{Condition, condition_left_by, one_more_wait, waits_in}
use Rattle.jt_conditions.proofs.Absent.{kept, kept_of, get_absences}
use Rattle.jt_conditions.proofs.ConditionLaw.{found}
use Rattle.jt_conditions.proofs.Holders.{levelled}
use Rattle.jt_conditions.proofs.LockLaw.{found as lock_found}

fewer : {X : Type 0} (p : X → Bool) (xs : List X) → length (filter p xs) ≤ length xs
fewer p [] = omega arith
fewer p (x ∷ xs) =
    let h = fewer p xs in
    elim (p x) as (λ b. length (cond b (x ∷ filter p xs) (filter p xs)) ≤ length (x ∷ xs)) [
      | true ↦ omega (arith, h)
      | false ↦ omega (arith, h)
    ]

pub record UpTo (l : Levels) (n : ℕ) : Type 0 where
  pub now : l.now ≤ n
  pub before : l.before_wait ≤ n

unlocked_up : (l : Levels) (r : Reply) (n : ℕ) → UpTo l n → UpTo (unlocked l r) (n + 1)
unlocked_up l reply.Ok n u = let a = u.now in let b = u.before in record { now = omega (arith, a); before = omega (arith, b) }
unlocked_up l r n u = let a = u.now in let b = u.before in record { now = omega (arith, a); before = omega (arith, b) }

waits_up : (l : Levels) (r : Reply) (n : ℕ) → UpTo l n → UpTo (waits l r) (n + 1)
waits_up l reply.Ok n u = let a = u.now in record { now = omega arith; before = omega (arith, a) }
waits_up l r n u = let a = u.now in let b = u.before in record { now = omega (arith, a); before = omega (arith, b) }

levels_up : (op : Op) (l : Levels) (r : Reply) (n : ℕ) → UpTo l n → UpTo (levels_by op l r) (n + 1)
levels_up (Lock name) l r n u = let a = u.now in let b = u.before in record { now = omega (arith, a); before = omega (arith, b) }
levels_up (Unlock name) l r n u = unlocked_up l r n u
levels_up (CWait name) l r n u = waits_up l r n u
levels_up (CBack name) l r n u = let b = u.before in record { now = omega (arith, b); before = omega (arith, b) }
levels_up op l r n u = let a = u.now in let b = u.before in record { now = omega (arith, a); before = omega (arith, b) }

folded : (xs : List Entry) (l : Levels) (n : ℕ) → UpTo l n → (fold levels_after l xs).now ≤ n + length xs
folded [] l n u = let a = u.now in omega (arith, a)
folded (x ∷ xs) l n u = let h = folded xs (levels_after l x) (n + 1) (levels_up x.op l x.reply n u) in omega (arith, h)

level_bound : (task : List ℕ) (own : List Entry) → level task own ≤ length own
level_bound task own =
    let h = folded (of_task task own) no_levels 0 (record { now = omega arith; before = omega arith }) in
    let f = fewer (λ (e : Entry). same_path e.task task) own in
    omega (arith, h, f)

waits_bound : (task : List ℕ) (own : List Entry) → waits_of task own ≤ length own
waits_bound task own =
    let a = fewer (λ (e : Entry). is_wait e.op e.reply) (of_task task own) in
    let b = fewer (λ (e : Entry). same_path e.task task) own in
    omega (arith, a, b)

pub lock_level : (own : List Entry) (holder : Option Holder) (task : List ℕ) → IsLawful own → lock_left_by own ≡ Some holder → level_in holder task ≤ length own
lock_level own holder task l s =
    let n = levelled own l task ∙ ap (λ h. level_in h task) (lock_found own holder s).1 in
    let b = level_bound task own in
    omega (arith, n, b)

pub condition_level : (own : List Entry) (condition : Condition) (task : List ℕ) → IsLawful own → condition_left_by own ≡ Some condition → level_in condition.holder task ≤ length own
condition_level own condition task l s =
    let n = levelled own l task ∙ ap (λ c. level_in c.holder task) (found own condition s).1 in
    let b = level_bound task own in
    omega (arith, n, b)

kept_waits : (l w k p : ℕ) → (one_more_wait (kept l w k p) 0).waits - 1 ≤ w
kept_waits l w k p = elim (nat_lt 0 (w - k)) as (λ b. (one_more_wait (if b then Some (record { level = l; waits = w - k; notified = w - k - p }) else None) 0).waits - 1 ≤ w) [
  | true ↦ omega arith
  | false ↦ omega arith
]

pub condition_waits : (own : List Entry) (condition : Condition) (task : List ℕ) → IsLawful own → condition_left_by own ≡ Some condition → waits_in condition.absent task ≤ length own
condition_waits own condition task l s =
    let n : waits_in condition.absent task ≡ (one_more_wait (kept_of task own) 0).waits - 1 =
    ap (λ c. waits_in c.absent task) (sym (found own condition s).1) ∙ ap (λ o. (one_more_wait o 0).waits - 1) (get_absences own task) in
    let k = kept_waits (levels_of task own).before_wait (waits_of task own) (backs_of task own) (places_of task own) in
    let b = waits_bound task own in
    omega (arith, n, k, b)
