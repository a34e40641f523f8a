-- Locks: at most one task has a level.
use Rattle.std.proofs.Common.{◌≡◌, ℕ, ◌<◌, ◌≤◌, List, [], ◌∷◌, ◌++◌, ◌⊎◌, inl, inr, Some, Bool, true, false, refl, sym, ap, subst, ◌∙◌, cond, arith}
use Rattle.std.specs.Prelude.{◌&&◌, ◌||◌, not, nat_eq, nat_lt, fold}
use Rattle.std.specs.List.{list_any, list_all}
use Rattle.std.proofs.lemmas.Bool.Decides.{nat_tests}
use Rattle.std.proofs.lemmas.List.{append-nil}
use Rattle.jt_base.specs.declared.operation.Op.{Op}
use Rattle.jt_base.specs.declared.operation.Op.TheVariants.{Lock, Unlock, CWait, CBack}
use Rattle.jt_base.specs.declared.operation.Reply.{Reply}
use Rattle.jt_base.specs.declared.operation.Reply.TheVariants as reply
use Rattle.jt_base.specs.declared.entry.Entry.{Entry}
use Rattle.jt_laws.specs.Entries.{same_path, of_task, In}
use Rattle.jt_laws.specs.Locks.{Levels, no_levels, unlocked, waits, levels_by, levels_after, levels_of, level, is_free, is_held_by_other, is_lock, is_condition, is_notified}
use Rattle.jt_laws.specs.Objects.{reply_after, IsLawful}
use Rattle.jt_laws.proofs.Counts.{filter_push}
use Rattle.jt_laws.proofs.Lawful.{along}
use Rattle.jt_laws.proofs.Paths.{same_equal}
use Rattle.jt_laws.proofs.TaskLaws.{when_ok, both_true}

fold_push : (l : Levels) (xs : List Entry) (e : Entry) → fold levels_after l (xs ++ e ∷ []) ≡ levels_after (fold levels_after l xs) e
fold_push l [] e = refl
fold_push l (x ∷ xs) e = fold_push (levels_after l x) xs e

-- an entry of the task, and one of another task
pub levels_own : (path : List ℕ) (own : List Entry) (e : Entry) → same_path e.task path ≡ true → levels_of path (own ++ e ∷ []) ≡ levels_after (levels_of path own) e
levels_own path own e s =
    ap (fold levels_after no_levels) (filter_push (λ x. same_path x.task path) own e ∙ ap (λ b. of_task path own ++ cond b (e ∷ []) []) s) ∙ fold_push no_levels (of_task path own) e

pub levels_other : (path : List ℕ) (own : List Entry) (e : Entry) → same_path e.task path ≡ false → levels_of path (own ++ e ∷ []) ≡ levels_of path own
levels_other path own e s =
    ap (fold levels_after no_levels) (filter_push (λ x. same_path x.task path) own e ∙ ap (λ b. of_task path own ++ cond b (e ∷ []) []) s ∙ append-nil (of_task path own))

-- what passes a test, in a list
or_true : (b : Bool) → (b || true) ≡ true
or_true true = refl
or_true false = refl

pub any_here : (p : Entry → Bool) (own : List Entry) (e : Entry) → In e own → p e ≡ true → list_any p own ≡ true
any_here p [] e i h = absurd i
any_here p (x ∷ xs) e (inl s) h = ap (λ b. b || list_any p xs) (ap p s ∙ h)
any_here p (x ∷ xs) e (inr i) h = ap (λ b. p x || b) (any_here p xs e i h) ∙ or_true (p x)

pub any_none : (p : Entry → Bool) (own : List Entry) → ((e : Entry) → p e ≡ false) → list_any p own ≡ false
any_none p [] f = refl
any_none p (x ∷ xs) f = ap (λ b. b || list_any p xs) (f x) ∙ any_none p xs f

pub all_each : (p : Entry → Bool) (own : List Entry) → ((e : Entry) → p e ≡ true) → list_all p own ≡ true
all_each p [] f = refl
all_each p (x ∷ xs) f = ap (λ b. b && list_all p xs) (f x) ∙ all_each p xs f

pub all_here : (p : Entry → Bool) (own : List Entry) (e : Entry) → In e own → list_all p own ≡ true → p e ≡ true
all_here p [] e i h = absurd i
all_here p (x ∷ xs) e (inl s) h = ap p (sym s) ∙ (both_true (p x) (list_all p xs) h).0
all_here p (x ∷ xs) e (inr i) h = all_here p xs e i (both_true (p x) (list_all p xs) h).1

-- a task with a level has an entry
pub entry_of : (path : List ℕ) (own : List Entry) → (of_task path own ≡ []) ⊎ ((e : Entry) × (In e own × (e.task ≡ path)))
entry_of path [] = inl refl
entry_of path (x ∷ xs) =
    elim (same_path x.task path) as (λ b. same_path x.task path ≡ b → (cond b (x ∷ of_task path xs) (of_task path xs) ≡ []) ⊎ ((e : Entry) × (In e (x ∷ xs) × (e.task ≡ path)))) [
      | true ↦ λ s. inr (x, (inl refl, same_equal x.task path s))
      | false ↦ λ s. elim (entry_of path xs) as (λ v. (of_task path xs ≡ []) ⊎ ((e : Entry) × (In e (x ∷ xs) × (e.task ≡ path)))) [
        | inl n ↦ inl n
        | inr f ↦ inr (f.0, (inr f.1.0, f.1.1))
      ]
    ] refl

pub holds_entry : (path : List ℕ) (own : List Entry) → 0 < level path own → (e : Entry) × (In e own × (e.task ≡ path))
holds_entry path own h =
    elim (entry_of path own) as (λ v. (e : Entry) × (In e own × (e.task ≡ path))) [
      | inl n ↦ absurd (let z : level path own ≡ 0 = ap (λ l. (fold levels_after no_levels l).now) n in omega arith)
      | inr f ↦ f
    ]

zero_or_more : (n : ℕ) → (n ≡ 0) ⊎ (0 < n)
zero_or_more n = elim (nat_eq n 0) as (λ b. nat_eq n 0 ≡ b → (n ≡ 0) ⊎ (0 < n)) [
  | true ↦ λ q. inl (grind (arith, nat_tests))
  | false ↦ λ q. inr (grind (arith, nat_tests))
] refl

-- only this task may have a level
abbrev pub Only : List ℕ → List Entry → Type 0
Only task own = (q : List ℕ) → 0 < level q own → q ≡ task

abbrev pub Alone : List Entry → Type 0
Alone own = (p q : List ℕ) → 0 < level p own → 0 < level q own → p ≡ q

not_false : (b : Bool) → not b ≡ true → b ≡ false
not_false true e = absurd (cc)
not_false false e = refl

pub not_held_only : (task : List ℕ) (own : List Entry) → is_held_by_other task own ≡ false → Only task own
not_held_only task own n q h =
    let f = holds_entry q own h in
    let e = f.0 in
    let positive : 0 < level e.task own = subst (λ p. 0 < level p own) (sym f.1.1) h in
    elim (same_path e.task task) as (λ b. same_path e.task task ≡ b → q ≡ task) [
      | true ↦ λ s. sym f.1.1 ∙ same_equal e.task task s
      | false ↦ λ s.
          let there : (not (same_path e.task task) && nat_lt 0 (level e.task own)) ≡ true = ap (λ b. not b && nat_lt 0 (level e.task own)) s ∙ grind (arith, nat_tests) in
          let any = any_here (λ (x : Entry). not (same_path x.task task) && nat_lt 0 (level x.task own)) own e f.1.0 there in
          absurd (let clash : true ≡ false = sym any ∙ n in cc)
    ] refl

pub free_zero : (own : List Entry) → is_free own ≡ true → (q : List ℕ) → level q own ≡ 0
free_zero own f q =
    elim (zero_or_more (level q own)) as (λ v. level q own ≡ 0) [
      | inl z ↦ z
      | inr h ↦
          let g = holds_entry q own h in
          let z = all_here (λ (x : Entry). nat_eq (level x.task own) 0) own g.0 g.1.0 f in
          let n : level g.0.task own ≡ level q own = ap (λ p. level p own) g.1.1 in
          grind (arith, nat_tests)
    ]

-- which operations can raise a level
abbrev raises : Op → Bool
raises (Lock name) = true
raises (CBack name) = true
raises op = false

raised_only : (task : List ℕ) (op : Op) (own : List Entry) (r : Reply) → raises op ≡ true → reply_after own task op ≡ Some r → Only task own
raised_only task (Lock name) own r h a =
    not_held_only task own (not_false (is_held_by_other task own) (both_true (is_lock own) (not (is_held_by_other task own)) (when_ok _ r a)).1)
raised_only task (CBack name) own r h a =
    let b = (both_true (is_condition own) (is_free own && is_notified task own) (when_ok _ r a)).1 in
    let z = free_zero own (both_true (is_free own) (is_notified task own) b).0 in
    λ q p. absurd (let n = z q in omega (arith, n, p))
raised_only task op own r h a = absurd (cc)

unlocked_less : (l : Levels) (r : Reply) → (unlocked l r).now ≤ l.now
unlocked_less l reply.Ok = omega arith
unlocked_less l r = omega arith

waits_less : (l : Levels) (r : Reply) → (waits l r).now ≤ l.now
waits_less l reply.Ok = omega arith
waits_less l r = omega arith

not_raised : (op : Op) (l : Levels) (r : Reply) → raises op ≡ false → (levels_by op l r).now ≤ l.now
not_raised (Lock name) l r h = absurd (cc)
not_raised (CBack name) l r h = absurd (cc)
not_raised (Unlock name) l r h = unlocked_less l r
not_raised (CWait name) l r h = waits_less l r
not_raised op l r h = omega arith

level_before : (q : List ℕ) (own : List Entry) (e : Entry) → raises e.op ≡ false → 0 < level q (own ++ e ∷ []) → 0 < level q own
level_before q own e n h =
    elim (same_path e.task q) as (λ b. same_path e.task q ≡ b → 0 < level q own) [
      | true ↦ λ s.
          let now : level q (own ++ e ∷ []) ≡ (levels_by e.op (levels_of q own) e.reply).now = ap (λ l. l.now) (levels_own q own e s) in
          let less = not_raised e.op (levels_of q own) e.reply n in
          omega (arith, now, less, h)
      | false ↦ λ s.
          let now : level q (own ++ e ∷ []) ≡ level q own = ap (λ l. l.now) (levels_other q own e s) in
          omega (arith, now, h)
    ] refl

only_after : (own : List Entry) (e : Entry) → Only e.task own → Only e.task (own ++ e ∷ [])
only_after own e o q h =
    elim (same_path e.task q) as (λ b. same_path e.task q ≡ b → q ≡ e.task) [
      | true ↦ λ s. sym (same_equal e.task q s)
      | false ↦ λ s. o q (let now : level q (own ++ e ∷ []) ≡ level q own = ap (λ l. l.now) (levels_other q own e s) in omega (arith, now, h))
    ] refl

alone_after : (own : List Entry) (e : Entry) → Alone own → reply_after own e.task e.op ≡ Some e.reply → Alone (own ++ e ∷ [])
alone_after own e alone a =
    elim (raises e.op) as (λ b. raises e.op ≡ b → Alone (own ++ e ∷ [])) [
      | true ↦ λ r. let o = only_after own e (raised_only e.task e.op own e.reply r a) in λ p q hp hq. o p hp ∙ sym (o q hq)
      | false ↦ λ r. λ p q hp hq. alone p q (level_before p own e r hp) (level_before q own e r hq)
    ] refl

-- at most one task has a level
pub one_holds : (own : List Entry) → IsLawful own → Alone own
one_holds own l =
    along Alone (λ past e alone a. alone_after past e alone a) [] own (λ p q hp hq. absurd (omega (arith, hp))) l
