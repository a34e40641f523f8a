-- The tasks that are away, as they are seen in the entries of a map.
use Rattle.std.proofs.Common.{◌≡◌, ℕ, ◌+◌, ◌-◌, ◌<◌, ◌≤◌, List, [], ◌∷◌, length, Option, Some, None, true, false, refl, sym, ap, subst, ◌∙◌, cond, arith}
use Rattle.std.specs.Prelude.{map, nat_le, nat_lt, if◌then◌else◌, option_map, min, IfSome}
use Rattle.std.specs.Map.{lookup}
use Rattle.std.specs.FinMap as finite
use Rattle.std.proofs.lemmas.Bool.Decides.{nat_tests}
use Rattle.jt_conditions.specs.declared.absence.Absence.{Absence}
use Rattle.jt_conditions.specs.declared.absence.Kept.{Kept}
use Rattle.jt_conditions.specs.Absences.{AbsentTasks, kept_at, wholly_notified, seen, all_seen, away, Numbered}
use Rattle.jt_conditions.specs.Conditions.{one_more_wait, notified_once, all_notified}
use Rattle.jt_conditions.proofs.Keys.{by_path, get_entries, found, equal_maps, inserted, removed}

lookup_map : {X Y : Type 0} (f : X → Y) (q : List ℕ) (es : List (List ℕ × X)) → lookup (by_path q) (map (λ e. (e.0, f e.1)) es) ≡ option_map f (lookup (by_path q) es)
lookup_map f q [] = refl
lookup_map f q (e ∷ es) =
    elim (by_path q e.0) as (λ b. cond b (Some (f e.1)) (lookup (by_path q) (map (λ e. (e.0, f e.1)) es)) ≡ option_map f (cond b (Some e.1) (lookup (by_path q) es))) [
      | true ↦ refl
      | false ↦ lookup_map f q es
    ]

-- what is seen of a task
pub get_seen : (woken : ℕ) (es : List (List ℕ × Kept)) (q : List ℕ) → finite.get (away woken es) q ≡ option_map (seen woken) (kept_at es q)
get_seen woken es q = get_entries q (all_seen woken es) ∙ lookup_map (seen woken) q es

-- after an entry is stored, and after one is removed
pub seen_put : (woken : ℕ) (old new : List (List ℕ × Kept)) (k : List ℕ) (v : Kept) → ((q : List ℕ) → kept_at new q ≡ cond (by_path k q) (Some v) (kept_at old q)) → away woken new ≡ finite.insert (away woken old) k (seen woken v)
seen_put woken old new k v f =
    inserted (all_seen woken old) (all_seen woken new) k (seen woken v) (λ q.
    lookup_map (seen woken) q new ∙ ap (option_map (seen woken)) (f q) ∙ elim (by_path k q) as (λ b. option_map (seen woken) (cond b (Some v) (kept_at old q)) ≡ cond b (Some (seen woken v)) (lookup (by_path q) (all_seen woken old))) [
      | true ↦ refl
      | false ↦ sym (lookup_map (seen woken) q old)
    ])

pub seen_removed : (woken : ℕ) (old new : List (List ℕ × Kept)) (k : List ℕ) → ((q : List ℕ) → kept_at new q ≡ cond (by_path k q) None (kept_at old q)) → away woken new ≡ finite.remove (away woken old) k
seen_removed woken old new k f =
    removed (all_seen woken old) (all_seen woken new) k (λ q.
    lookup_map (seen woken) q new ∙ ap (option_map (seen woken)) (f q) ∙ elim (by_path k q) as (λ b. option_map (seen woken) (cond b None (kept_at old q)) ≡ cond b None (lookup (by_path q) (all_seen woken old))) [
      | true ↦ refl
      | false ↦ sym (lookup_map (seen woken) q old)
    ])

pub seen_none : (v w : ℕ) (es : List (List ℕ × Kept)) → length es ≡ 0 → all_seen v es ≡ all_seen w es
seen_none v w [] e = refl
seen_none v w (x ∷ es) e = absurd (omega (arith, e))

-- the absence that is stored, or one with all waits notified
pub seen_waits : (woken : ℕ) (k : Kept) → (seen woken k).waits ≡ k.absence.waits
seen_waits woken k = elim (nat_le k.last woken) as (λ b. ◌≡◌ {A = ℕ} (if b then wholly_notified k.absence else k.absence).waits k.absence.waits) [ true ↦ refl | false ↦ refl ]

pub seen_later : (woken : ℕ) (k : Kept) → woken < k.last → seen woken k ≡ k.absence
seen_later woken k h =
    let t : nat_le k.last woken ≡ false = grind (arith, nat_tests) in
    ap (λ b. if b then wholly_notified k.absence else k.absence) t

seen_sooner : (woken : ℕ) (k : Kept) → k.last ≤ woken → seen woken k ≡ wholly_notified k.absence
seen_sooner woken k h =
    let t : nat_le k.last woken ≡ true = grind (arith, nat_tests) in
    ap (λ b. if b then wholly_notified k.absence else k.absence) t

-- a notify of a task of which all waits were notified changes nothing
wholly_once : (a : Absence) → wholly_notified (notified_once (wholly_notified a)) ≡ notified_once (wholly_notified a)
wholly_once a =
    let t : nat_lt a.waits a.waits ≡ false = grind (arith, nat_tests) in
    sym (ap (λ b. record { level = a.level; waits = a.waits; notified = if b then a.waits + 1 else a.waits }) t)

pub seen_once : (woken : ℕ) (k : Kept) → seen woken (record { absence = notified_once (seen woken k); last = k.last }) ≡ notified_once (seen woken k)
seen_once woken k =
    elim (nat_le k.last woken) as (λ b. ◌≡◌ {A = Absence} (if b then wholly_notified (notified_once (if b then wholly_notified k.absence else k.absence)) else notified_once (if b then wholly_notified k.absence else k.absence)) (notified_once (if b then wholly_notified k.absence else k.absence))) [
      | true ↦ wholly_once k.absence
      | false ↦ refl
    ]

-- one wait less
abbrev pub less : Absence → Absence
less a = record { level = a.level; waits = a.waits - 1; notified = a.notified - 1 }

pub seen_less : (woken : ℕ) (k : Kept) → seen woken (record { absence = less (seen woken k); last = k.last }) ≡ less (seen woken k)
seen_less woken k =
    elim (nat_le k.last woken) as (λ b. ◌≡◌ {A = Absence} (if b then wholly_notified (less (if b then wholly_notified k.absence else k.absence)) else less (if b then wholly_notified k.absence else k.absence)) (less (if b then wholly_notified k.absence else k.absence))) [
      | true ↦ refl
      | false ↦ refl
    ]

-- a notify of all
pub get_notified : (m : AbsentTasks) (q : List ℕ) → finite.get (all_notified m) q ≡ option_map wholly_notified (finite.get m q)
get_notified m q =
    get_entries q (map (λ e. (e.0, wholly_notified e.1)) (finite.entries m)) ∙ lookup_map wholly_notified q (finite.entries m) ∙ ap (option_map wholly_notified) (sym (finite.get-entries m q ∙ found q (finite.entries m)))

seen_all : (woken made : ℕ) (o : Option Kept) → IfSome o (Numbered made) → option_map (seen made) o ≡ option_map wholly_notified (option_map (seen woken) o)
seen_all woken made None n = refl
seen_all woken made (Some k) n =
    ap Some (seen_sooner made k n.last ∙ elim (nat_le k.last woken) as (λ b. ◌≡◌ {A = Absence} (wholly_notified k.absence) (wholly_notified (if b then wholly_notified k.absence else k.absence))) [ true ↦ refl | false ↦ refl ])

pub seen_notified : (woken made : ℕ) (es : List (List ℕ × Kept)) → ((q : List ℕ) → IfSome (kept_at es q) (Numbered made)) → away made es ≡ all_notified (away woken es)
seen_notified woken made es n =
    equal_maps _ _ (λ q.
    get_seen made es q ∙ seen_all woken made (kept_at es q) (n q) ∙ sym (get_notified (away woken es) q ∙ ap (option_map wholly_notified) (get_seen woken es q)))

-- one wait more
more_waits : (woken made level : ℕ) (o : Option Kept) → IfSome o (Numbered made) → (one_more_wait (option_map (seen woken) o) level).waits ≤ made + 1
more_waits woken made level None n = omega arith
more_waits woken made level (Some k) n = let e = seen_waits woken k in let w = n.waits in omega (arith, e, w)

pub waits_within : (woken made level : ℕ) (es : List (List ℕ × Kept)) (task : List ℕ) (m : AbsentTasks) (o : Option Absence) → ((q : List ℕ) → IfSome (kept_at es q) (Numbered made)) → away woken es ≡ m → o ≡ finite.get m task → (one_more_wait o level).waits ≤ made + 1
waits_within woken made level es task m o n e g =
    subst (λ o. (one_more_wait o level).waits ≤ made + 1) (sym (g ∙ ap (λ m. finite.get m task) (sym e) ∙ get_seen woken es task)) (more_waits woken made level (kept_at es task) (n task))

pub numbered_more : (made : ℕ) (o : Option Kept) → IfSome o (Numbered made) → IfSome o (Numbered (made + 1))
numbered_more made None n = tt
numbered_more made (Some k) n =
    let l = n.last in let w = n.waits in record { last = omega (arith, l); waits = omega (arith, w) }

pub room_for : (a b : ℕ) → 0 < min a b → 0 < b
room_for a b h = omega (arith, h)
