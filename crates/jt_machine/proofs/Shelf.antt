-- Lists of shards, one of which is replaced.
use Rattle.std.proofs.Common.{◌≡◌, ℕ, zero, suc, ◌+◌, ◌-◌, List, [], ◌∷◌, ◌++◌, Some, refl, sym, ap, ◌∙◌, subst, arith, length, map, get_or, set, append_assoc}
use Rattle.std.specs.Prelude.{slice_get}
use Rattle.std.specs.List.{All}
use Rattle.std.specs.List.Sorted.{IsPermutation}
use Rattle.std.proofs.lemmas.List.Elements.{All-nil, All-cons, All-head, All-tail}
use Rattle.std.proofs.lemmas.List.{map-set, length-append, length-map}
use Rattle.std.proofs.lemmas.List.Sorted.{IsPermutation-refl, IsPermutation-trans, IsPermutation-append_left, IsPermutation-append_right, IsPermutation-append_comm, IsPermutation-sym}
use Rattle.jt_base.specs.declared.operation.Op.{Op}
use Rattle.jt_histories.specs.Jobs.{last_entry}
use Rattle.jt_shard.specs.Shards.{ShardState}
use Rattle.jt_step.specs.Tasks.{Task}
use Rattle.jt_machine.specs.Machines.{logs_of, waiting_in, stamps_left}

abbrev pub jobs_of : List (Task × Op) → List Task
jobs_of ws = map (λ w. w.0) ws

-- ---- any lists

pub get_set_same : {X : Type 0} (xs : List X) (k : ℕ) (x y : X) → slice_get xs k ≡ Some x → slice_get (set xs k y) k ≡ Some y
get_set_same [] k x y e = absurd (cc)
get_set_same (z ∷ zs) zero x y e = refl
get_set_same (z ∷ zs) (suc k) x y e = get_set_same zs k x y e

pub set_twice : {X : Type 0} (xs : List X) (k : ℕ) (x y : X) → set (set xs k x) k y ≡ set xs k y
set_twice [] k x y = refl
set_twice (z ∷ zs) zero x y = refl
set_twice (z ∷ zs) (suc k) x y = ap (λ l. z ∷ l) (set_twice zs k x y)

pub set_itself : {X : Type 0} (xs : List X) (k : ℕ) (x : X) → slice_get xs k ≡ Some x → xs ≡ set xs k x
set_itself [] k x e = refl
set_itself (z ∷ zs) zero x e = let q : z ≡ x = cc in ap (λ y. y ∷ zs) q
set_itself (z ∷ zs) (suc k) x e = ap (λ l. z ∷ l) (set_itself zs k x e)

pub All-front : {X : Type 0} (P : X → Type 0) (xs ys : List X) → All P (xs ++ ys) → All P xs
All-front P [] ys a = All-nil P
All-front P (x ∷ xs) ys a = All-cons P x xs (All-head P x (xs ++ ys) a) (All-front P xs ys (All-tail P x (xs ++ ys) a))

pub All-back : {X : Type 0} (P : X → Type 0) (xs ys : List X) → All P (xs ++ ys) → All P ys
All-back P [] ys a = a
All-back P (x ∷ xs) ys a = All-back P xs ys (All-tail P x (xs ++ ys) a)

-- what holds of the other elements and of the new one
pub set_each : {X : Type 0} (xs : List X) (k : ℕ) (y : X) (P : ℕ → X → Type 0) → ((j : ℕ) (x : X) → slice_get xs j ≡ Some x → (j ≡ k → ⊥) → P j x) → P k y
    → (j : ℕ) (x : X) → slice_get (set xs k y) j ≡ Some x → P j x
set_each [] k y P other own j x e = absurd (cc)
set_each (z ∷ zs) zero y P other own zero x e = let q : y ≡ x = cc in subst (P zero) q own
set_each (z ∷ zs) zero y P other own (suc j) x e = other (suc j) x e (λ q. absurd (omega (arith, q)))
set_each (z ∷ zs) (suc k) y P other own zero x e = other zero x e (λ q. absurd (omega (arith, q)))
set_each (z ∷ zs) (suc k) y P other own (suc j) x e =
    set_each zs k y (λ i v. P (suc i) v) (λ i v f n. other (suc i) v f (λ q. n (omega (arith, q)))) own j x e

-- ---- shards

pub log_at : (shards : List (ShardState Task)) (k : ℕ) (s : ShardState Task) → slice_get shards k ≡ Some s → get_or (logs_of shards) k [] ≡ s.log
log_at [] k s e = absurd (cc)
log_at (t ∷ ts) zero s e = let q : t ≡ s = cc in ap (λ (u : ShardState Task). u.log) q
log_at (t ∷ ts) (suc k) s e = log_at ts k s e

pub logs_set : (shards : List (ShardState Task)) (k : ℕ) (s : ShardState Task) → logs_of (set shards k s) ≡ set (logs_of shards) k s.log
logs_set shards k s = map-set (λ (u : ShardState Task). u.log) shards k s

pub logs_same : (shards : List (ShardState Task)) (k : ℕ) (s s' : ShardState Task) → slice_get shards k ≡ Some s → s'.log ≡ s.log → logs_of (set shards k s') ≡ logs_of shards
logs_same [] k s s' e l = refl
logs_same (t ∷ ts) zero s s' e l = let q : t ≡ s = cc in ap (λ x. x ∷ logs_of ts) (l ∙ sym (ap (λ (u : ShardState Task). u.log) q))
logs_same (t ∷ ts) (suc k) s s' e l = ap (λ x. t.log ∷ x) (logs_same ts k s s' e l)

-- the waiting jobs of the other shards
abbrev pub others : List (ShardState Task) → ℕ → List Task
others [] k = []
others (s ∷ ss) zero = waiting_in ss
others (s ∷ ss) (suc k) = jobs_of s.waiting ++ others ss k

others_set : (shards : List (ShardState Task)) (k : ℕ) (s : ShardState Task) → others (set shards k s) k ≡ others shards k
others_set [] k s = refl
others_set (t ∷ ts) zero s = refl
others_set (t ∷ ts) (suc k) s = ap (λ xs. jobs_of t.waiting ++ xs) (others_set ts k s)

swapped : (xs ys zs : List Task) → IsPermutation (xs ++ (ys ++ zs)) (ys ++ (xs ++ zs))
swapped xs ys zs =
    subst (λ l. IsPermutation l (ys ++ (xs ++ zs))) (append_assoc xs ys zs)
    (subst (IsPermutation ((xs ++ ys) ++ zs)) (append_assoc ys xs zs) (IsPermutation-append_left zs (xs ++ ys) (ys ++ xs) (IsPermutation-append_comm xs ys)))

waiting_at : (shards : List (ShardState Task)) (k : ℕ) (s : ShardState Task) → slice_get shards k ≡ Some s → IsPermutation (waiting_in shards) (jobs_of s.waiting ++ others shards k)
waiting_at [] k s e = absurd (cc)
waiting_at (t ∷ ts) zero s e =
    let q : t ≡ s = cc in
    subst (λ (u : ShardState Task). IsPermutation (jobs_of t.waiting ++ waiting_in ts) (jobs_of u.waiting ++ waiting_in ts)) q (IsPermutation-refl (jobs_of t.waiting ++ waiting_in ts))
waiting_at (t ∷ ts) (suc k) s e =
    IsPermutation-trans (jobs_of t.waiting ++ waiting_in ts) (jobs_of t.waiting ++ (jobs_of s.waiting ++ others ts k)) (jobs_of s.waiting ++ (jobs_of t.waiting ++ others ts k))
    (IsPermutation-append_right (jobs_of t.waiting) (waiting_in ts) (jobs_of s.waiting ++ others ts k) (waiting_at ts k s e))
    (swapped (jobs_of t.waiting) (jobs_of s.waiting) (others ts k))

pub waiting_same : (shards : List (ShardState Task)) (k : ℕ) (s s' : ShardState Task) → slice_get shards k ≡ Some s → s'.waiting ≡ s.waiting → waiting_in (set shards k s') ≡ waiting_in shards
waiting_same [] k s s' e w = refl
waiting_same (t ∷ ts) zero s s' e w = let q : t ≡ s = cc in ap (λ ws. jobs_of ws ++ waiting_in ts) (w ∙ sym (ap (λ (u : ShardState Task). u.waiting) q))
waiting_same (t ∷ ts) (suc k) s s' e w = ap (λ xs. jobs_of t.waiting ++ xs) (waiting_same ts k s s' e w)

-- jobs that move between one shard's line and those that don't wait
pub jobs_moved : (shards : List (ShardState Task)) (k : ℕ) (s s' : ShardState Task) (jobs jobs' : List Task) → slice_get shards k ≡ Some s → IsPermutation (jobs ++ jobs_of s.waiting) (jobs' ++ jobs_of s'.waiting)
    → IsPermutation (jobs ++ waiting_in shards) (jobs' ++ waiting_in (set shards k s'))
jobs_moved shards k s s' jobs jobs' e p =
    let a : IsPermutation (jobs ++ waiting_in shards) (jobs ++ (jobs_of s.waiting ++ others shards k)) =
    IsPermutation-append_right jobs (waiting_in shards) (jobs_of s.waiting ++ others shards k) (waiting_at shards k s e) in
    let b : IsPermutation (jobs ++ (jobs_of s.waiting ++ others shards k)) (jobs' ++ (jobs_of s'.waiting ++ others shards k)) =
    subst (λ l. IsPermutation l (jobs' ++ (jobs_of s'.waiting ++ others shards k))) (append_assoc jobs (jobs_of s.waiting) (others shards k))
    (subst (IsPermutation ((jobs ++ jobs_of s.waiting) ++ others shards k)) (append_assoc jobs' (jobs_of s'.waiting) (others shards k))
    (IsPermutation-append_left (others shards k) (jobs ++ jobs_of s.waiting) (jobs' ++ jobs_of s'.waiting) p)) in
    let there : slice_get (set shards k s') k ≡ Some s' = get_set_same shards k s s' e in
    let c : IsPermutation (waiting_in (set shards k s')) (jobs_of s'.waiting ++ others shards k) =
    subst (λ l. IsPermutation (waiting_in (set shards k s')) (jobs_of s'.waiting ++ l)) (others_set shards k s') (waiting_at (set shards k s') k s' there) in
    IsPermutation-trans (jobs ++ waiting_in shards) (jobs ++ (jobs_of s.waiting ++ others shards k)) (jobs' ++ waiting_in (set shards k s')) a
    (IsPermutation-trans (jobs ++ (jobs_of s.waiting ++ others shards k)) (jobs' ++ (jobs_of s'.waiting ++ others shards k)) (jobs' ++ waiting_in (set shards k s')) b
    (IsPermutation-append_right jobs' (jobs_of s'.waiting ++ others shards k) (waiting_in (set shards k s')) (IsPermutation-sym (waiting_in (set shards k s')) (jobs_of s'.waiting ++ others shards k) c)))

pub waiting_count : (shards : List (ShardState Task)) (k : ℕ) (s s' : ShardState Task) → slice_get shards k ≡ Some s → length (waiting_in (set shards k s')) + length s.waiting ≡ length (waiting_in shards) + length s'.waiting
waiting_count [] k s s' e = absurd (cc)
waiting_count (t ∷ ts) zero s s' e =
    let q : t ≡ s = cc in let r : length t.waiting ≡ length s.waiting = ap (λ (u : ShardState Task). length u.waiting) q in
    let a = length-append (jobs_of s'.waiting) (waiting_in ts) in let b = length-append (jobs_of t.waiting) (waiting_in ts) in
    let c = length-map s'.waiting (λ (v : Task × Op). v.0) in let d = length-map t.waiting (λ (v : Task × Op). v.0) in
    omega (arith, a, b, c, d, r)
waiting_count (t ∷ ts) (suc k) s s' e =
    let a = length-append (jobs_of t.waiting) (waiting_in (set ts k s')) in let b = length-append (jobs_of t.waiting) (waiting_in ts) in
    let i = waiting_count ts k s s' e in omega (arith, a, b, i)

-- ---- stamps

abbrev pub room_of : ShardState Task → ℕ
room_of s = s.events - last_entry s.log

pub stamps_set : (shards : List (ShardState Task)) (k : ℕ) (s s' : ShardState Task) → slice_get shards k ≡ Some s → stamps_left (set shards k s') + room_of s ≡ stamps_left shards + room_of s'
stamps_set [] k s s' e = absurd (cc)
stamps_set (t ∷ ts) zero s s' e =
    let q : t ≡ s = cc in let r : room_of t ≡ room_of s = ap room_of q in
    sums (room_of s') (room_of s) (room_of t) (stamps_left ts) r
  where
    sums : (a b c d : ℕ) → c ≡ b → (a + d) + b ≡ (c + d) + a
    sums a b c d e = omega (arith, e)
stamps_set (t ∷ ts) (suc k) s s' e = sums (room_of t) (stamps_left (set ts k s')) (room_of s) (stamps_left ts) (room_of s') (stamps_set ts k s s' e)
  where
    sums : (a b c d f : ℕ) → b + c ≡ d + f → (a + b) + c ≡ (a + d) + f
    sums a b c d f e = omega (arith, e)
