-- The depths that are kept.
use Rattle.std.proofs.Common.{◌≡◌, ℕ, suc, ◌<◌, ◌≤◌, nat_lt, nat_le, Bool, true, false, List, [], ◌∷◌, length, ◌⊎◌, inl, inr, refl, sym, ap, ◌∙◌, cond, arith}
use Rattle.std.proofs.lemmas.List.{length-map}
use Rattle.std.proofs.lemmas.Bool.{cases_lt}
use Rattle.std.proofs.lemmas.Bool.Decides.{nat_tests}
use Rattle.jt_syntax.specs.declared.script.Identifier.{Identifier}
use Rattle.jt_names.specs.Names.{Name, member}
use Rattle.jt_holders.specs.Holding.{depths, first_of, first_within, innermost, innermost_within}
use Rattle.jt_scopes.specs.declared.scope.Scope.{Scope}
use Rattle.jt_scopes.specs.Scopes.{is_function, is_task, is_inner, has}
use Rattle.jt_places.specs.Kept.{names_in}
use Rattle.jt_places.specs.Standings.{begin_of, function_of, task_of, holder_of}
use Rattle.jt_scopes.specs.Tests.{outer}
use Rattle.jt_places.proofs.Outer.{outer_all, outer_further}

pub lt_true : (m n : ℕ) → m < n → nat_lt m n ≡ true
lt_true m n h = grind (arith, nat_tests)

pub lt_false : (m n : ℕ) → n ≤ m → nat_lt m n ≡ false
lt_false m n h = grind (arith, nat_tests)

pub le_true : (m n : ℕ) → m ≤ n → nat_le m n ≡ true
le_true m n h = grind (arith, nat_tests)

pub le_false : (m n : ℕ) → n < m → nat_le m n ≡ false
le_false m n h = grind (arith, nat_tests)

pub holder_below : (c : List Scope) (x : Name) → holder_of c x ≤ length c
holder_below [] x = omega arith
holder_below (r ∷ c) x = let k : holder_of c x ≤ length c = holder_below c x in grind arith

pub begin_below : (c : List Scope) → begin_of c ≤ length c
begin_below [] = omega arith
begin_below (r ∷ c) = let k : begin_of c ≤ length c = begin_below c in grind arith

pub function_below : (c : List Scope) → function_of c ≤ length c
function_below [] = omega arith
function_below (r ∷ c) = let k : function_of c ≤ length c = function_below c in grind arith

pub task_below : (c : List Scope) → task_of c ≤ length c
task_below [] = omega arith
task_below (r ∷ c) = let k : task_of c ≤ length c = task_below c in grind arith

-- ---- holders

first_holder : (c : List Scope) (x : Name) → innermost (names_in c) x ≡ holder_of c x
first_holder [] x = refl
first_holder (r ∷ c) x = by (member r.names x) (first_holder c x)
  where
    by : (b : Bool) → innermost (names_in c) x ≡ holder_of c x → first_of (cond b (suc (length (names_in c)) ∷ depths (names_in c) x) (depths (names_in c) x)) ≡ cond b (suc (length c)) (holder_of c x)
    by true e = ap suc (length-map c (λ r. r.names))
    by false e = e

-- the innermost list of names that has the name is that of the innermost scope that has it
pub holder_told : (h : List (List Identifier)) (c : List Scope) (x : Name) → h ≡ names_in c → innermost h x ≡ holder_of c x
holder_told h c x e = ap (λ z. innermost z x) e ∙ first_holder c x

within_holder : (n : ℕ) (c : List Scope) (x : Name) → innermost_within n (names_in c) x ≡ holder_of (outer n c) x
within_holder n [] x = ap (λ z. holder_of z x) (sym (outer_all n [] (omega arith)))
within_holder n (r ∷ c) x = by (cases_lt (length c) n) (within_holder n c x)
  where
    deeper : length (names_in c) ≡ length c
    deeper = length-map c (λ r. r.names)

    all : (b : Bool) → length c < n → innermost_within n (names_in c) x ≡ holder_of c x
        → first_within n (cond b (suc (length (names_in c)) ∷ depths (names_in c) x) (depths (names_in c) x)) ≡ cond b (suc (length c)) (holder_of c x)
    all true k e = ap (λ t. cond t (suc (length (names_in c))) (innermost_within n (names_in c) x)) (le_true (suc (length (names_in c))) n (omega (arith, deeper))) ∙ ap suc deeper
    all false k e = e

    fewer : (b : Bool) → n ≤ length c → first_within n (cond b (suc (length (names_in c)) ∷ depths (names_in c) x) (depths (names_in c) x)) ≡ innermost_within n (names_in c) x
    fewer true k = ap (λ t. cond t (suc (length (names_in c))) (innermost_within n (names_in c) x)) (le_false (suc (length (names_in c))) n (omega (arith, deeper)))
    fewer false k = refl

    by : (length c < n) ⊎ (n ≤ length c) → innermost_within n (names_in c) x ≡ holder_of (outer n c) x → innermost_within n (names_in (r ∷ c)) x ≡ holder_of (outer n (r ∷ c)) x
    by (inl k) g = all (member r.names x) k (g ∙ ap (λ z. holder_of z x) (outer_all n c (omega arith))) ∙ ap (λ z. holder_of z x) (sym (outer_all n (r ∷ c) (omega arith)))
    by (inr k) g = fewer (member r.names x) k ∙ (g ∙ ap (λ z. holder_of z x) (sym (outer_further n r c k)))

pub within_told : (n : ℕ) (h : List (List Identifier)) (c : List Scope) (x : Name) → h ≡ names_in c → innermost_within n h x ≡ holder_of (outer n c) x
within_told n h c x e = ap (λ z. innermost_within n z x) e ∙ within_holder n c x
