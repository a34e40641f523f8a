-- The outermost scopes of a chain.
use Rattle.std.proofs.Common.{◌≡◌, ℕ, suc, ◌-◌, ◌<◌, ◌≤◌, min, List, [], ◌∷◌, length, drop, ◌⊎◌, inl, inr, refl, sym, ap, ◌∙◌, arith, length-drop}
use Rattle.std.proofs.lemmas.Bool.{cases_lt}
use Rattle.jt_scopes.specs.declared.scope.Scope.{Scope}
use Rattle.jt_scopes.specs.Tests.{outer}

pub outer_all : (d : ℕ) (c : List Scope) → length c ≤ d → outer d c ≡ c
outer_all d c h = let e : length c - d ≡ 0 = omega arith in ap (λ n. drop n c) e

pub outer_further : (d : ℕ) (r : Scope) (c : List Scope) → d ≤ length c → outer d (r ∷ c) ≡ outer d c
outer_further d r c h = let e : suc (length c) - d ≡ suc (length c - d) = omega arith in ap (λ n. drop n (r ∷ c)) e

pub outer_none : (c : List Scope) → outer 0 c ≡ []
outer_none [] = refl
outer_none (r ∷ c) = outer_further 0 r c (omega arith) ∙ outer_none c

pub length_outer : (d : ℕ) (c : List Scope) → d ≤ length c → length (outer d c) ≡ d
length_outer d c h = length-drop (length c - d) c ∙ omega arith

pub length_outer_within : (d : ℕ) (c : List Scope) → length (outer d c) ≤ d
length_outer_within d c = omega (arith, length-drop (length c - d) c)

pub length_outer_least : (d : ℕ) (c : List Scope) → length (outer d c) ≤ length c
length_outer_least d c = omega (arith, length-drop (length c - d) c)

-- no scopes are those up to the depth 0, or there are none at all
pub outer_empty : (d : ℕ) (c : List Scope) → d ≤ length c → outer d c ≡ [] → d ≡ 0
outer_empty d c h e = sym (length_outer d c h) ∙ ap length e

pub outer_outer : (e d : ℕ) (c : List Scope) → e ≤ d → outer e (outer d c) ≡ outer e c
outer_outer e d [] h = ap (outer e) (outer_all d [] (omega arith))
outer_outer e d (r ∷ c) h = by (cases_lt (length c) d) (outer_outer e d c h)
  where
    by : (length c < d) ⊎ (d ≤ length c) → outer e (outer d c) ≡ outer e c → outer e (outer d (r ∷ c)) ≡ outer e (r ∷ c)
    by (inl k) g = ap (outer e) (outer_all d (r ∷ c) (omega arith))
    by (inr k) g = ap (outer e) (outer_further d r c k) ∙ (g ∙ sym (outer_further e r c (omega arith)))

-- more scopes than there are are all
pub outer_min : (d : ℕ) (c : List Scope) → outer (min d (length c)) c ≡ outer d c
outer_min d c = by (cases_lt (length c) d)
  where
    by : (length c < d) ⊎ (d ≤ length c) → outer (min d (length c)) c ≡ outer d c
    by (inl k) = let e : min d (length c) ≡ length c = omega arith in ap (λ n. outer n c) e ∙ (outer_all (length c) c (omega arith) ∙ sym (outer_all d c (omega arith)))
    by (inr k) = let e : min d (length c) ≡ d = omega arith in ap (λ n. outer n c) e
