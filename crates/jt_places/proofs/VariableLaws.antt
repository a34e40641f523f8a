-- Each variable at a place has a slot of its own below the room, and a name's slot is that of the variable
-- that the name means.
use Rattle.std.proofs.Common.{◌≡◌, ℕ, zero, suc, ◌<◌, ◌≤◌, Bool, true, false, List, [], ◌∷◌, length, Option, Some, None, option_map, refl, sym, ap, ◌∙◌, arith}
use Rattle.std.specs.Prelude.{if◌then◌else◌}
use Rattle.jt_names.specs.Names.{Name, index}
use Rattle.jt_names.proofs.Lookup.{index_below}
use Rattle.jt_scopes.specs.declared.scope.Scope.{Scope}
use Rattle.jt_scopes.specs.Scopes.{is_inner}
use Rattle.jt_scopes.specs.Slots as slots
use Rattle.jt_scopes.specs.Slots.{room, first, behind}
use Rattle.jt_places.specs.Variables.{Variable, local, captured, captures_at, HasVariable, IsThere, place, further, either, local_of, captured_of, means}

inner_first : (b : Bool) (k n : ℕ) → b ≡ true → (if b then k else n) ≡ k
inner_first true k n e = refl
inner_first false k n e = absurd (cc)

captures_by : (b : Bool) (c : List Scope) (r : Scope) → length (captures_at c) ≤ room c → length (if b then captures_at c else r.captures) ≤ (if b then room c else length r.captures)
captures_by true c r h = h
captures_by false c r h = omega arith

-- what was captured stands below the variables of all scopes
captures_below : (c : List Scope) → length (captures_at c) ≤ room c
captures_below [] = omega arith
captures_below (r ∷ c) = let k : length (captures_at (r ∷ c)) ≤ first r c = captures_by (is_inner r) c r (captures_below c) in omega arith

captures_first : (r : Scope) (c : List Scope) → length (captures_at (r ∷ c)) ≤ first r c
captures_first r c = captures_by (is_inner r) c r (captures_below c)

local_below : (c : List Scope) (b i : ℕ) → HasVariable c (local b i) → place c (local b i) < room c
local_below [] b i h = absurd h
local_below (r ∷ c) zero i h = let k : i < length r.names = h in omega arith
local_below (r ∷ c) (suc b) i h =
    let e : first r c ≡ room c = inner_first (is_inner r) (room c) (length r.captures) h.0 in
    let k : place c (local b i) < room c = local_below c b i h.1 in omega arith

-- a variable of a scope further out stands below those of a scope
outer_first : (r : Scope) (c : List Scope) (b i : ℕ) → HasVariable (r ∷ c) (local (suc b) i) → place c (local b i) < first r c
outer_first r c b i h =
    let e : first r c ≡ room c = inner_first (is_inner r) (room c) (length r.captures) h.0 in
    let k : place c (local b i) < room c = local_below c b i h.1 in omega arith

pub place_below : (c : List Scope) (v : Variable) → HasVariable c v → place c v < room c
place_below c (local b i) h = local_below c b i h
place_below c (captured i) h = let k : i < length (captures_at c) = h in omega (arith, captures_below c)

captures_inner : (b : Bool) (c : List Scope) (r : Scope) → b ≡ true → length (if b then captures_at c else r.captures) ≡ length (captures_at c)
captures_inner true c r e = refl
captures_inner false c r e = absurd (cc)

captured_apart : (c : List Scope) (b i j : ℕ) → i < length (captures_at c) → HasVariable c (local b j) → i ≡ place c (local b j) → ⊥
captured_apart [] b i j h k e = k
captured_apart (r ∷ c) zero i j h k e = let p : length (captures_at (r ∷ c)) ≤ first r c = captures_first r c in omega arith
captured_apart (r ∷ c) (suc b) i j h k e = let p : length (captures_at (r ∷ c)) ≡ length (captures_at c) = captures_inner (is_inner r) c r k.0 in captured_apart c b i j (omega arith) k.1 e

local_apart : (c : List Scope) (a b i j : ℕ) → HasVariable c (local a i) → HasVariable c (local b j) → place c (local a i) ≡ place c (local b j) → local a i ≡ local b j
local_apart [] a b i j h k p = absurd h
local_apart (r ∷ c) zero zero i j h k p = let q : i ≡ j = omega arith in ap (local 0) q
local_apart (r ∷ c) zero (suc b) i j h k p = let q : place c (local b j) < first r c = outer_first r c b j k in absurd (omega arith)
local_apart (r ∷ c) (suc a) zero i j h k p = let q : place c (local a i) < first r c = outer_first r c a i h in absurd (omega arith)
local_apart (r ∷ c) (suc a) (suc b) i j h k p = ap further (local_apart c a b i j h.1 k.1 p)

-- two variables at one place have two slots, also where one hides the other
pub place_apart : (c : List Scope) (v w : Variable) → HasVariable c v → HasVariable c w → place c v ≡ place c w → v ≡ w
place_apart c (local a i) (local b j) h k p = local_apart c a b i j h k p
place_apart c (local a i) (captured j) h k p = absurd (captured_apart c a j i k h (sym p))
place_apart c (captured i) (local b j) h k p = absurd (captured_apart c b i j h k p)
place_apart c (captured i) (captured j) h k p = ap captured p

-- ---- what a name means

-- what a name means is there, and its slot is the one that stands for the name
abbrev pub Meant : List Scope → Option ℕ → Option Variable → Type 0
Meant c n o = IsThere c o × (n ≡ option_map (place c) o)

further_has : (r : Scope) (c : List Scope) (v : Variable) → is_inner r ≡ true → HasVariable c v → HasVariable (r ∷ c) (further v)
further_has r c (local b i) e h = (e, h)
further_has r c (captured i) e h = let k : length (captures_at (r ∷ c)) ≡ length (captures_at c) = captures_inner (is_inner r) c r e in let l : i < length (captures_at c) = h in omega arith

-- one scope further in the slot is the same
further_place : (r : Scope) (c : List Scope) (v : Variable) → place (r ∷ c) (further v) ≡ place c v
further_place r c (local b i) = refl
further_place r c (captured i) = refl

further_meant : (r : Scope) (c : List Scope) (n : Option ℕ) (o : Option Variable) → is_inner r ≡ true → Meant c n o → Meant (r ∷ c) n (option_map further o)
further_meant r c n None e h = h
further_meant r c n (Some v) e h = (further_has r c v e h.0, h.1 ∙ ap Some (sym (further_place r c v)))

pub local_meant : (c : List Scope) (x : Name) → Meant c (slots.local c x) (local_of c x)
local_meant [] x = (tt, refl)
local_meant (r ∷ c) x = here (index r.names x) refl _ _ (outward (is_inner r) refl (local_meant c x))
  where
    outward : (b : Bool) → is_inner r ≡ b → Meant c (slots.local c x) (local_of c x) → Meant (r ∷ c) (if b then slots.local c x else None) (if b then option_map further (local_of c x) else None)
    outward true e h = further_meant r c (slots.local c x) (local_of c x) e h
    outward false e h = (tt, refl)

    here : (o : Option ℕ) → index r.names x ≡ o → (n : Option ℕ) (v : Option Variable) → Meant (r ∷ c) n v → Meant (r ∷ c) (behind (first r c) o n) (either (option_map (local 0) o) v)
    here None e n v h = h
    here (Some i) e n v h = (index_below r.names x i e, refl)

captured_slot : (c : List Scope) (x : Name) → slots.captured c x ≡ index (captures_at c) x
captured_slot [] x = refl
captured_slot (r ∷ c) x = let e : slots.captured c x ≡ index (captures_at c) x = captured_slot c x in grind arith

pub captured_meant : (c : List Scope) (x : Name) → Meant c (slots.captured c x) (captured_of c x)
captured_meant c x = by (index (captures_at c) x) refl
  where
    by : (o : Option ℕ) → index (captures_at c) x ≡ o → Meant c (slots.captured c x) (option_map captured o)
    by None e = (tt, captured_slot c x ∙ e)
    by (Some i) e = (index_below (captures_at c) x i e, captured_slot c x ∙ e)

either_meant : (c : List Scope) (n m : Option ℕ) (o p : Option Variable) → Meant c n o → Meant c m p → Meant c (either n m) (either o p)
either_meant c n m None p h k = (k.0, ap (λ z. either z m) h.1 ∙ k.1)
either_meant c n m (Some v) p h k = (h.0, ap (λ z. either z m) h.1)

pub means_meant : (c : List Scope) (x : Name) → Meant c (either (slots.local c x) (slots.captured c x)) (means c x)
means_meant c x = either_meant c (slots.local c x) (slots.captured c x) (local_of c x) (captured_of c x) (local_meant c x) (captured_meant c x)
