-- Slots by depths.
use Rattle.std.proofs.Common.{◌≡◌, ℕ, suc, ◌<◌, ◌≤◌, nat_lt, Bool, true, false, List, [], ◌∷◌, length, Option, Some, None, if◌then◌else◌, sym, ap, ◌∙◌, cond, arith}
use Rattle.jt_syntax.specs.declared.script.Identifier.{Identifier}
use Rattle.jt_holders.specs.Holding.{innermost}
use Rattle.jt_names.specs.Names.{Name, index}
use Rattle.jt_names.proofs.Lookup.{Indexed, indexed}
use Rattle.jt_scopes.specs.declared.scope.Scope.{Scope}
use Rattle.jt_scopes.specs.Scopes.{is_inner, has}
use Rattle.jt_places.specs.declared.standing.Standing.{Standing}
use Rattle.jt_places.specs.Kept.{names_in, slot_in, capture_in}
use Rattle.jt_scopes.specs.Slots.{first, behind, local, captured}
use Rattle.jt_places.specs.Standings.{begin_of, holder_of, standing_of}
use Rattle.jt_scopes.specs.Tests.{outer}
use Rattle.jt_places.proofs.Outer.{outer_all, outer_further, outer_none}
use Rattle.jt_places.proofs.Depths.{lt_true, lt_false, holder_told, holder_below, begin_below}

behind_some : (n i : ℕ) (o p q : Option ℕ) → o ≡ Some i → behind n o p ≡ behind n o q
behind_some n i o p q e = ap (λ z. behind n z p) e ∙ sym (ap (λ z. behind n z q) e)

pub local_told : (c : List Scope) (x : Name) → local c x ≡ (if nat_lt (holder_of c x) (begin_of c) then None else slot_in (outer (holder_of c x) c) x)
local_told [] x = sym (ap (λ b. cond b None (slot_in (outer 0 []) x)) (lt_false 0 0 (omega arith)) ∙ ap (λ z. slot_in z x) (outer_none []))
local_told (r ∷ c) x = by (has r x) (is_inner r) (indexed r.names x) (local_told c x)
  where
    near : holder_of c x ≤ length c
    near = holder_below c x

    begun : begin_of c ≤ length c
    begun = begin_below c

    here : (n : ℕ) (rest : Option ℕ) → n ≤ suc (length c) → Indexed true (index r.names x)
        → behind (first r c) (index r.names x) rest ≡ cond (nat_lt (suc (length c)) n) None (slot_in (outer (suc (length c)) (r ∷ c)) x)
    here n rest k h = behind_some (first r c) h.0 (index r.names x) rest None h.1
        ∙ sym (ap (λ t. cond t None (slot_in (outer (suc (length c)) (r ∷ c)) x)) (lt_false (suc (length c)) n k) ∙ ap (λ z. slot_in z x) (outer_all (suc (length c)) (r ∷ c) (omega (arith, near, begun))))

    by : (b t : Bool) → Indexed b (index r.names x) → local c x ≡ cond (nat_lt (holder_of c x) (begin_of c)) None (slot_in (outer (holder_of c x) c) x)
        → behind (first r c) (index r.names x) (cond t (local c x) None) ≡ cond (nat_lt (cond b (suc (length c)) (holder_of c x)) (cond t (begin_of c) (suc (length c)))) None (slot_in (outer (cond b (suc (length c)) (holder_of c x)) (r ∷ c)) x)
    by true true h e = here (begin_of c) (local c x) (omega (arith, near, begun)) h
    by true false h e = here (suc (length c)) None (omega (arith, near, begun)) h
    by false true h e = ap (λ z. behind (first r c) z (local c x)) h ∙ (e ∙ ap (λ z. cond (nat_lt (holder_of c x) (begin_of c)) None (slot_in z x)) (sym (outer_further (holder_of c x) r c near)))
    by false false h e = ap (λ z. behind (first r c) z None) h ∙ sym (ap (λ t. cond t None (slot_in (outer (holder_of c x) (r ∷ c)) x)) (lt_true (holder_of c x) (suc (length c)) (omega (arith, near, begun))))

pub captured_told : (c : List Scope) (x : Name) → captured c x ≡ capture_in (outer (begin_of c) c) x
captured_told [] x = ap (λ z. capture_in z x) (sym (outer_none []))
captured_told (r ∷ c) x =
    let here : outer (suc (length c)) (r ∷ c) ≡ r ∷ c = outer_all (suc (length c)) (r ∷ c) (omega arith) in
    let further : outer (begin_of c) (r ∷ c) ≡ outer (begin_of c) c = outer_further (begin_of c) r c (begin_below c) in
    let e : captured c x ≡ capture_in (outer (begin_of c) c) x = captured_told c x in
    grind arith

-- ---- answers from what is kept

pub local_outside : (h : List (List Identifier)) (c : List Scope) (n : ℕ) (x : Name) (s : Standing) → h ≡ names_in c → n ≡ innermost h x → s ≡ standing_of c → n < s.begin → None ≡ local c x
local_outside h c n x s e f g k =
    let here : s.begin ≡ begin_of c = ap (λ z. z.begin) g in
    let same : n ≡ holder_of c x = f ∙ holder_told h c x e in
    sym (local_told c x ∙ ap (λ b. cond b None (slot_in (outer (holder_of c x) c) x)) (lt_true (holder_of c x) (begin_of c) (omega arith)))

pub local_inside : (h : List (List Identifier)) (c : List Scope) (n : ℕ) (x : Name) (s : Standing) (o : Option ℕ) → h ≡ names_in c → n ≡ innermost h x → s ≡ standing_of c → s.begin ≤ n → o ≡ slot_in (outer n c) x → o ≡ local c x
local_inside h c n x s o e f g k m =
    let here : s.begin ≡ begin_of c = ap (λ z. z.begin) g in
    let same : n ≡ holder_of c x = f ∙ holder_told h c x e in
    m ∙ (ap (λ z. slot_in (outer z c) x) same ∙ sym (local_told c x ∙ ap (λ b. cond b None (slot_in (outer (holder_of c x) c) x)) (lt_false (holder_of c x) (begin_of c) (omega arith))))

pub captured_answer : (c : List Scope) (x : Name) (s : Standing) (o : Option ℕ) → s ≡ standing_of c → o ≡ capture_in (outer s.begin c) x → o ≡ captured c x
captured_answer c x s o e f = f ∙ (ap (λ z. capture_in (outer z.begin c) x) e ∙ sym (captured_told c x))
