-- What the places of a chain keep.
use Rattle.std.proofs.Common.{◌≡◌, ℕ, zero, suc, ◌+◌, ◌<◌, ◌≤◌, min, Bool, true, false, not, ◌&&◌, ◌||◌, List, [], ◌∷◌, ◌++◌, length, reverse, Option, Some, None, ◌⊎◌, inl, inr, refl, sym, ap, ◌∙◌, subst, cond, arith}
use Rattle.std.specs.Prelude.{slice_get}
use Rattle.std.proofs.lemmas.Bool.{cases_lt}
use Rattle.std.proofs.lemmas.List.{length-map, length-reverse, reverse-reverse, reverse-append, length_push}
use Rattle.std.proofs.lemmas.Option.{slice_get_within}
use Rattle.jt_outline.specs.declared.mark.ScopeKind.{ScopeKind}
use Rattle.jt_outline.specs.declared.mark.ScopeKind.TheVariants as kind
use Rattle.jt_syntax.specs.declared.script.Identifier.{Identifier}
use Rattle.jt_names.specs.Names.{Name, index}
use Rattle.jt_scopes.specs.declared.scope.Scope.{Scope}
use Rattle.jt_scopes.specs.Scopes.{loop_kind, function_kind, script_kind, task_kind, sync_kind, inner_kind, is_script, has}
use Rattle.jt_places.specs.declared.place.Place.{Place}
use Rattle.jt_places.specs.declared.standing.Standing.{Standing}
use Rattle.jt_scopes.specs.Awaited.{is_synced, is_awaited}
use Rattle.jt_places.specs.Kept.{scopes_in, names_in, KeepsScopes, AreKept, IsChain, slot_in, capture_in, begins_global}
use Rattle.jt_scopes.specs.Slots.{first, behind}
use Rattle.jt_places.specs.Standings.{begin_of, function_of, task_of, repeats, standing_of, within}
use Rattle.jt_scopes.specs.Tests.{outer, in_script, in_function}
use Rattle.jt_places.proofs.Outer.{outer_all, outer_further, outer_none, outer_min}

-- the scopes that stand round a kept one
abbrev pub rest : List Scope → List Scope
rest [] = []
rest (r ∷ c) = c

pub scope_kept : (p : Place) (c : List Scope) → KeepsScopes p c → c ≡ p.scope.now ∷ rest c
scope_kept p [] k = absurd k
scope_kept p (r ∷ c) k = ap (λ z. z ∷ c) (sym k.scope)

get_left : (ps : List Place) (p : Place) (k : ℕ) → k < length ps → slice_get (ps ++ p ∷ []) k ≡ slice_get ps k
get_left [] p k h = absurd (omega arith)
get_left (q ∷ ps) p zero h = refl
get_left (q ∷ ps) p (suc k) h = get_left ps p k (omega arith)

get_last : (ps : List Place) (p : Place) → slice_get (ps ++ p ∷ []) (length ps) ≡ Some p
get_last [] p = refl
get_last (q ∷ ps) p = get_last ps p

same_some : (p q : Place) → Some p ≡ Some q → p ≡ q
same_some p q e = cc

pub at_kept : (ps : List Place) (k : ℕ) (p : Place) → AreKept ps → slice_get (reverse ps) k ≡ Some p → KeepsScopes p (outer (suc k) (scopes_in ps))
at_kept [] k p h e = absurd (let within : k < 0 = slice_get_within [] k p e in omega arith)
at_kept (q ∷ ps) k p h e = by (cases_lt k (length ps)) (λ f. at_kept ps k p h.1 f)
  where
    turned : reverse (q ∷ ps) ≡ reverse ps ++ q ∷ []
    turned = reverse-append (q ∷ []) ps

    long : length (scopes_in ps) ≡ length ps
    long = length-map ps (λ p. p.scope.now)

    back : length (reverse ps) ≡ length ps
    back = length-reverse ps

    by : (k < length ps) ⊎ (length ps ≤ k) → (slice_get (reverse ps) k ≡ Some p → KeepsScopes p (outer (suc k) (scopes_in ps))) → KeepsScopes p (outer (suc k) (scopes_in (q ∷ ps)))
    by (inl l) g = subst (KeepsScopes p) (sym (outer_further (suc k) q.scope.now (scopes_in ps) (omega (arith, long, back))))
        (g (sym (ap (λ z. slice_get z k) turned ∙ get_left (reverse ps) q k (omega (arith, long, back))) ∙ e))
    by (inr l) g =
        let within : k < length (reverse ps ++ q ∷ []) = slice_get_within (reverse ps ++ q ∷ []) k p (sym (ap (λ z. slice_get z k) turned) ∙ e) in
        let last : k ≡ length (reverse ps) = omega (arith, length_push (reverse ps) q, back) in
        let same : q ≡ p = same_some q p (sym (get_last (reverse ps) q) ∙ (ap (slice_get (reverse ps ++ q ∷ [])) (sym last) ∙ (sym (ap (λ z. slice_get z k) turned) ∙ e))) in
        subst (KeepsScopes p) (sym (outer_all (suc k) (scopes_in (q ∷ ps)) (omega (arith, long, back)))) (subst (λ z. KeepsScopes z (scopes_in (q ∷ ps))) same h.0)

-- a place by its index among those that stand the other way round
pub at_index : (qs : List Place) (h : List (List Identifier)) (depth k : ℕ) (p : Place) → IsChain (reverse qs) h → min depth (length qs) ≡ k + 1 → slice_get qs k ≡ Some p → KeepsScopes p (outer depth (scopes_in (reverse qs)))
at_index qs h depth k p c m e =
    let long : length (scopes_in (reverse qs)) ≡ length qs = length-map (reverse qs) (λ p. p.scope.now) ∙ length-reverse qs in
    let deep : min depth (length (scopes_in (reverse qs))) ≡ suc k = ap (min depth) long ∙ (m ∙ omega arith) in
    subst (KeepsScopes p) (sym (ap (λ n. outer n (scopes_in (reverse qs))) deep) ∙ outer_min depth (scopes_in (reverse qs))) (at_kept (reverse qs) k p c.kept (ap (λ z. slice_get z k) (reverse-reverse qs) ∙ e))

pub length_places : (qs : List Place) → length (scopes_in (reverse qs)) ≡ length qs
length_places qs = length-map (reverse qs) (λ p. p.scope.now) ∙ length-reverse qs

pub names_of_chain : (qs : List Place) (h : List (List Identifier)) (c : List Scope) → IsChain (reverse qs) h → scopes_in (reverse qs) ≡ c → h ≡ names_in c
names_of_chain qs h c k e = k.names ∙ ap names_in e

pub all_standing : (qs : List Place) (c : List Scope) (n : ℕ) (s : Standing) → scopes_in (reverse qs) ≡ c → n ≡ length qs → s ≡ standing_of (outer n c) → s ≡ standing_of c
all_standing qs c n s e f g = let long : length c ≡ length qs = sym (ap length e) ∙ length_places qs in g ∙ ap standing_of (outer_all n c (omega arith))
