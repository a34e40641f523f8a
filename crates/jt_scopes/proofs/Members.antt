-- Which names lists have, and lists that have each name once.
use Rattle.std.proofs.Common.{◌≡◌, ℕ, ◌+◌, Bool, true, false, ◌&&◌, ◌||◌, List, [], ◌∷◌, ◌++◌, refl, sym, ap, ◌∙◌, if◌then◌else◌, arith}
use Rattle.std.proofs.lemmas.Cmp.{nat_list_eq_equiv}
use Rattle.std.proofs.lemmas.Bool.{or_parts}
use Rattle.std.proofs.lemmas.List.{append-nil}
use Rattle.std.proofs.lemmas.List.Elements.{filter-append}
use Rattle.std.proofs.lemmas.List.Folds.{list_any-append}
use Rattle.std.proofs.Math.Bool.{or-false, or-true, or_assoc}
use Rattle.std.specs.Cmp.Lexicographic.{bytes_decides}
use Rattle.std.specs.List.{filter}
use Rattle.jt_syntax.specs.declared.script.Identifier.{Identifier}
use Rattle.jt_names.specs.Names.{Name, is_named, member, add, add_all, add_where}
use Rattle.jt_outline.specs.declared.mark.ScopeKind.TheVariants as kind
use Rattle.jt_outline.specs.Marks.{Marks, no_marks, mark, use_of, interpolation, assignment, call, print, macro, loop_jump, return_jump, scope, PartTree, constant, statement}
use Rattle.jt_scopes.specs.Bodies.{direct, direct_parts, occurrences}

-- ---- members

pub named_same : (n : Name) (i : Identifier) → is_named n i ≡ true → n ≡ i.name
named_same n i e = sym ((bytes_decides i.name n).0 e)

pub named_itself : (i : Identifier) → is_named i.name i ≡ true
named_itself i = nat_list_eq_equiv.refl i.name

pub member_add : (s : List Identifier) (i : Identifier) (n : Name) → member (add s i) n ≡ (member s n || is_named n i)
member_add s i n = step (member s i.name) (is_named n i) refl refl
  where
    step : (t u : Bool) → member s i.name ≡ t → is_named n i ≡ u → member (if t then s else s ++ i ∷ []) n ≡ (member s n || u)
    step true true p q = ap (member s) (named_same n i q) ∙ (p ∙ sym (or-true (member s n)))
    step true false p q = sym (or-false (member s n))
    step false u p q = list_any-append (is_named n) s (i ∷ []) ∙ ap (λ z. member s n || z) (or-false (is_named n i) ∙ q)

pub member_where : (p : Name → Bool) (s is : List Identifier) (n : Name) → member (add_where p s is) n ≡ (member s n || (member is n && p n))
member_where p s [] n = sym (or-false (member s n))
member_where p s (i ∷ is) n = member_where p (if p i.name then add s i else s) is n ∙ (ap (λ z. z || (member is n && p n)) (step (p i.name) (is_named n i) refl refl) ∙ spread (member s n) (is_named n i) (member is n) (p n))
  where
    step : (t u : Bool) → p i.name ≡ t → is_named n i ≡ u → member (if t then add s i else s) n ≡ (member s n || (is_named n i && p n))
    step true true e q = member_add s i n ∙ ap (λ z. member s n || z) (q ∙ sym (ap (λ z. z && p n) q ∙ (ap p (named_same n i q) ∙ e)))
    step true false e q = member_add s i n ∙ ap (λ z. member s n || z) (q ∙ sym (ap (λ z. z && p n) q))
    step false true e q = sym (ap (λ z. member s n || z) (ap (λ z. z && p n) q ∙ (ap p (named_same n i q) ∙ e)) ∙ or-false (member s n))
    step false false e q = sym (ap (λ z. member s n || z) (ap (λ z. z && p n) q) ∙ or-false (member s n))

    spread : (a u m q : Bool) → ((a || (u && q)) || (m && q)) ≡ (a || ((u || m) && q))
    spread a u m q = grind arith

pub member_all : (s is : List Identifier) (n : Name) → member (add_all s is) n ≡ (member s n || member is n)
member_all s [] n = sym (or-false (member s n))
member_all s (i ∷ is) n = member_all (add s i) is n ∙ (ap (λ z. z || member is n) (member_add s i n) ∙ or_assoc (member s n) (is_named n i) (member is n))

-- a name that is not among them has none of them
pub none_occurs : (is : List Identifier) (n : Name) → member is n ≡ false → occurrences n is ≡ 0
none_occurs [] n e = refl
none_occurs (i ∷ is) n e = ap (λ t. (if t then 1 else 0) + occurrences n is) (or_parts (is_named n i) (member is n) e).0 ∙ (no_more (occurrences n is) ∙ none_occurs is n (or_parts (is_named n i) (member is n) e).1)
  where
    no_more : (k : ℕ) → 0 + k ≡ k
    no_more k = omega arith

-- ---- lists of names, each once

where_append : (p : Name → Bool) (s is js : List Identifier) → add_where p s (is ++ js) ≡ add_where p (add_where p s is) js
where_append p s [] js = refl
where_append p s (i ∷ is) js = where_append p (if p i.name then add s i else s) is js

not_kept : (p : Identifier → Bool) (s : List Identifier) (n : Name) → member s n ≡ false → member (filter p s) n ≡ false
not_kept p [] n e = refl
not_kept p (j ∷ s) n e = step (p j) (or_parts (is_named n j) (member s n) e).0 (not_kept p s n (or_parts (is_named n j) (member s n) e).1)
  where
    step : (t : Bool) → is_named n j ≡ false → member (filter p s) n ≡ false → member (if t then j ∷ filter p s else filter p s) n ≡ false
    step true q r = ap (λ z. z || member (filter p s) n) q ∙ r
    step false q r = r

-- the list has each name once: to add those that pass is to keep them
abbrev pub Once : List Identifier → Type 0
Once s = (p : Name → Bool) → add_where p [] s ≡ filter (λ i. p i.name) s

pub once_none : Once []
once_none p = refl

pub once_add : (s : List Identifier) (i : Identifier) → Once s → Once (add s i)
once_add s i h p = step (member s i.name) refl
  where
    more : (u : Bool) → member s i.name ≡ false → (if u then add (add_where p [] s) i else add_where p [] s) ≡ filter (λ j. p j.name) s ++ (if u then i ∷ [] else [])
    more true m = ap (λ z. add z i) (h p) ∙ ap (λ t. if t then filter (λ j. p j.name) s else filter (λ j. p j.name) s ++ i ∷ []) (not_kept (λ j. p j.name) s i.name m)
    more false m = h p ∙ sym (append-nil (filter (λ j. p j.name) s))

    step : (t : Bool) → member s i.name ≡ t → add_where p [] (if t then s else s ++ i ∷ []) ≡ filter (λ j. p j.name) (if t then s else s ++ i ∷ [])
    step true m = h p
    step false m = where_append p [] s (i ∷ []) ∙ (more (p i.name) m ∙ sym (filter-append (λ j. p j.name) s (i ∷ [])))

pub once_all : (s is : List Identifier) → Once s → Once (add_all s is)
once_all s [] h = h
once_all s (i ∷ is) h = once_all (add s i) is (once_add s i h)

pub once_where : (q : Name → Bool) (s is : List Identifier) → Once s → Once (add_where q s is)
once_where q s [] h = h
once_where q s (i ∷ is) h = once_where q (if q i.name then add s i else s) is (step (q i.name))
  where
    step : (t : Bool) → Once (if t then add s i else s)
    step true = once_add s i h
    step false = h

pub once_direct : (s : List Identifier) (ms : Marks) → Once s → Once (direct s ms)
once_direct s no_marks h = h
once_direct s (mark (use_of i) ms) h = once_direct s ms h
once_direct s (mark (interpolation at i) ms) h = once_direct s ms h
once_direct s (mark (assignment i) ms) h = once_direct (add s i) ms (once_add s i h)
once_direct s (mark (call i n) ms) h = once_direct s ms h
once_direct s (mark print ms) h = once_direct s ms h
once_direct s (mark macro ms) h = once_direct s ms h
once_direct s (mark (loop_jump at) ms) h = once_direct s ms h
once_direct s (mark (return_jump at) ms) h = once_direct s ms h
once_direct s (mark (scope kind.Sync at is body) ms) h = once_direct (direct s body) ms (once_direct s body h)
once_direct s (mark (scope kind.Loop at is body) ms) h = once_direct s ms h
once_direct s (mark (scope kind.Task at is body) ms) h = once_direct s ms h
once_direct s (mark (scope kind.Function at is body) ms) h = once_direct s ms h
once_direct s (mark (scope kind.Script at is body) ms) h = once_direct s ms h

pub once_parts : (s : List Identifier) (ps : List PartTree) → Once s → Once (direct_parts s ps)
once_parts s [] h = h
once_parts s (constant at i ms ∷ ps) h = once_parts (direct s ms) ps (once_direct s ms h)
once_parts s (statement ms ∷ ps) h = once_parts (direct s ms) ps (once_direct s ms h)

-- two tests that agree at the members
pub filter_same : (p q : Identifier → Bool) (is : List Identifier) → ((i : Identifier) → member is i.name ≡ true → p i ≡ q i) → filter p is ≡ filter q is
filter_same p q [] h = refl
filter_same p q (j ∷ is) h = step (p j) (q j) (h j (ap (λ z. z || member is j.name) (named_itself j))) (filter_same p q is (λ i m. h i (ap (λ z. is_named i.name j || z) m ∙ or-true (is_named i.name j))))
  where
    step : (t u : Bool) → t ≡ u → filter p is ≡ filter q is → (if t then j ∷ filter p is else filter p is) ≡ (if u then j ∷ filter q is else filter q is)
    step true true e r = ap (λ z. j ∷ z) r
    step false false e r = r
    step true false e r = absurd (cc)
    step false true e r = absurd (cc)
