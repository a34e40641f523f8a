-- Tests of names by depths.
use Rattle.std.proofs.Common.{◌≡◌, ℕ, suc, ◌-◌, ◌<◌, ◌≤◌, nat_lt, nat_le, Bool, true, false, not, ◌&&◌, ◌||◌, List, [], ◌∷◌, length, Option, Some, None, option_map, SomeIff, refl, sym, ap, ◌∙◌, cond, arith, true≢false}
use Rattle.std.proofs.lemmas.Bool.Decides.{nat_tests}
use Rattle.std.proofs.Math.Bool.{or-false}
use Rattle.jt_outline.specs.declared.mark.ScopeKind.{ScopeKind}
use Rattle.jt_outline.specs.declared.mark.ScopeKind.TheVariants as kind
use Rattle.jt_syntax.specs.declared.script.Identifier.{Identifier}
use Rattle.jt_holders.specs.Holding.{innermost_within}
use Rattle.jt_names.specs.Names.{Name}
use Rattle.jt_scopes.specs.declared.scope.Scope.{Scope}
use Rattle.jt_scopes.specs.Scopes.{loop_kind, function_kind, script_kind, task_kind, sync_kind, inner_kind, is_function, is_task, has, known, text_has}
use Rattle.jt_places.specs.declared.standing.Standing.{Standing}
use Rattle.jt_places.specs.Kept.{names_in, assigns_once, begins_global, crossed}
use Rattle.jt_places.specs.Standings.{begin_of, function_of, task_of, holder_of, repeats, standing_of}
use Rattle.jt_scopes.specs.Tests.{outer, leaves_function, is_global, ambiguous, once_before, crosses, assigned_out, outside}
use Rattle.jt_places.proofs.Outer.{outer_all, outer_further, outer_none, outer_empty, outer_outer, length_outer_within, length_outer_least}
use Rattle.jt_places.proofs.Depths.{lt_true, lt_false, within_told, le_true, le_false, holder_below, begin_below, function_below, task_below}

-- ---- is_known

pub known_told : (c : List Scope) (x : Name) → known c x ≡ nat_lt 0 (holder_of c x)
known_told [] x = grind (arith, nat_tests)
known_told (r ∷ c) x = let e : known c x ≡ nat_lt 0 (holder_of c x) = known_told c x in grind (arith, nat_tests)

-- ---- leaves_function

pub leaves_told : (c : List Scope) (x : Name) → leaves_function c x ≡ (nat_lt 0 (holder_of c x) && nat_lt (holder_of c x) (function_of c))
leaves_told [] x = grind (arith, nat_tests)
leaves_told (r ∷ c) x =
    let below : function_of c ≤ length c = function_below c in
    let near : holder_of c x ≤ length c = holder_below c x in
    let k : known c x ≡ nat_lt 0 (holder_of c x) = known_told c x in
    let e : leaves_function c x ≡ (nat_lt 0 (holder_of c x) && nat_lt (holder_of c x) (function_of c)) = leaves_told c x in
    grind (arith, nat_tests)

-- ---- crosses

-- the innermost scope that has the name decides whether it is assigned once
pub once_told : (c : List Scope) (x : Name) (at : ℕ) (s : Scope) (w : List Scope) → outer (holder_of c x) c ≡ s ∷ w → once_before c x at ≡ assigns_once s x at
once_told [] x at s w e = let clash : [] ≡ s ∷ w = sym (outer_none []) ∙ e in absurd (cc)
once_told (r ∷ c) x at s w e =
    let near : holder_of c x ≤ length c = holder_below c x in
    let here : outer (suc (length c)) (r ∷ c) ≡ r ∷ c = outer_all (suc (length c)) (r ∷ c) (omega arith) in
    let further : outer (holder_of c x) (r ∷ c) ≡ outer (holder_of c x) c = outer_further (holder_of c x) r c near in
    let f : outer (holder_of c x) c ≡ s ∷ w → once_before c x at ≡ assigns_once s x at = once_told c x at s w in
    grind arith

pub once_none : (c : List Scope) (x : Name) (at : ℕ) → holder_of c x ≡ 0 → once_before c x at ≡ true
once_none [] x at e = refl
once_none (r ∷ c) x at e = let f : holder_of c x ≡ 0 → once_before c x at ≡ true = once_none c x at in grind (arith, nat_tests)

pub crosses_told : (c : List Scope) (x : Name) (s : Scope) (w : List Scope) → outer (holder_of c x) c ≡ s ∷ w → crosses c x ≡ crossed c (holder_of c x) s x
crosses_told [] x s w e = refl
crosses_told (r ∷ c) x s w e =
    let near : holder_of c x ≤ length c = holder_below c x in
    let further : outer (holder_of c x) (r ∷ c) ≡ outer (holder_of c x) c = outer_further (holder_of c x) r c near in
    let f : outer (holder_of c x) c ≡ s ∷ w → once_before c x r.at ≡ assigns_once s x r.at = once_told c x r.at s w in
    let g : outer (holder_of c x) c ≡ s ∷ w → crosses c x ≡ crossed c (holder_of c x) s x = crosses_told c x s w in
    grind (arith, nat_tests)

pub crosses_none : (c : List Scope) (x : Name) → holder_of c x ≡ 0 → crosses c x ≡ false
crosses_none [] x e = refl
crosses_none (r ∷ c) x e =
    let f : holder_of c x ≡ 0 → crosses c x ≡ false = crosses_none c x in
    let g : holder_of c x ≡ 0 → once_before c x r.at ≡ true = once_none c x r.at in
    grind (arith, nat_tests)

-- ---- the tasks' bodies that are left

pub crossed_none : (c : List Scope) (d : ℕ) (s : Scope) (x : Name) → task_of c ≤ d → crossed c d s x ≡ false
crossed_none [] d s x h = refl
crossed_none (r ∷ c) d s x h = let f : task_of c ≤ d → crossed c d s x ≡ false = crossed_none c d s x in grind (arith, nat_tests)

pub crossed_told : (c : List Scope) (d : ℕ) (s : Scope) (x : Name) (p : Scope) (w : List Scope) → d < task_of c → outer (task_of c) c ≡ p ∷ w
    → crossed c d s x ≡ (not (assigns_once s x p.at) || crossed (outer (task_of c - 1) c) d s x)
crossed_told [] d s x p w h e = absurd (omega arith)
crossed_told (r ∷ c) d s x p w h e =
    let near : task_of c ≤ length c = task_below c in
    let less : suc (length c) - 1 ≡ length c = omega arith in
    let here : outer (suc (length c)) (r ∷ c) ≡ r ∷ c = outer_all (suc (length c)) (r ∷ c) (omega arith) in
    let rest : outer (suc (length c) - 1) (r ∷ c) ≡ c = ap (λ n. outer n (r ∷ c)) less ∙ (outer_further (length c) r c (omega arith) ∙ outer_all (length c) c (omega arith)) in
    let further : outer (task_of c) (r ∷ c) ≡ outer (task_of c) c = outer_further (task_of c) r c near in
    let more : outer (task_of c - 1) (r ∷ c) ≡ outer (task_of c - 1) c = outer_further (task_of c - 1) r c (omega (arith, near)) in
    let f : d < task_of c → outer (task_of c) c ≡ p ∷ w → crossed c d s x ≡ (not (assigns_once s x p.at) || crossed (outer (task_of c - 1) c) d s x) = crossed_told c d s x p w in
    grind (arith, nat_tests)

-- ---- is_assigned_out

text_told : (c : List Scope) (x : Name) → text_has c x ≡ (nat_lt 0 (holder_of c x) && nat_le (function_of c) (holder_of c x))
text_told [] x = grind (arith, nat_tests)
text_told (r ∷ c) x =
    let below : function_of c ≤ length c = function_below c in
    let near : holder_of c x ≤ length c = holder_below c x in
    let e : text_has c x ≡ (nat_lt 0 (holder_of c x) && nat_le (function_of c) (holder_of c x)) = text_told c x in
    grind (arith, nat_tests)

-- a function's scope is no task's body
task_or_function : (k : ScopeKind) → task_kind k ≡ true → function_kind k ≡ false
task_or_function kind.Script e = refl
task_or_function kind.Function e = sym e
task_or_function kind.Loop e = refl
task_or_function kind.Task e = refl
task_or_function kind.Sync e = refl

assigned_text : (c : List Scope) (x : Name) → assigned_out c x ≡ true → text_has c x ≡ true
assigned_text [] x e = e
assigned_text (r ∷ c) x e =
    let k : is_task r ≡ true → is_function r ≡ false = task_or_function r.kind in
    let g : assigned_out c x ≡ true → text_has c x ≡ true = assigned_text c x in
    grind arith

pub assigned_told : (c : List Scope) (x : Name) → assigned_out c x ≡ (nat_lt 0 (holder_of (outer (task_of c - 1) c) x) && (nat_le (function_of c) (holder_of (outer (task_of c - 1) c) x) && nat_lt (function_of c) (task_of c)))
assigned_told [] x = grind (arith, nat_tests)
assigned_told (r ∷ c) x = by (is_task r) (is_function r) (task_or_function r.kind) (assigned_told c x)
  where
    below : function_of c ≤ length c
    below = function_below c

    near : task_of c ≤ length c
    near = task_below c

    none : (b t : Bool) → (b && (t && false)) ≡ false
    none b t = grind arith

    last : (b t : Bool) → (b && (t && true)) ≡ (b && t)
    last b t = grind arith

    either : (t a : Bool) → (a ≡ true → t ≡ true) → (t || a) ≡ t
    either t a g = grind arith

    by : (t f : Bool) → (t ≡ true → f ≡ false) → assigned_out c x ≡ (nat_lt 0 (holder_of (outer (task_of c - 1) c) x) && (nat_le (function_of c) (holder_of (outer (task_of c - 1) c) x) && nat_lt (function_of c) (task_of c)))
        → ((t && text_has c x) || (not f && assigned_out c x))
        ≡ (nat_lt 0 (holder_of (outer (cond t (suc (length c)) (task_of c) - 1) (r ∷ c)) x) && (nat_le (cond f (suc (length c)) (function_of c)) (holder_of (outer (cond t (suc (length c)) (task_of c) - 1) (r ∷ c)) x) && nat_lt (cond f (suc (length c)) (function_of c)) (cond t (suc (length c)) (task_of c))))
    by true true k e = absurd (true≢false (k refl))
    by true false k e =
        let less : suc (length c) - 1 ≡ length c = omega arith in
        let rest : outer (suc (length c) - 1) (r ∷ c) ≡ c = ap (λ n. outer n (r ∷ c)) less ∙ (outer_further (length c) r c (omega (arith, below, near)) ∙ outer_all (length c) c (omega (arith, below, near))) in
        either (text_has c x) (assigned_out c x) (assigned_text c x)
        ∙ (text_told c x ∙ (sym (last (nat_lt 0 (holder_of c x)) (nat_le (function_of c) (holder_of c x)))
        ∙ (ap (λ b. nat_lt 0 (holder_of c x) && (nat_le (function_of c) (holder_of c x) && b)) (sym (lt_true (function_of c) (suc (length c)) (omega (arith, below, near))))
        ∙ ap (λ e. nat_lt 0 (holder_of e x) && (nat_le (function_of c) (holder_of e x) && nat_lt (function_of c) (suc (length c)))) (sym rest))))
    by false true k e = sym (ap (λ b. nat_lt 0 (holder_of (outer (task_of c - 1) (r ∷ c)) x) && (nat_le (suc (length c)) (holder_of (outer (task_of c - 1) (r ∷ c)) x) && b)) (lt_false (suc (length c)) (task_of c) (omega (arith, below, near)))
        ∙ none (nat_lt 0 (holder_of (outer (task_of c - 1) (r ∷ c)) x)) (nat_le (suc (length c)) (holder_of (outer (task_of c - 1) (r ∷ c)) x)))
    by false false k e = e ∙ ap (λ z. nat_lt 0 (holder_of z x) && (nat_le (function_of c) (holder_of z x) && nat_lt (function_of c) (task_of c))) (sym (outer_further (task_of c - 1) r c (omega (arith, below, near))))

-- ---- is_ambiguous

-- scopes of inner kinds belong to the function, task's body or script where the innermost other one begins
begun_outer : (r : Scope) (c : List Scope) → outer (begin_of c) (r ∷ c) ≡ outer (begin_of c) c
begun_outer r c = outer_further (begin_of c) r c (begin_below c)

all_outer : (r : Scope) (c : List Scope) → outer (suc (length c)) (r ∷ c) ≡ r ∷ c
all_outer r c = outer_all (suc (length c)) (r ∷ c) (omega arith)

global_told : (c : List Scope) (x : Name) → is_global c x ≡ begins_global (outer (begin_of c) c) x
global_told [] x = ap (λ z. begins_global z x) (sym (outer_none []))
global_told (r ∷ c) x = by r.kind refl (global_told c x)
  where
    inner : (b : Bool) → begins_global (outer (begin_of c) c) x ≡ b → is_global c x ≡ b → is_global c x ≡ begins_global (outer (begin_of c) (r ∷ c)) x
    inner b e f = f ∙ (sym e ∙ ap (λ z. begins_global z x) (sym (begun_outer r c)))

    by : (k : ScopeKind) → r.kind ≡ k → is_global c x ≡ begins_global (outer (begin_of c) c) x
        → ((script_kind k && has r x) || (inner_kind k && is_global c x)) ≡ begins_global (outer (cond (inner_kind k) (begin_of c) (suc (length c))) (r ∷ c)) x
    by kind.Script e f = or-false (has r x) ∙ sym (ap (λ z. begins_global z x) (all_outer r c) ∙ ap (λ k. script_kind k && has r x) e)
    by kind.Function e f = sym (ap (λ z. begins_global z x) (all_outer r c) ∙ ap (λ k. script_kind k && has r x) e)
    by kind.Task e f = sym (ap (λ z. begins_global z x) (all_outer r c) ∙ ap (λ k. script_kind k && has r x) e)
    by kind.Loop e f = inner (begins_global (outer (begin_of c) c) x) refl f
    by kind.Sync e f = inner (begins_global (outer (begin_of c) c) x) refl f

pub ambiguous_told : (c : List Scope) (x : Name) → ambiguous c x ≡ (repeats c && begins_global (outer (begin_of c) c) x)
ambiguous_told [] x = refl
ambiguous_told (r ∷ c) x = by r.kind (global_told c x) (ambiguous_told c x)
  where
    same : begins_global (outer (begin_of c) c) x ≡ begins_global (outer (begin_of c) (r ∷ c)) x
    same = ap (λ z. begins_global z x) (sym (begun_outer r c))

    by : (k : ScopeKind) → is_global c x ≡ begins_global (outer (begin_of c) c) x → ambiguous c x ≡ (repeats c && begins_global (outer (begin_of c) c) x)
        → ((loop_kind k && is_global c x) || (sync_kind k && ambiguous c x)) ≡ ((loop_kind k || (sync_kind k && repeats c)) && begins_global (outer (cond (inner_kind k) (begin_of c) (suc (length c))) (r ∷ c)) x)
    by kind.Script g f = refl
    by kind.Function g f = refl
    by kind.Task g f = refl
    by kind.Loop g f = or-false (is_global c x) ∙ (g ∙ same)
    by kind.Sync g f = f ∙ ap (λ b. repeats c && b) same

-- ---- outside

pub outside_some : (c : List Scope) (d : ℕ) → task_of c ≡ begin_of c → task_of c ≡ suc d → outside c ≡ Some (outer d c)
outside_some [] d e f = absurd (omega arith)
outside_some (r ∷ c) d e f = by r.kind e f (λ g h. outside_some c d g h)
  where
    begun : begin_of c ≤ length c
    begun = begin_below c

    near : task_of c ≤ length c
    near = task_below c

    by : (k : ScopeKind) → cond (task_kind k) (suc (length c)) (task_of c) ≡ cond (inner_kind k) (begin_of c) (suc (length c)) → cond (task_kind k) (suc (length c)) (task_of c) ≡ suc d
        → (task_of c ≡ begin_of c → task_of c ≡ suc d → outside c ≡ Some (outer d c)) → cond (task_kind k) (Some c) (cond (inner_kind k) (outside c) None) ≡ Some (outer d (r ∷ c))
    by kind.Script e f g = absurd (omega (arith, begun, near))
    by kind.Function e f g = absurd (omega (arith, begun, near))
    by kind.Task e f g = let same : length c ≡ d = omega arith in
        ap Some (sym (ap (λ n. outer n (r ∷ c)) (sym same) ∙ (outer_further (length c) r c (omega (arith, begun, near)) ∙ outer_all (length c) c (omega (arith, begun, near)))))
    by kind.Loop e f g = g e f ∙ ap Some (sym (outer_further d r c (omega (arith, begun, near))))
    by kind.Sync e f g = g e f ∙ ap Some (sym (outer_further d r c (omega (arith, begun, near))))

pub outside_none : (c : List Scope) → (task_of c ≡ begin_of c → task_of c ≡ 0) → outside c ≡ None
outside_none [] e = refl
outside_none (r ∷ c) e = by r.kind e (λ f. outside_none c f)
  where
    by : (k : ScopeKind) → (cond (task_kind k) (suc (length c)) (task_of c) ≡ cond (inner_kind k) (begin_of c) (suc (length c)) → cond (task_kind k) (suc (length c)) (task_of c) ≡ 0)
        → ((task_of c ≡ begin_of c → task_of c ≡ 0) → outside c ≡ None) → cond (task_kind k) (Some c) (cond (inner_kind k) (outside c) None) ≡ None
    by kind.Script e f = refl
    by kind.Function e f = refl
    by kind.Task e f = absurd (let zero_is : suc (length c) ≡ 0 = e refl in omega arith)
    by kind.Loop e f = f e
    by kind.Sync e f = f e

-- ---- answers from what is kept

pub known_answer : (h : List (List Identifier)) (c : List Scope) (d n : ℕ) (x : Name) → h ≡ names_in c → n ≡ innermost_within d h x → nat_lt 0 n ≡ known (outer d c) x
known_answer h c d n x e f = ap (nat_lt 0) (f ∙ within_told d h c x e) ∙ sym (known_told (outer d c) x)

pub leaves_answer : (h : List (List Identifier)) (c : List Scope) (d n : ℕ) (x : Name) (s : Standing) (b : Bool) → h ≡ names_in c → n ≡ innermost_within d h x → s ≡ standing_of (outer d c) → b ≡ (nat_lt 0 n && nat_lt n s.function) → b ≡ leaves_function (outer d c) x
leaves_answer h c d n x s b e f g k = k ∙ (ap (λ z. nat_lt 0 n && nat_lt n z.function) g ∙ (ap (λ z. nat_lt 0 z && nat_lt z (function_of (outer d c))) (f ∙ within_told d h c x e) ∙ sym (leaves_told (outer d c) x)))

pub assigned_answer : (h : List (List Identifier)) (c : List Scope) (d n : ℕ) (x : Name) (s : Standing) (b : Bool) → h ≡ names_in c → s ≡ standing_of c → d ≡ s.task - 1 → n ≡ innermost_within d h x → b ≡ (nat_lt 0 n && (nat_le s.function n && nat_lt s.function s.task)) → b ≡ assigned_out c x
assigned_answer h c d n x s b e g k f m =
    m ∙ (ap (λ z. nat_lt 0 n && (nat_le z.function n && nat_lt z.function z.task)) g
    ∙ (ap (λ z. nat_lt 0 z && (nat_le (function_of c) z && nat_lt (function_of c) (task_of c))) (f ∙ (within_told d h c x e ∙ ap (λ z. holder_of (outer z c) x) (k ∙ ap (λ z. z.task - 1) g)))
    ∙ sym (assigned_told c x)))

pub ambiguous_answer : (c : List Scope) (x : Name) (s : Standing) (b r : Bool) → s ≡ standing_of c → b ≡ begins_global (outer s.begin c) x → r ≡ (s.repeats && b) → r ≡ ambiguous c x
ambiguous_answer c x s b r e f g = g ∙ (ap (λ z. s.repeats && z) f ∙ (ap (λ z. z.repeats && begins_global (outer z.begin c) x) e ∙ sym (ambiguous_told c x)))

-- a name that no scope has crosses nothing, and one that some scope has crosses what its task's bodies say
pub crosses_empty : (h : List (List Identifier)) (c : List Scope) (d n : ℕ) (x : Name) → h ≡ names_in c → n ≡ innermost_within d h x → outer n c ≡ [] → false ≡ crosses (outer d c) x
crosses_empty h c d n x e f g =
    let same : n ≡ holder_of (outer d c) x = f ∙ within_told d h c x e in
    let below : holder_of (outer d c) x ≤ length (outer d c) = holder_below (outer d c) x in
    let within : n ≤ length c = omega (arith, length_outer_least d c) in
    sym (crosses_none (outer d c) x (sym same ∙ outer_empty n c within g))

pub crosses_answer : (h : List (List Identifier)) (c w : List Scope) (d n : ℕ) (x : Name) (s : Scope) (b : Bool) → h ≡ names_in c → n ≡ innermost_within d h x → outer n c ≡ s ∷ w → b ≡ crossed (outer d c) n s x → b ≡ crosses (outer d c) x
crosses_answer h c w d n x s b e f g k =
    let same : n ≡ holder_of (outer d c) x = f ∙ within_told d h c x e in
    let below : holder_of (outer d c) x ≤ length (outer d c) = holder_below (outer d c) x in
    let there : outer (holder_of (outer d c) x) (outer d c) ≡ s ∷ w = ap (λ z. outer z (outer d c)) (sym same) ∙ (outer_outer n d c (omega (arith, length_outer_within d c)) ∙ g) in
    k ∙ (ap (λ z. crossed (outer d c) z s x) same ∙ sym (crosses_told (outer d c) x s w there))

pub crossed_end : (c : List Scope) (d n : ℕ) (x : Name) (s : Scope) (t : Standing) → t ≡ standing_of (outer d c) → t.task ≤ n → false ≡ crossed (outer d c) n s x
crossed_end c d n x s t e h = let same : t.task ≡ task_of (outer d c) = ap (λ z. z.task) e in sym (crossed_none (outer d c) n s x (omega arith))

pub crossed_step : (c w : List Scope) (d n : ℕ) (x : Name) (s p : Scope) (t : Standing) → t ≡ standing_of (outer d c) → n < t.task → outer t.task c ≡ p ∷ w → crossed (outer d c) n s x ≡ (not (assigns_once s x p.at) || crossed (outer (t.task - 1) c) n s x)
crossed_step c w d n x s p t e h g =
    let same : t.task ≡ task_of (outer d c) = ap (λ z. z.task) e in
    let below : task_of (outer d c) ≤ length (outer d c) = task_below (outer d c) in
    let within : t.task ≤ d = omega (arith, length_outer_within d c) in
    let there : outer (task_of (outer d c)) (outer d c) ≡ p ∷ w = ap (λ z. outer z (outer d c)) (sym same) ∙ (outer_outer t.task d c within ∙ g) in
    crossed_told (outer d c) n s x p w (omega arith) there
    ∙ ap (λ z. not (assigns_once s x p.at) || crossed z n s x) (ap (λ z. outer (z - 1) (outer d c)) (sym same) ∙ outer_outer (t.task - 1) d c (omega arith))

pub crossed_there : (c : List Scope) (d n : ℕ) (t : Standing) → t ≡ standing_of (outer d c) → n < t.task → outer t.task c ≡ [] → ⊥
crossed_there c d n t e h g =
    let same : t.task ≡ task_of (outer d c) = ap (λ z. z.task) e in
    let below : task_of (outer d c) ≤ length (outer d c) = task_below (outer d c) in
    let none : t.task ≡ 0 = outer_empty t.task c (omega (arith, length_outer_least d c)) g in
    omega arith

pub crossed_falls : (c : List Scope) (d n : ℕ) (t : Standing) → t ≡ standing_of (outer d c) → n < t.task → t.task - 1 < d
crossed_falls c d n t e h =
    let same : t.task ≡ task_of (outer d c) = ap (λ z. z.task) e in
    let below : task_of (outer d c) ≤ length (outer d c) = task_below (outer d c) in
    omega (arith, length_outer_within d c)

pub outside_then : (c : List Scope) (s : Standing) (o : Option ℕ) → s ≡ standing_of c → s.task ≡ s.begin → SomeIff o (1 ≤ s.task) (s.task - 1) → option_map (λ d. outer d c) o ≡ outside c
outside_then c s None e f h = let same : s.task ≡ task_of c = ap (λ z. z.task) e in let none : s.task ≡ 0 = omega (arith, h) in sym (outside_none c (λ g. sym same ∙ none))
outside_then c s (Some d) e f h =
    let same : s.task ≡ task_of c = ap (λ z. z.task) e in
    let low : 1 ≤ s.task = h.0 in
    let less : d ≡ s.task - 1 = h.1 in
    sym (outside_some c d (sym same ∙ (f ∙ ap (λ z. z.begin) e)) (omega arith))

pub outside_else : (c : List Scope) (s : Standing) → s ≡ standing_of c → (s.task ≡ s.begin → ⊥) → None ≡ outside c
outside_else c s e f = sym (outside_none c (λ g. absurd (f (ap (λ z. z.task) e ∙ (g ∙ sym (ap (λ z. z.begin) e))))))

pub crossed_here : (r o a b : Bool) → r ≡ o → r ≡ false → a ≡ (not o || b) → not r ≡ a
crossed_here r o a b e f g = ap not f ∙ (sym (ap (λ z. not z || b) (sym e ∙ f)) ∙ sym g)

pub crossed_beyond : (r o a b n : Bool) → r ≡ o → r ≡ true → a ≡ (not o || b) → n ≡ b → n ≡ a
crossed_beyond r o a b n e f g h = h ∙ (sym (ap (λ z. not z || b) (sym e ∙ f)) ∙ sym g)
