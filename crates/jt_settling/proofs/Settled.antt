-- The pass finds the scopes that begin in marks, what the body takes there, and how often its names are
-- assigned there.
use Rattle.std.proofs.Common.{◌≡◌, ℕ, ◌+◌, nat_lt, Bool, true, false, not, ◌&&◌, ◌||◌, List, [], ◌∷◌, ◌++◌, length, map, refl, sym, ap, ◌∙◌, if◌then◌else◌, append_assoc, arith}
use Rattle.std.proofs.Math.Path.{fun_ext}
use Rattle.std.proofs.Math.Seq.{set-append_seam}
use Rattle.std.proofs.lemmas.Bool.{or_left}
use Rattle.std.proofs.lemmas.Bool.Decides.{nat_tests}
use Rattle.std.proofs.lemmas.List.{append-nil}
use Rattle.std.specs.List.{filter}
use Rattle.std.specs.Prelude.{slice_set}
use Rattle.jt_syntax.specs.declared.script.Identifier.{Identifier}
use Rattle.jt_names.specs.Names.{Name, is_named, member, add, add_all, add_where, hidden}
use Rattle.jt_outline.specs.declared.mark.ScopeKind.{ScopeKind}
use Rattle.jt_outline.specs.declared.mark.ScopeKind.TheVariants as kind
use Rattle.jt_outline.specs.Marks.{Marks, no_marks, mark, use_of, interpolation, assignment, call, print, macro, loop_jump, return_jump, scope, FunctionTree, PartTree, constant, statement, OutlineTree}
use Rattle.jt_scopes.specs.declared.scope.Scope.{Scope}
use Rattle.jt_settling.specs.declared.settling.Settling.{Settling}
use Rattle.jt_scopes.specs.Bodies.{direct, occurrences, times, times_parts, used, used_name, passed_on, taken}
use Rattle.jt_settling.specs.Counting.{number, capped, counted, cleared, restored, is_again}
use Rattle.jt_settling.specs.Parts.{part_marks}
use Rattle.jt_scopes.specs.Scopes.{is_inner, had, names_of, captures_of, scope_of, script_scope, function_scope, begun, begun_functions, begun_parts, scopes_of}
use Rattle.jt_settling.specs.Settling as pass
use Rattle.jt_scopes.proofs.Members.{named_same, member_where, member_all, none_occurs, Once, once_none, once_all, once_where, once_direct, once_parts, filter_same}
use Rattle.jt_settling.proofs.Within.{lists, body_of, text_of, had_within, text_within}
use Rattle.jt_settling.proofs.Numbers.{number_with, cleared_at, restored_at}

abbrev Numbers : Type 0
Numbers = List (Name × ℕ)

-- where the pass stands in the scopes c: how often each name was assigned, what the body takes, and the
-- scopes that began
abbrev pub state : Settling → List Scope → Numbers → List Identifier → List Scope → Settling
state s c k u f = record s { holders = lists c; counts = k; taken = u; scopes = f }

-- the numbers are these, up to 255
abbrev pub Are : Numbers → (Name → ℕ) → Type 0
Are k m = (x : Name) → number k x ≡ capped (m x)

-- the pass stands there, with some numbers that are these
pub record Reached (w s : Settling) (c : List Scope) (m : Name → ℕ) (u : List Identifier) (f : List Scope) : Type 0 where
  pub numbers : Numbers
  pub there : w ≡ state s c numbers u f
  pub are : Are numbers m

here : (s : Settling) (c : List Scope) (k : Numbers) (m : Name → ℕ) (u : List Identifier) (f : List Scope) → Are k m → Reached (state s c k u f) s c m u f
here s c k m u f a = record { numbers = k; there = refl; are = a }

-- the same state, and the same numbers and scopes
arrived : {w v s : Settling} {c : List Scope} {m : Name → ℕ} {u : List Identifier} {f : List Scope} → w ≡ v → Reached v s c m u f → Reached w s c m u f
arrived e r = record { numbers = r.numbers; there = e ∙ r.there; are = r.are }

recounted : {w s : Settling} {c : List Scope} {m : Name → ℕ} {u : List Identifier} {f : List Scope} (n : Name → ℕ) → ((x : Name) → m x ≡ n x) → Reached w s c m u f → Reached w s c n u f
recounted n h r = record { numbers = r.numbers; there = r.there; are = λ x. r.are x ∙ ap capped (h x) }

relisted : {w s : Settling} {c : List Scope} {m : Name → ℕ} {u : List Identifier} {f : List Scope} (g : List Scope) → f ≡ g → Reached w s c m u f → Reached w s c m u g
relisted {s = s} {c = c} {u = u} g e r = record { numbers = r.numbers; there = r.there ∙ ap (λ z. state s c r.numbers u z) e; are = r.are }

-- one step more
further : {w s : Settling} {c d : List Scope} {m n : Name → ℕ} {u v : List Identifier} {f g : List Scope} (go : Settling → Settling) → Reached w s c m u f
    → ((k : Numbers) → Are k m → Reached (go (state s c k u f)) s d n v g) → Reached (go w) s d n v g
further go r h = arrived (ap go r.there) (h r.numbers r.are)

-- ---- uses

-- the lists h have what the scopes c have in the innermost body
abbrev pub Tells : List (List Identifier) → List Scope → Type 0
Tells h c = (x : Name) → hidden h x ≡ had c x

within_hidden : (h : List (List Identifier)) (c : List Scope) (x : Name) → Tells h c → pass.is_within (body_of c) (lists c) x ≡ hidden h x
within_hidden h c x v = had_within c x ∙ sym (v x)

use_found : (s : Settling) (h : List (List Identifier)) (c : List Scope) (k : Numbers) (u : List Identifier) (f : List Scope) (i : Identifier) → Tells h c
    → pass.with_use (body_of c) (state s c k u f) i ≡ state s c k (used_name h u i) f
use_found s h c k u f i v = ap (λ q. if q then state s c k u f else state s c k (add u i) f) (within_hidden h c i.name v) ∙ step (hidden h i.name)
  where
    step : (q : Bool) → (if q then state s c k u f else state s c k (add u i) f) ≡ state s c k (if q then u else add u i) f
    step true = refl
    step false = refl

where_same : (p q : Name → Bool) (s is : List Identifier) → ((x : Name) → p x ≡ q x) → add_where p s is ≡ add_where q s is
where_same p q s is h = ap (λ (r : Name → Bool). add_where r s is) (fun_ext h)

uses_found : (s : Settling) (h : List (List Identifier)) (c : List Scope) (k : Numbers) (u : List Identifier) (f : List Scope) (is : List Identifier) → Tells h c
    → pass.with_uses (body_of c) (state s c k u f) is ≡ state s c k (passed_on h u is) f
unfolding pass.with_uses
uses_found s h c k u f is v = ap (λ (z : List Identifier). state s c k z f) (where_same _ _ u is (λ x. ap not (within_hidden h c x v)))

-- ---- assignments

capped_more : (a : ℕ) → capped (capped a + 1) ≡ capped (a + 1)
capped_more a = omega arith

capped_again : (a : ℕ) → nat_lt 1 (capped a) ≡ nat_lt 1 a
capped_again a = grind (arith, nat_tests)

no_more : (h : Bool) (a : ℕ) → a + (if h then 0 else 0) ≡ a
no_more h a = grind arith

-- one more, where the body has the name
abbrev once_more : List Scope → (Name → ℕ) → Identifier → Name → ℕ
once_more c m i x = m x + (if had c x then (if is_named x i then 1 else 0) else 0)

assignment_had : (c : List Scope) (k : Numbers) (m : Name → ℕ) (i : Identifier) → had c i.name ≡ true → Are k m → Are (counted k i) (once_more c m i)
assignment_had c k m i e a x = number_with k i (capped (number k i.name + 1)) x ∙ step (is_named x i) refl (had c x) refl
  where
    step : (t : Bool) → is_named x i ≡ t → (q : Bool) → had c x ≡ q → (if t then capped (number k i.name + 1) else number k x) ≡ capped (m x + (if q then (if t then 1 else 0) else 0))
    step true p true r = ap (λ z. capped (z + 1)) (a i.name) ∙ (capped_more (m i.name) ∙ ap (λ z. capped (m z + 1)) (sym (named_same x i p)))
    step true p false r = absurd (let same : had c x ≡ had c i.name = ap (had c) (named_same x i p) in cc)
    step false p q r = a x ∙ ap capped (sym (no_more q (m x)))

assignment_not_had : (c : List Scope) (k : Numbers) (m : Name → ℕ) (i : Identifier) → had c i.name ≡ false → Are k m → Are k (once_more c m i)
assignment_not_had c k m i e a x = a x ∙ ap capped (step (is_named x i) refl (had c x) refl)
  where
    step : (t : Bool) → is_named x i ≡ t → (q : Bool) → had c x ≡ q → m x ≡ m x + (if q then (if t then 1 else 0) else 0)
    step true p true r = absurd (let same : had c x ≡ had c i.name = ap (had c) (named_same x i p) in cc)
    step true p false r = sym (no_more false (m x))
    step false p q r = sym (no_more q (m x))

assignment_found : (s : Settling) (c : List Scope) (k : Numbers) (m : Name → ℕ) (u : List Identifier) (f : List Scope) (i : Identifier) → Are k m
    → Reached (pass.with_assignment (body_of c) (state s c k u f) i) s c (once_more c m i) u f
assignment_found s c k m u f i a = arrived (ap (λ q. if q then state s c (counted k i) u f else state s c k u f) (had_within c i.name)) (step (had c i.name) refl)
  where
    step : (q : Bool) → had c i.name ≡ q → Reached (if q then state s c (counted k i) u f else state s c k u f) s c (once_more c m i) u f
    step true e = here s c (counted k i) (once_more c m i) u f (assignment_had c k m i e a)
    step false e = here s c k (once_more c m i) u f (assignment_not_had c k m i e a)

sum_more : (h : Bool) (m a b : ℕ) → (m + (if h then a else 0)) + (if h then b else 0) ≡ m + (if h then a + b else 0)
sum_more h m a b = grind arith

assignments_found : (s : Settling) (c : List Scope) (k : Numbers) (m : Name → ℕ) (u : List Identifier) (f : List Scope) (is : List Identifier) → Are k m
    → Reached (pass.with_assignments (body_of c) (state s c k u f) is) s c (λ x. m x + (if had c x then occurrences x is else 0)) u f
assignments_found s c k m u f [] a = here s c k _ u f (λ x. a x ∙ ap capped (sym (no_more (had c x) (m x))))
assignments_found s c k m u f (i ∷ is) a = recounted (λ x. m x + (if had c x then occurrences x (i ∷ is) else 0)) (λ x. sum_more (had c x) (m x) (if is_named x i then 1 else 0) (occurrences x is))
    (further (λ z. pass.with_assignments (body_of c) z is) (assignment_found s c k m u f i a) (λ j b. assignments_found s c j (once_more c m i) u f is b))

-- ---- a scope begins and ends

opens : (s : Settling) (c : List Scope) (r : Scope) (k : Numbers) (m : Name → ℕ) (u : List Identifier) (f : List Scope) → Are k m
    → Reached (pass.opened (state s c k u f) r.names) s (r ∷ c) (λ x. if member r.names x then 0 else m x) u (f ++ pass.empty_scope ∷ [])
opens s c r k m u f a = here s (r ∷ c) (cleared k r.names) _ u _ (λ x. cleared_at k r.names x ∙ step (member r.names x) (m x) (number k x) (a x))
  where
    step : (b : Bool) (n j : ℕ) → j ≡ capped n → (if b then 0 else j) ≡ capped (if b then 0 else n)
    step true n j e = refl
    step false n j e = e

abbrev back_in : Scope → (Name → ℕ) → (Name → ℕ) → Name → ℕ
back_in r m n x = if member r.names x then m x else n x

place_taken : (f b : List Scope) (r : Scope) → slice_set ((f ++ pass.empty_scope ∷ []) ++ b) (length f) r ≡ f ++ r ∷ b
place_taken f b r = ap (λ z. slice_set z (length f) r) (append_assoc f (pass.empty_scope ∷ []) b) ∙ set-append_seam f pass.empty_scope b r

-- r is the scope with these names; k, m and v, what was counted and taken before it
closes : (t : ℕ) (s : Settling) (c : List Scope) (sort : ScopeKind) (at : ℕ) (r : Scope) (k j : Numbers) (m n : Name → ℕ) (v u : List Identifier) (f b : List Scope) → Are k m → Are j n
    → record { kind = sort; at = at; names = r.names; again = add_where (is_again j) [] r.names; captures = pass.captures_in t (lists c) sort u } ≡ r
    → Reached (pass.closed t (pass.open_scope (state s c k v f) sort at r.names) (state s (r ∷ c) j u ((f ++ pass.empty_scope ∷ []) ++ b))) s c (back_in r m n) u (f ++ r ∷ b)
closes t s c sort at r k j m n v u f b a i e =
    let before : Numbers = restored j r.names (map (λ (i : Identifier). number k i.name) r.names) in
    record {
      numbers = before;
      there = ap (λ z. state s c before u (slice_set ((f ++ pass.empty_scope ∷ []) ++ b) (length f) z)) e ∙ ap (λ z. state s c before u z) (place_taken f b r);
      are = λ x. restored_at j (number k) r.names x ∙ step (member r.names x) (m x) (n x) (number k x) (number j x) (a x) (i x);
    }
  where
    step : (b : Bool) (m n k j : ℕ) → k ≡ capped m → j ≡ capped n → (if b then k else j) ≡ capped (if b then m else n)
    step true m n k j p q = p
    step false m n k j p q = q

-- those of the names that were assigned more than once
again_found : (ns : List Identifier) (j : Numbers) (n : Name → ℕ) (g : Name → ℕ) → Once ns → Are j n → ((i : Identifier) → member ns i.name ≡ true → n i.name ≡ g i.name)
    → add_where (is_again j) [] ns ≡ filter (λ i. nat_lt 1 (g i.name)) ns
again_found ns j n g o a h = o (is_again j) ∙ filter_same _ _ ns (λ i m. ap (nat_lt 1) (a i.name) ∙ (capped_again (n i.name) ∙ ap (nat_lt 1) (h i m)))

-- ---- the scopes that begin

pub begun_before : (c : List Scope) (ms : Marks) (l : List Scope) → begun c ms l ≡ begun c ms [] ++ l
begun_before c no_marks l = refl
begun_before c (mark (use_of i) ms) l = begun_before c ms l
begun_before c (mark (interpolation at i) ms) l = begun_before c ms l
begun_before c (mark (assignment i) ms) l = begun_before c ms l
begun_before c (mark (call i n) ms) l = begun_before c ms l
begun_before c (mark print ms) l = begun_before c ms l
begun_before c (mark macro ms) l = begun_before c ms l
begun_before c (mark (loop_jump at) ms) l = begun_before c ms l
begun_before c (mark (return_jump at) ms) l = begun_before c ms l
begun_before c (mark (scope k at is body) ms) l =
    let r : Scope = scope_of c k at is body in
    ap (λ z. r ∷ z) (begun_before (r ∷ c) body (begun c ms l)
    ∙ (ap (λ z. begun (r ∷ c) body [] ++ z) (begun_before c ms l)
    ∙ (sym (append_assoc (begun (r ∷ c) body []) (begun c ms []) l) ∙ ap (λ z. z ++ l) (sym (begun_before (r ∷ c) body (begun c ms []))))))

-- the scopes of one mark, and behind them the others
scopes_behind : (f b l : List Scope) (r : Scope) (n : List Scope) → n ≡ b ++ l → (f ++ r ∷ b) ++ l ≡ f ++ r ∷ n
scopes_behind f b l r n e = append_assoc f (r ∷ b) l ∙ ap (λ z. f ++ r ∷ z) (sym e)

-- ---- what a scope makes of the counts

-- a scope's own names are as before it, and what is assigned in it to others is counted
abbrev behind : Scope → List Scope → List Identifier → Marks → (Name → ℕ) → Name → ℕ
behind r c vs body m = back_in r m (λ x. ((if member r.names x then 0 else m x) + (if had (r ∷ c) x then occurrences x vs else 0)) + (if had (r ∷ c) x then times x body else 0))

-- a scope that is a body of its own
behind_body : (b : Bool) (m o n : ℕ) → (if b then m else (((if b then 0 else m) + (if (b || false) then o else 0)) + (if (b || false) then n else 0))) ≡ m
behind_body b m o n = grind arith

-- a loop: t, it has the name; v, its variable has it; h, the body has it round the loop
behind_loop : (t v d h : Bool) (m o n : ℕ) → t ≡ (v || (d && not h)) → (v ≡ false → o ≡ 0)
    → (if t then m else (((if t then 0 else m) + (if (t || (true && h)) then o else 0)) + (if (t || (true && h)) then n else 0))) ≡ m + (if h then (if v then 0 else n) else 0)
behind_loop t v d h m o n e z = grind arith

-- an `@sync`
behind_sync : (h : Bool) (m n : ℕ) → (m + (if h then 0 else 0)) + (if h then n else 0) ≡ m + (if h then n else 0)
behind_sync h m n = grind arith

loop_has : (c : List Scope) (is : List Identifier) (body : Marks) (x : Name) → member (names_of c kind.Loop is body) x ≡ (member is x || (member (direct [] body) x && not (had c x)))
loop_has c is body x = member_where (λ y. not (had c y)) (add_all [] is) (direct [] body) x ∙ ap (λ z. z || (member (direct [] body) x && not (had c x))) (member_all [] is x)

-- the lists of a loop tell what its scope tells
loop_tells : (v d h : Bool) → (d || (v || h)) ≡ ((v || (d && not h)) || (true && h))
loop_tells v d h = grind arith

pub tells_loop : (h : List (List Identifier)) (c : List Scope) (at : ℕ) (is : List Identifier) (body : Marks) → Tells h c → Tells (direct [] body ∷ is ∷ h) (scope_of c kind.Loop at is body ∷ c)
tells_loop h c at is body v x = ap (λ z. member (direct [] body) x || (member is x || z)) (v x)
    ∙ (loop_tells (member is x) (member (direct [] body) x) (had c x) ∙ ap (λ z. z || (true && had c x)) (sym (loop_has c is body x)))

-- ---- a scope

abbrev counts_after : List Scope → (Name → ℕ) → Marks → Name → ℕ
counts_after c m ms x = m x + (if had c x then times x ms else 0)

-- those of a name of the scope
own_number : (t h : Bool) (m o n : ℕ) → t ≡ true → h ≡ true → ((if t then 0 else m) + (if h then o else 0)) + (if h then n else 0) ≡ o + n
own_number t h m o n p q = grind arith

-- the pass over a scope; v, what is taken before it, and u, behind it
within_found : (s : Settling) (c : List Scope) (sort : ScopeKind) (at : ℕ) (is : List Identifier) (body : Marks) (b t : ℕ) (k : Numbers) (m : Name → ℕ) (v u : List Identifier) (f : List Scope) → Are k m
    → body_of (scope_of c sort at is body ∷ c) ≡ b
    → pass.names_in b (lists c) sort is body ≡ names_of c sort is body
    → Once (names_of c sort is body)
    → ((x : Name) → member (names_of c sort is body) x ≡ true → occurrences x (pass.variables_of sort is) ≡ occurrences x is)
    → pass.captures_in t (lists c) sort u ≡ captures_of c sort body
    → ((j : Numbers) (n : Name → ℕ) (g : List Scope) → Are j n → Reached (pass.walked b t (state s (scope_of c sort at is body ∷ c) j v g) body)
    s (scope_of c sort at is body ∷ c) (counts_after (scope_of c sort at is body ∷ c) n body) u (g ++ begun (scope_of c sort at is body ∷ c) body []))
    → Reached (pass.walked_within b t sort at is body (state s c k v f))
    s c (behind (scope_of c sort at is body) c (pass.variables_of sort is) body m) u (f ++ scope_of c sort at is body ∷ begun (scope_of c sort at is body ∷ c) body [])
within_found s c sort at is body b t k m v u f a e p o q w go =
    let r : Scope = scope_of c sort at is body in
    let vs : List Identifier = pass.variables_of sort is in
    let inner : Name → ℕ = λ x. if member r.names x then 0 else m x in
    let start : Name → ℕ = λ x. inner x + (if had (r ∷ c) x then occurrences x vs else 0) in
    let after : Name → ℕ = counts_after (r ∷ c) start body in
    let g : List Scope = f ++ pass.empty_scope ∷ [] in
    let end : Settling → Settling = λ z. pass.closed t (pass.open_scope (state s c k v f) sort at r.names) z in
    let begins : Reached (pass.with_assignments b (pass.opened (state s c k v f) r.names) vs) s (r ∷ c) start v g =
    further (λ z. pass.with_assignments b z vs) (opens s c r k m v f a)
    (λ j i. arrived (ap (λ z. pass.with_assignments z (state s (r ∷ c) j v g) vs) (sym e)) (assignments_found s (r ∷ c) j inner v g vs i)) in
    let goes : Reached (pass.walked b t (pass.with_assignments b (pass.opened (state s c k v f) r.names) vs) body) s (r ∷ c) after u (g ++ begun (r ∷ c) body []) =
    further (λ z. pass.walked b t z body) begins (λ j i. go j start g i) in
    let same : (i : Identifier) → member r.names i.name ≡ true → after i.name ≡ occurrences i.name is + times i.name body =
    λ i h. own_number (member r.names i.name) (had (r ∷ c) i.name) (m i.name) (occurrences i.name vs) (times i.name body) h (or_left (member r.names i.name) (is_inner r && had c i.name) h)
    ∙ ap (λ z. z + times i.name body) (q i.name h) in
    let found : (j : Numbers) → Are j after → record { kind = sort; at = at; names = r.names; again = add_where (is_again j) [] r.names; captures = pass.captures_in t (lists c) sort u } ≡ r =
    λ j i. ap (λ (z : List Identifier). record r { again = z; captures = pass.captures_in t (lists c) sort u }) (again_found r.names j after (λ x. occurrences x is + times x body) o i same)
    ∙ ap (λ (z : List Identifier). record r { captures = z }) w in
    let ends : Reached (end (pass.walked b t (pass.with_assignments b (pass.opened (state s c k v f) r.names) vs) body)) s c (back_in r m after) u (f ++ r ∷ begun (r ∷ c) body []) =
    further end goes (λ j i. closes t s c sort at r k j m after v u f (begun (r ∷ c) body []) a i (found j i)) in
    arrived (ap (λ (ns : List Identifier). pass.closed t (pass.open_scope (state s c k v f) sort at ns) (pass.walked b t (pass.with_assignments b (pass.opened (state s c k v f) ns) vs) body)) p) ends

-- ---- the pass over marks

-- a scope that is a body of its own, and what stands in it
body_found : (s : Settling) (c : List Scope) (sort : ScopeKind) (at : ℕ) (is : List Identifier) (body : Marks) (t : ℕ) (k : Numbers) (m : Name → ℕ) (u : List Identifier) (f : List Scope) → Are k m
    → is_inner (scope_of c sort at is body) ≡ false
    → pass.names_in (length (lists c)) (lists c) sort is body ≡ names_of c sort is body
    → Once (names_of c sort is body)
    → pass.variables_of sort is ≡ is
    → pass.captures_in t (lists c) sort u ≡ captures_of c sort body
    → ((j : Numbers) (n : Name → ℕ) (g : List Scope) → Are j n → Reached (pass.walked (length (lists c)) t (state s (scope_of c sort at is body ∷ c) j [] g) body)
    s (scope_of c sort at is body ∷ c) (counts_after (scope_of c sort at is body ∷ c) n body) u (g ++ begun (scope_of c sort at is body ∷ c) body []))
    → Reached (pass.walked_within (length (lists c)) t sort at is body (state s c k [] f)) s c m u (f ++ scope_of c sort at is body ∷ begun (scope_of c sort at is body ∷ c) body [])
body_found s c sort at is body t k m u f a e p o q w go =
    let r : Scope = scope_of c sort at is body in
    let vs : List Identifier = pass.variables_of sort is in
    recounted m (λ x.
    ap (λ z. if member r.names x then m x else (((if member r.names x then 0 else m x) + (if (member r.names x || (z && had c x)) then occurrences x vs else 0)) + (if (member r.names x || (z && had c x)) then times x body else 0))) e
    ∙ behind_body (member r.names x) (m x) (occurrences x vs) (times x body))
    (within_found s c sort at is body (length (lists c)) t k m [] u f a (ap (λ z. if z then body_of c else length (lists c)) e) p o (λ x h. ap (occurrences x) q) w go)

none_behind : (f : List Scope) → f ≡ f ++ []
none_behind f = sym (append-nil f)

pub walk_found : (s : Settling) (h : List (List Identifier)) (c : List Scope) (k : Numbers) (m : Name → ℕ) (u : List Identifier) (f : List Scope) (ms : Marks) → Tells h c → Are k m
    → Reached (pass.walked (body_of c) (text_of c) (state s c k u f) ms) s c (counts_after c m ms) (used h u ms) (f ++ begun c ms [])
walk_found s h c k m u f no_marks v a = relisted (f ++ []) (none_behind f) (here s c k (counts_after c m no_marks) u f (λ x. a x ∙ ap capped (sym (no_more (had c x) (m x)))))
walk_found s h c k m u f (mark (use_of i) ms) v a = arrived (ap (λ z. pass.walked (body_of c) (text_of c) z ms) (use_found s h c k u f i v)) (walk_found s h c k m (used_name h u i) f ms v a)
walk_found s h c k m u f (mark (interpolation at i) ms) v a = walk_found s h c k m (add u i) f ms v a
walk_found s h c k m u f (mark (assignment i) ms) v a =
    recounted (counts_after c m (mark (assignment i) ms)) (λ x. sum_more (had c x) (m x) (if is_named x i then 1 else 0) (times x ms))
    (further (λ z. pass.walked (body_of c) (text_of c) z ms) (assignment_found s c k m u f i a) (λ j b. walk_found s h c j (once_more c m i) u f ms v b))
walk_found s h c k m u f (mark (call i n) ms) v a = walk_found s h c k m u f ms v a
walk_found s h c k m u f (mark print ms) v a = walk_found s h c k m u f ms v a
walk_found s h c k m u f (mark macro ms) v a = walk_found s h c k m u f ms v a
walk_found s h c k m u f (mark (loop_jump at) ms) v a = walk_found s h c k m u f ms v a
walk_found s h c k m u f (mark (return_jump at) ms) v a = walk_found s h c k m u f ms v a
walk_found s h c k m u f (mark (scope kind.Loop at is body) ms) v a =
    let r : Scope = scope_of c kind.Loop at is body in
    let l : List (List Identifier) = direct [] body ∷ is ∷ h in
    let b : List Scope = begun (r ∷ c) body [] in
    let n : Name → ℕ = λ x. m x + (if had c x then (if member is x then 0 else times x body) else 0) in
    let one : Reached (pass.walked_within (body_of c) (text_of c) kind.Loop at is body (state s c k u f)) s c n (used l u body) (f ++ r ∷ b) =
    recounted n (λ x. behind_loop (member r.names x) (member is x) (member (direct [] body) x) (had c x) (m x) (occurrences x is) (times x body) (loop_has c is body x) (none_occurs is x))
    (within_found s c kind.Loop at is body (body_of c) (text_of c) k m u (used l u body) f a refl
    (where_same _ _ (add_all [] is) (direct [] body) (λ x. ap not (had_within c x)))
    (once_where (λ x. not (had c x)) (add_all [] is) (direct [] body) (once_all [] is once_none))
    (λ x e. refl) refl (λ j n g i. walk_found s l (r ∷ c) j n u g body (tells_loop h c at is body v) i)) in
    relisted _ (scopes_behind f b (begun c ms []) r _ (begun_before (r ∷ c) body (begun c ms [])))
    (recounted (counts_after c m (mark (scope kind.Loop at is body) ms)) (λ x. sum_more (had c x) (m x) (if member is x then 0 else times x body) (times x ms))
    (further (λ z. pass.walked (body_of c) (text_of c) z ms) one (λ j i. walk_found s h c j n (used l u body) (f ++ r ∷ b) ms v i)))
walk_found s h c k m u f (mark (scope kind.Sync at is body) ms) v a =
    let r : Scope = scope_of c kind.Sync at is body in
    let b : List Scope = begun (r ∷ c) body [] in
    let n : Name → ℕ = λ x. m x + (if had c x then times x body else 0) in
    let one : Reached (pass.walked_within (body_of c) (text_of c) kind.Sync at is body (state s c k u f)) s c n (used h u body) (f ++ r ∷ b) =
    recounted n (λ x. behind_sync (had c x) (m x) (times x body))
    (within_found s c kind.Sync at is body (body_of c) (text_of c) k m u (used h u body) f a refl refl once_none
    (λ x e. absurd (let no : false ≡ true = e in cc)) refl (λ j n g i. walk_found s h (r ∷ c) j n u g body v i)) in
    relisted _ (scopes_behind f b (begun c ms []) r _ (begun_before (r ∷ c) body (begun c ms [])))
    (recounted (counts_after c m (mark (scope kind.Sync at is body) ms)) (λ x. sum_more (had c x) (m x) (times x body) (times x ms))
    (further (λ z. pass.walked (body_of c) (text_of c) z ms) one (λ j i. walk_found s h c j n (used h u body) (f ++ r ∷ b) ms v i)))
walk_found s h c k m u f (mark (scope kind.Task at is body) ms) v a =
    let r : Scope = scope_of c kind.Task at is body in
    let l : List (List Identifier) = direct [] body ∷ [] in
    let b : List Scope = begun (r ∷ c) body [] in
    let w : List Identifier = passed_on h u (taken body) in
    let one : Reached (pass.walked_within (length (lists c)) (text_of c) kind.Task at is body (state s c k [] f)) s c m (taken body) (f ++ r ∷ b) =
    body_found s c kind.Task at is body (text_of c) k m (taken body) f a refl refl (once_direct [] body once_none) refl
    (where_same _ _ [] (taken body) (text_within c)) (λ j n g i. walk_found s l (r ∷ c) j n [] g body (λ x. refl) i) in
    relisted _ (scopes_behind f b (begun c ms []) r _ (begun_before (r ∷ c) body (begun c ms [])))
    (further (λ z. pass.walked (body_of c) (text_of c) (pass.passed_on (body_of c) (state s c k u f) z) ms) one
    (λ j i. arrived (ap (λ z. pass.walked (body_of c) (text_of c) z ms) (uses_found s h c j u (f ++ r ∷ b) (taken body) v)) (walk_found s h c j m w (f ++ r ∷ b) ms v i)))
walk_found s h c k m u f (mark (scope kind.Function at is body) ms) v a =
    let r : Scope = scope_of c kind.Function at is body in
    let l : List (List Identifier) = r.names ∷ [] in
    let b : List Scope = begun (r ∷ c) body [] in
    let one : Reached (pass.walked_within (length (lists c)) (length (lists c)) kind.Function at is body (state s c k [] f)) s c m (used l [] body) (f ++ r ∷ b) =
    body_found s c kind.Function at is body (length (lists c)) k m (used l [] body) f a refl refl (once_direct (add_all [] is) body (once_all [] is once_none)) refl refl
    (λ j n g i. walk_found s l (r ∷ c) j n [] g body (λ x. refl) i) in
    relisted _ (scopes_behind f b (begun c ms []) r _ (begun_before (r ∷ c) body (begun c ms [])))
    (further (λ z. pass.walked (body_of c) (text_of c) (pass.back (state s c k u f) z) ms) one (λ j i. walk_found s h c j m u (f ++ r ∷ b) ms v i))
walk_found s h c k m u f (mark (scope kind.Script at is body) ms) v a =
    let r : Scope = scope_of c kind.Script at is body in
    let l : List (List Identifier) = r.names ∷ [] in
    let b : List Scope = begun (r ∷ c) body [] in
    let one : Reached (pass.walked_within (length (lists c)) (text_of c) kind.Script at is body (state s c k [] f)) s c m (used l [] body) (f ++ r ∷ b) =
    body_found s c kind.Script at is body (text_of c) k m (used l [] body) f a refl refl (once_direct (add_all [] is) body (once_all [] is once_none)) refl refl
    (λ j n g i. walk_found s l (r ∷ c) j n [] g body (λ x. refl) i) in
    relisted _ (scopes_behind f b (begun c ms []) r _ (begun_before (r ∷ c) body (begun c ms [])))
    (further (λ z. pass.walked (body_of c) (text_of c) (pass.back (state s c k u f) z) ms) one (λ j i. walk_found s h c j m u (f ++ r ∷ b) ms v i))

-- ---- a script

functions_before : (c : List Scope) (fs : List FunctionTree) (l : List Scope) → begun_functions c fs l ≡ begun_functions c fs [] ++ l
functions_before c [] l = refl
functions_before c (g ∷ fs) l =
    let r : Scope = function_scope c g in
    ap (λ z. r ∷ z) (begun_before (r ∷ c) g.body (begun_functions c fs l)
    ∙ (ap (λ z. begun (r ∷ c) g.body [] ++ z) (functions_before c fs l)
    ∙ (sym (append_assoc (begun (r ∷ c) g.body []) (begun_functions c fs []) l) ∙ ap (λ z. z ++ l) (sym (begun_before (r ∷ c) g.body (begun_functions c fs []))))))

functions_found : (s : Settling) (c : List Scope) (k : Numbers) (m : Name → ℕ) (u : List Identifier) (f : List Scope) (fs : List FunctionTree) → Are k m
    → Reached (pass.walked_functions (state s c k u f) fs) s c m u (f ++ begun_functions c fs [])
functions_found s c k m u f [] a = relisted (f ++ []) (none_behind f) (here s c k m u f a)
functions_found s c k m u f (e ∷ fs) a =
    let r : Scope = function_scope c e in
    let l : List (List Identifier) = r.names ∷ [] in
    let b : List Scope = begun (r ∷ c) e.body [] in
    let one : Reached (pass.walked_within (length (lists c)) (length (lists c)) kind.Function 0 e.parameters e.body (state s c k [] f)) s c m (used l [] e.body) (f ++ r ∷ b) =
    body_found s c kind.Function 0 e.parameters e.body (length (lists c)) k m (used l [] e.body) f a refl refl (once_direct (add_all [] e.parameters) e.body (once_all [] e.parameters once_none)) refl refl
    (λ j n g i. walk_found s l (r ∷ c) j n [] g e.body (λ x. refl) i) in
    relisted _ (scopes_behind f b (begun_functions c fs []) r _ (begun_before (r ∷ c) e.body (begun_functions c fs [])))
    (further (λ z. pass.walked_functions (pass.back (state s c k u f) z) fs) one (λ j i. functions_found s c j m u (f ++ r ∷ b) fs i))

-- what the main task takes
abbrev used_parts : List (List Identifier) → List Identifier → List PartTree → List Identifier
used_parts h u [] = u
used_parts h u (p ∷ ps) = used_parts h (used h u (part_marks p)) ps

part_before : (c : List Scope) (p : PartTree) (ps : List PartTree) → begun c (part_marks p) (begun_parts c ps []) ≡ begun_parts c (p ∷ ps) []
part_before c (constant at i ms) ps = refl
part_before c (statement ms) ps = refl

part_times : (x : Name) (p : PartTree) (ps : List PartTree) → times x (part_marks p) + times_parts x ps ≡ times_parts x (p ∷ ps)
part_times x (constant at i ms) ps = refl
part_times x (statement ms) ps = refl

parts_found : (s : Settling) (h : List (List Identifier)) (c : List Scope) (k : Numbers) (m : Name → ℕ) (u : List Identifier) (f : List Scope) (ps : List PartTree) → body_of c ≡ 0 → text_of c ≡ 0 → Tells h c → Are k m
    → Reached (pass.walked_parts (state s c k u f) ps) s c (λ x. m x + (if had c x then times_parts x ps else 0)) (used_parts h u ps) (f ++ begun_parts c ps [])
parts_found s h c k m u f [] p q v a = relisted (f ++ []) (none_behind f) (here s c k _ u f (λ x. a x ∙ ap capped (sym (no_more (had c x) (m x)))))
parts_found s h c k m u f (t ∷ ps) p q v a =
    let b : List Scope = begun c (part_marks t) [] in
    let one : Reached (pass.walked 0 0 (state s c k u f) (part_marks t)) s c (counts_after c m (part_marks t)) (used h u (part_marks t)) (f ++ b) =
    arrived (ap (λ b. pass.walked b 0 (state s c k u f) (part_marks t)) (sym p) ∙ ap (λ b. pass.walked (body_of c) b (state s c k u f) (part_marks t)) (sym q)) (walk_found s h c k m u f (part_marks t) v a) in
    relisted _ (append_assoc f b (begun_parts c ps []) ∙ ap (λ z. f ++ z) (sym (begun_before c (part_marks t) (begun_parts c ps [])) ∙ part_before c t ps))
    (recounted (λ x. m x + (if had c x then times_parts x (t ∷ ps) else 0))
    (λ x. sum_more (had c x) (m x) (times x (part_marks t)) (times_parts x ps) ∙ ap (λ z. m x + (if had c x then z else 0)) (part_times x t ps))
    (further (λ z. pass.walked_parts z ps) one (λ j i. parts_found s h c j (counts_after c m (part_marks t)) (used h u (part_marks t)) (f ++ b) ps p q v i)))

script_number : (t : Bool) (n : ℕ) → t ≡ true → (if t then 0 else 0) + (if (t || false) then n else 0) ≡ n
script_number t n e = grind arith

pub script_found : (s : Settling) (o : OutlineTree) → s.holders ≡ [] → s.counts ≡ [] → s.taken ≡ [] → s.scopes ≡ [] → (pass.walked_script s o).scopes ≡ scopes_of o
script_found s o eh ec et es =
    let r : Scope = script_scope o.parts in
    let c : List Scope = r ∷ [] in
    let z : Name → ℕ = λ x. 0 in
    let m : Name → ℕ = λ x. if member r.names x then 0 else 0 in
    let n : Name → ℕ = λ x. m x + (if had c x then times_parts x o.parts else 0) in
    let u : List Identifier = used_parts (r.names ∷ []) [] o.parts in
    let f : List Scope = [] ++ pass.empty_scope ∷ [] in
    let b : List Scope = begun_functions c o.functions [] ++ begun_parts c o.parts [] in
    let start : s ≡ state s [] [] [] [] =
    ap (λ (k : List (List Identifier)). record s { holders = k }) eh ∙ (ap (λ (k : Numbers). record s { holders = []; counts = k }) ec
    ∙ (ap (λ (k : List Identifier). record s { holders = []; counts = []; taken = k }) et ∙ ap (λ (k : List Scope). record s { holders = []; counts = []; taken = []; scopes = k }) es)) in
    let none : Are [] z = λ x. refl in
    let goes : Reached (pass.walked_parts (pass.walked_functions (pass.opened (state s [] [] [] []) r.names) o.functions) o.parts) s c n u (f ++ b) =
    relisted (f ++ b) (append_assoc f (begun_functions c o.functions []) (begun_parts c o.parts []))
    (further (λ k. pass.walked_parts k o.parts) (further (λ k. pass.walked_functions k o.functions) (opens s [] r [] z [] [] none) (λ j i. functions_found s c j m [] f o.functions i))
    (λ j i. parts_found s (r.names ∷ []) c j m [] (f ++ begun_functions c o.functions []) o.parts refl refl (λ x. refl) i)) in
    let found : (j : Numbers) → Are j n → record { kind = kind.Script; at = 0; names = r.names; again = add_where (is_again j) [] r.names; captures = [] } ≡ r =
    λ j i. ap (λ (k : List Identifier). record r { again = k })
    (again_found r.names j n (λ x. times_parts x o.parts) (once_parts [] o.parts once_none) i (λ i h. script_number (member r.names i.name) (times_parts i.name o.parts) h)) in
    let ends : Reached (pass.walked_script (state s [] [] [] []) o) s [] (back_in r z n) u ([] ++ r ∷ b) =
    further (λ k. pass.closed 0 (pass.open_scope (state s [] [] [] []) kind.Script 0 r.names) k) goes (λ j i. closes 0 s [] kind.Script 0 r [] j z n [] u [] b none i (found j i)) in
    ap (λ k. (pass.walked_script k o).scopes) start ∙ (ap (λ (k : Settling). k.scopes) ends.there ∙ ap (λ k. r ∷ k) (sym (functions_before c o.functions (begun_parts c o.parts []))))
