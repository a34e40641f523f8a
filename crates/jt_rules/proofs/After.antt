-- The walk meets each scope where it begins, and finds the least of the rules that are broken.
use Rattle.std.proofs.Common.{◌≡◌, ℕ, Bool, true, false, not, ◌||◌, List, [], ◌∷◌, ◌++◌, Option, None, refl, sym, ap, ◌∙◌, fold, if◌then◌else◌, arith}
use Rattle.std.proofs.Math.Bool.{or-false, or-true}
use Rattle.jt_syntax.specs.Tree.{TopTree}
use Rattle.jt_syntax.specs.declared.script.Identifier.{Identifier}
use Rattle.jt_outline.specs.declared.mark.ScopeKind.{ScopeKind}
use Rattle.jt_outline.specs.Marks.{MarkTree, Marks, no_marks, mark, use_of, interpolation, assignment, call, print, macro, loop_jump, return_jump, scope, FunctionTree, PartTree, constant, statement, OutlineTree}
use Rattle.jt_outline.specs.Outlines.{outline_of}
use Rattle.jt_names.specs.Tops.{constants_of, signatures_of}
use Rattle.jt_names.specs.declared.functions.Signature.{Signature}
use Rattle.jt_scopes.specs.declared.scope.Scope.{Scope}
use Rattle.jt_scopes.specs.Scopes.{loop_kind, scope_of, script_scope, function_scope, begun, begun_functions, begun_parts, scopes_within, scopes_of}
use Rattle.jt_rules.specs.declared.found.Found.{Found}
use Rattle.jt_naming.specs.declared.rules.Broken.{Broken}
use Rattle.jt_naming.specs.Rules.{Context, mark_breaks, breaks, is_call, calls, function_breaks, constant_breaks}
use Rattle.jt_naming.specs.Scripts.{context_of, parameters_break, functions_break, parts_break, broken_rules}
use Rattle.jt_rules.specs.Walk.{worse, judged, opened, cleared, headed, nothing_found, Stand, left, checked, checked_all, checked_functions, with_constant, checked_parts, checked_script, Judges}
use Rattle.jt_rules.proofs.Least.{worse_append, worst_answers}

-- ---- what is found

abbrev found : Option Broken → Bool → Found
found m b = record { least = m; called = b }

found_same : (m n : Option Broken) (a b : Bool) → m ≡ n → a ≡ b → found m a ≡ found n b
found_same m n a b p q = ap (λ z. found z a) p ∙ ap (found n) q

judged_then : (o : Found) (bs : List Broken) (b : Bool) (cs : List Broken) (d : Bool) → judged (judged o bs b) cs d ≡ judged o (bs ++ cs) (b || d)
judged_then o bs b cs d = found_same _ _ _ _ (sym (worse_append o.least bs cs)) (grind arith)

-- a scope that is no loop's counts as a call
opened_judged : (k : ScopeKind) (o : Found) (bs : List Broken) (b : Bool) → judged (opened k o) bs b ≡ judged o bs (if loop_kind k then b else true)
opened_judged k o bs b = found_same _ _ _ _ refl (by (loop_kind k))
  where
    by : (t : Bool) → (b || (not t || o.called)) ≡ ((if t then b else true) || o.called)
    by true = refl
    by false = or-true b

-- ---- the walk

abbrev stands : List Scope → Found → List Scope → Stand
stands c o l = record { chain = c; found = o; ahead = l }

-- s, where the walk stands behind what breaks the rules bs
next : (x : Context) (c : List Scope) (ms : Marks) (s : Stand) (o : Found) (bs : List Broken) (b : Bool) (l : List Scope) → s ≡ stands c (judged o bs b) (begun c ms l)
    → ((p : Found) → checked_all x (stands c p (begun c ms l)) ms ≡ stands c (judged p (breaks x c ms) (calls x ms)) l)
    → checked_all x s ms ≡ stands c (judged o (bs ++ breaks x c ms) (b || calls x ms)) l
next x c ms s o bs b l e later =
    ap (λ z. checked_all x z ms) e ∙ (later (judged o bs b) ∙ ap (λ p. stands c p l) (judged_then o bs b (breaks x c ms) (calls x ms)))

-- what stands there and is no scope
plain : (x : Context) (c : List Scope) (m : MarkTree) (ms : Marks) (o : Found) (l : List Scope) → checked x (stands c o (begun c ms l)) m ≡ stands c (judged o (mark_breaks x c m) (is_call x m)) (begun c ms l)
    → ((p : Found) → checked_all x (stands c p (begun c ms l)) ms ≡ stands c (judged p (breaks x c ms) (calls x ms)) l)
    → checked_all x (stands c o (begun c ms l)) (mark m ms) ≡ stands c (judged o (breaks x c (mark m ms)) (calls x (mark m ms))) l
plain x c m ms o l e later = next x c ms (checked x (stands c o (begun c ms l)) m) o (mark_breaks x c m) (is_call x m) l e later

pub goes : (x : Context) (c : List Scope) (ms : Marks) (o : Found) (l : List Scope) → checked_all x (stands c o (begun c ms l)) ms ≡ stands c (judged o (breaks x c ms) (calls x ms)) l
goes x c no_marks o l = refl
goes x c (mark (use_of i) ms) o l = plain x c (use_of i) ms o l refl (λ p. goes x c ms p l)
goes x c (mark (interpolation at i) ms) o l = plain x c (interpolation at i) ms o l refl (λ p. goes x c ms p l)
goes x c (mark (assignment i) ms) o l = plain x c (assignment i) ms o l refl (λ p. goes x c ms p l)
goes x c (mark (call i n) ms) o l = plain x c (call i n) ms o l refl (λ p. goes x c ms p l)
goes x c (mark print ms) o l = plain x c print ms o l refl (λ p. goes x c ms p l)
goes x c (mark macro ms) o l = plain x c macro ms o l refl (λ p. goes x c ms p l)
goes x c (mark (loop_jump at) ms) o l = plain x c (loop_jump at) ms o l refl (λ p. goes x c ms p l)
goes x c (mark (return_jump at) ms) o l = plain x c (return_jump at) ms o l refl (λ p. goes x c ms p l)
goes x c (mark (scope k at is body) ms) o l =
    let d : List Scope = scope_of c k at is body ∷ c in let rest : List Scope = begun c ms l in
    next x c ms (left (checked_all x (stands d (opened k o) (begun d body rest)) body)) o (breaks x d body) (if loop_kind k then calls x body else true) l
    (ap left (goes x d body (opened k o) rest) ∙ ap (λ p. stands c p rest) (opened_judged k o (breaks x d body) (calls x body)))
    (λ p. goes x c ms p l)

-- ---- functions

abbrev functions_call : Context → List FunctionTree → Bool
functions_call x [] = false
functions_call x (f ∷ fs) = calls x f.body || functions_call x fs

headed_then : (x : Context) (o : Found) (i : Identifier) (is : List Identifier) (bs : List Broken) (b : Bool) (cs : List Broken) (d : Bool)
    → judged (judged (headed x o i is) bs b) cs d ≡ judged o (function_breaks x i ++ (parameters_break [] is ++ (bs ++ cs))) (b || d)
headed_then x o i is bs b cs d =
    judged_then (headed x o i is) bs b cs d
    ∙ (judged_then (judged o (function_breaks x i) false) (parameters_break [] is) false (bs ++ cs) (b || d)
    ∙ judged_then o (function_breaks x i) false (parameters_break [] is ++ (bs ++ cs)) (b || d))

goes_functions : (x : Context) (c : List Scope) (fs : List FunctionTree) (o : Found) (l : List Scope) → checked_functions x (stands c o (begun_functions c fs l)) fs ≡ stands c (judged o (functions_break x c fs) (functions_call x fs)) l
goes_functions x c [] o l = refl
goes_functions x c (f ∷ fs) o l =
    let d : List Scope = function_scope c f ∷ c in let rest : List Scope = begun_functions c fs l in let p : Found = headed x o f.name f.parameters in
    ap (λ z. checked_functions x (left z) fs) (goes x d f.body p rest)
    ∙ (goes_functions x c fs (judged p (breaks x d f.body) (calls x f.body)) l
    ∙ ap (λ q. stands c q l) (headed_then x o f.name f.parameters (breaks x d f.body) (calls x f.body) (functions_break x c fs) (functions_call x fs)))

-- ---- what the main task does

constant_least : (x : Context) (c : List Scope) (late : Bool) (at : ℕ) (i : Identifier) (o : Found) (bs : List Broken) (b : Bool) (cs : List Broken) (l : List Scope)
    → fold worse (with_constant x late at i (stands c (judged (cleared o) bs b) l)).found.least cs ≡ fold worse o.least (bs ++ (constant_breaks x i at (late || b) ++ cs))
constant_least x c late at i o bs b cs l =
    ap (λ t. fold worse (fold worse (fold worse o.least bs) (constant_breaks x i at (late || t))) cs) (or-false b)
    ∙ (sym (worse_append (fold worse o.least bs) (constant_breaks x i at (late || b)) cs)
    ∙ sym (worse_append o.least bs (constant_breaks x i at (late || b) ++ cs)))

goes_parts : (x : Context) (c : List Scope) (late : Bool) (ps : List PartTree) (o : Found) (l : List Scope) → (checked_parts x late (stands c o (begun_parts c ps l)) ps).found.least ≡ fold worse o.least (parts_break x c late ps)
goes_parts x c late [] o l = refl
goes_parts x c late (constant at i ms ∷ ps) o l =
    let rest : List Scope = begun_parts c ps l in let p : Found = judged (cleared o) (breaks x c ms) (calls x ms) in
    let q : Stand = with_constant x late at i (stands c p rest) in
    ap (λ z. (checked_parts x (late || false) (with_constant x late at i z) ps).found.least) (goes x c ms (cleared o) rest)
    ∙ (ap (λ t. (checked_parts x t q ps).found.least) (or-false late)
    ∙ (goes_parts x c late ps q.found l
    ∙ constant_least x c late at i o (breaks x c ms) (calls x ms) (parts_break x c late ps) rest))
goes_parts x c late (statement ms ∷ ps) o l =
    let rest : List Scope = begun_parts c ps l in let p : Found = judged o (breaks x c ms) (calls x ms) in
    ap (λ z. (checked_parts x (late || true) z ps).found.least) (goes x c ms o rest)
    ∙ (ap (λ t. (checked_parts x t (stands c p rest) ps).found.least) (or-true late)
    ∙ (goes_parts x c true ps p l
    ∙ sym (worse_append o.least (breaks x c ms) (parts_break x c true ps))))

-- ---- the whole script

-- what the walk over a script finds
unfoldable least_of : Context → Scope → List Scope → OutlineTree → Option Broken
least_of x r rs o = (checked_script x r rs o).found.least

goes_script : (ts : List TopTree) → let r : Scope = script_scope (outline_of ts).parts in least_of (context_of ts) r (scopes_within r (outline_of ts)) (outline_of ts) ≡ fold worse None (broken_rules ts)
unfolding least_of broken_rules
goes_script ts =
    let o : OutlineTree = outline_of ts in let r : Scope = script_scope o.parts in let c : List Scope = r ∷ [] in let x : Context = context_of ts in
    let rest : List Scope = begun_parts c o.parts [] in
    ap (λ z. (checked_parts x false z o.parts).found.least) (goes_functions x c o.functions nothing_found rest)
    ∙ (goes_parts x c false o.parts (judged nothing_found (functions_break x c o.functions) (functions_call x o.functions)) []
    ∙ sym (worse_append None (functions_break x c o.functions) (parts_break x c false o.parts)))

least_same : (x y : Context) (r s : Scope) (rs ss : List Scope) (o p : OutlineTree) → x ≡ y → r ≡ s → rs ≡ ss → o ≡ p → least_of x r rs o ≡ least_of y s ss p
least_same x y r s rs ss o p e f g h = cc

abbrev context_with : List Identifier → List Signature → Scope → Context
context_with ks fs r = record { constants = ks; functions = fs; variables = r.names }

context_same : (ks ls : List Identifier) (fs gs : List Signature) (r : Scope) → ks ≡ ls → fs ≡ gs → context_with ks fs r ≡ context_with ls gs r
context_same ks ls fs gs r p q = ap (λ z. context_with z fs r) p ∙ ap (λ z. context_with ls z r) q

abbrev context_in : List TopTree → Scope → Context
context_in ts r = context_with (constants_of [] ts) (signatures_of [] ts) r

-- r, the script's own scope; rs, those within it
found_answers : (ts : List TopTree) (o : OutlineTree) (r : Scope) (rs : List Scope) (b : Option Broken) → o ≡ outline_of ts → r ≡ script_scope o.parts → rs ≡ scopes_within (script_scope o.parts) o
    → b ≡ least_of (context_in ts r) r rs o → Judges ts b
found_answers ts o r rs b e f g h =
    let q : OutlineTree = outline_of ts in
    let own : r ≡ script_scope q.parts = f ∙ ap (λ z. script_scope z.parts) e in
    let inner : rs ≡ scopes_within (script_scope q.parts) q = g ∙ ap (λ z. scopes_within (script_scope z.parts) z) e in
    let whole : context_in ts r ≡ context_of ts = ap (context_in ts) own in
    worst_answers ts b (h ∙ (least_same (context_in ts r) (context_of ts) r (script_scope q.parts) rs (scopes_within (script_scope q.parts) q) o q whole own inner e ∙ goes_script ts))

pub answered : (ts : List TopTree) (o : OutlineTree) (all : List Scope) (r : Scope) (rs : List Scope) (ks : List Identifier) (fs : List Signature) (b : Option Broken) → o ≡ outline_of ts → all ≡ scopes_of o → all ≡ r ∷ rs
    → ks ≡ constants_of [] ts → fs ≡ signatures_of [] ts → b ≡ (checked_script (record { constants = ks; functions = fs; variables = r.names }) r rs o).found.least → Judges ts b
unfolding least_of
answered ts o all r rs ks fs b e f g k l h =
    let both : r ∷ rs ≡ script_scope o.parts ∷ scopes_within (script_scope o.parts) o = sym g ∙ f in
    let own : r ≡ script_scope o.parts = cc in
    let inner : rs ≡ scopes_within (script_scope o.parts) o = cc in
    found_answers ts o r rs b e own inner (h ∙ least_same (context_with ks fs r) (context_in ts r) r r rs rs o o (context_same ks (constants_of [] ts) fs (signatures_of [] ts) r k l) refl refl refl)
