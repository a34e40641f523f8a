-- In a script that breaks no rule each use is of a variable with a slot, of a constant, or of `nothing`; so
-- is each `$x`, and what a body captures has a slot where the body stands.
use Rattle.std.proofs.Common.{◌≡◌, ℕ, Bool, true, false, not, ◌&&◌, ◌||◌, List, [], ◌∷◌, ◌++◌, Option, Some, None, refl, sym, ap, ◌∙◌, subst, if◌then◌else◌, arith}
use Rattle.jt_syntax.specs.Tree.{TopTree}
use Rattle.jt_syntax.specs.declared.script.Identifier.{Identifier}
use Rattle.jt_names.specs.Names.{Name, member, add, is_nothing}
use Rattle.jt_outline.specs.declared.mark.ScopeKind.{ScopeKind}
use Rattle.jt_outline.specs.declared.mark.ScopeKind.TheVariants as kind
use Rattle.jt_outline.specs.Marks.{Marks, no_marks, mark, use_of, interpolation, assignment, call, print, macro, loop_jump, return_jump, scope, FunctionTree, PartTree, constant, statement}
use Rattle.jt_outline.specs.Outlines.{outline_of}
use Rattle.jt_scopes.specs.Bodies.{direct, used, used_name, passed_on, taken}
use Rattle.jt_scopes.specs.Scopes.{function_kind, script_kind, task_kind, inner_kind, is_script, had, known, text_has, captures_of, scope_of, function_scope, script_scope}
use Rattle.jt_scopes.specs.declared.scope.Scope.{Scope}
use Rattle.jt_scopes.specs.Tests.{crosses, leaves_function, outside}
use Rattle.jt_rules.specs.Meant.{UseIsMeant, InterpolationIsMeant, CapturesAreThere, AreMeant, FunctionsAreMeant, PartsAreMeant, NamesAreMeant}
use Rattle.jt_naming.specs.Rules.{Context, when, breaks, mark_breaks, use_breaks, interpolation_breaks, calls, constant_breaks, function_breaks}
use Rattle.jt_naming.specs.Scripts.{context_of, broken_rules, BreaksNone, parameters_break, functions_break, parts_break}
use Rattle.jt_naming.specs.declared.rules.Broken.{Broken}
use Rattle.jt_naming.specs.declared.rules.Rule.TheVariants as rule
use Rattle.jt_rules.proofs.Captured.{Took, TookIn, Hides, AllTook, grows, none_hides, loop_hides, sync_hides, task_hides, name_took, given_took, captures_outer, captures_took, body_took}
use Rattle.jt_rules.proofs.Slotted.{took, binds, captured_some, slot_binds}

-- no scope stands round that of the script
abbrev Closed : List Scope → Type 0
Closed [] = Unit {0}
Closed (r ∷ c) = (is_script r ≡ true → c ≡ []) × Closed c

-- ---- a known name without a slot is one outside the function

-- one scope further out: t, it has the name; tx, kn and lv, what the scopes further out have, know and
-- leave
far_step : (k : ScopeKind) (t tx kn lv : Bool) → (t || (not (function_kind k) && tx)) ≡ false → (t || kn) ≡ true → (tx ≡ false → kn ≡ true → lv ≡ true) → (not t && ((function_kind k && kn) || lv)) ≡ true
far_step k t tx kn lv p q next = grind arith

-- a known name that no scope of the same function has is one outside it
far : (c : List Scope) (n : Name) → text_has c n ≡ false → known c n ≡ true → leaves_function c n ≡ true
far [] n p q = absurd (cc)
far (r ∷ c) n p q = far_step r.kind (member r.names n) (text_has c n) (known c n) (leaves_function c n) p q (λ a b. far c n a b)

-- mc, the scope captures the name; bn, the scopes further out bind it; T, the body further out captures it
leaves_step : (k : ScopeKind) (t mc bn tx kn hd lv : Bool) (T : Type 0) → (t || (if inner_kind k then bn else mc)) ≡ false → (t || kn) ≡ true
    → ((t || (inner_kind k && hd)) ≡ false → TookIn k mc tx T) → (script_kind k ≡ true → kn ≡ false)
    → (tx ≡ false → kn ≡ true → lv ≡ true) → (bn ≡ false → kn ≡ true → (hd ≡ false → T) → lv ≡ true) → (not t && ((function_kind k && kn) || lv)) ≡ true
leaves_step k true mc bn tx kn hd lv T p q c h outer next = absurd (cc)
leaves_step kind.Loop false mc bn tx kn hd lv T p q c h outer next = next p q c
leaves_step kind.Sync false mc bn tx kn hd lv T p q c h outer next = next p q c
leaves_step kind.Function false mc bn tx true hd lv T p q c h outer next = refl
leaves_step kind.Function false mc bn tx false hd lv T p q c h outer next = absurd (cc)
leaves_step kind.Script false mc bn tx kn hd lv T p q c h outer next = let none : kn ≡ false = h refl in absurd (cc)
leaves_step kind.Task false true bn tx kn hd lv T p q c h outer next = absurd (cc)
leaves_step kind.Task false false bn true kn hd lv T p q c h outer next = let yes : false ≡ true = c refl refl in absurd (cc)
leaves_step kind.Task false false bn false kn hd lv T p q c h outer next = outer refl q

leaves : (c : List Scope) → Closed c → (n : Name) → (had c n ≡ false → Took c n) → binds c n ≡ false → known c n ≡ true → leaves_function c n ≡ true
leaves [] h n k p q = absurd (cc)
leaves (r ∷ c) h n k p q = leaves_step r.kind (member r.names n) (member r.captures n) (binds c n) (text_has c n) (known c n) (had c n) (leaves_function c n) (Took c n) p q k (λ e. ap (λ d. known d n) (h.0 e)) (λ a b. far c n a b) (λ a b d. leaves c h.1 n d a b)

-- the scopes outside a task's body that didn't capture the name don't have it
unseen_step : (k : ScopeKind) (mc cn tx : Bool) (T : Type 0) (c d : List Scope) (o : Option (List Scope)) (n : Name) → (if task_kind k then Some c else (if inner_kind k then o else None)) ≡ Some d
    → (if inner_kind k then cn else mc) ≡ false → TookIn k mc tx T → text_has c n ≡ tx → (o ≡ Some d → cn ≡ false → T → text_has d n ≡ false) → text_has d n ≡ false
unseen_step kind.Loop mc cn tx T c d o n e p t x next = next e p t
unseen_step kind.Sync mc cn tx T c d o n e p t x next = next e p t
unseen_step kind.Function mc cn tx T c d o n e p t x next = absurd (cc)
unseen_step kind.Script mc cn tx T c d o n e p t x next = absurd (cc)
unseen_step kind.Task true cn tx T c d o n e p t x next = absurd (cc)
unseen_step kind.Task false cn true T c d o n e p t x next = let yes : false ≡ true = t refl in absurd (cc)
unseen_step kind.Task false cn false T c d o n e p t x next = let same : c ≡ d = cc in subst (λ z. text_has z n ≡ false) same x

unseen : (c d : List Scope) (n : Name) → outside c ≡ Some d → took c n ≡ false → Took c n → text_has d n ≡ false
unseen [] d n e p t = absurd (cc)
unseen (r ∷ c) d n e p t = unseen_step r.kind (member r.captures n) (took c n) (text_has c n) (Took c n) c d (outside c) n e p t refl (λ a b f. unseen c d n a b f)

-- a variable of a scope round it in the same function is bound
bound_step : (k : ScopeKind) (t mc bn tx hd : Bool) (T : Type 0) → (t || (not (function_kind k) && tx)) ≡ true → ((t || (inner_kind k && hd)) ≡ false → TookIn k mc tx T) → (script_kind k ≡ true → tx ≡ false)
    → (tx ≡ true → (hd ≡ false → T) → bn ≡ true) → (t || (if inner_kind k then bn else mc)) ≡ true
bound_step k true mc bn tx hd T p c h next = refl
bound_step kind.Loop false mc bn tx hd T p c h next = next p c
bound_step kind.Sync false mc bn tx hd T p c h next = next p c
bound_step kind.Function false mc bn tx hd T p c h next = absurd (cc)
bound_step kind.Script false mc bn tx hd T p c h next = let none : tx ≡ false = h refl in absurd (cc)
bound_step kind.Task false mc bn tx hd T p c h next = c refl p

bound : (c : List Scope) → Closed c → (n : Name) → text_has c n ≡ true → (had c n ≡ false → Took c n) → binds c n ≡ true
bound [] h n p k = absurd (cc)
bound (r ∷ c) h n p k = bound_step r.kind (member r.names n) (member r.captures n) (binds c n) (text_has c n) (had c n) (Took c n) p k (λ e. ap (λ d. text_has d n) (h.0 e)) (λ a b. bound c h.1 n a b)

-- ---- a use that breaks no rule

use_step : (at : ℕ) (kn mc no cr lv : Bool) → (when (not (kn || (mc || no))) at rule.UnknownName ++ (when cr at rule.CapturedAssigned ++ when lv at rule.NoConstant)) ≡ [] → (kn ≡ true → lv ≡ true) → mc ≡ false → no ≡ true
use_step at kn mc true cr lv e next q = refl
use_step at kn true false cr lv e next q = absurd (cc)
use_step at true false false true lv e next q = absurd (cc)
use_step at true false false false true e next q = absurd (cc)
use_step at true false false false false e next q = let left : false ≡ true = next refl in absurd (cc)
use_step at false false false cr lv e next q = absurd (cc)

known_meant : (x : Context) (i : Identifier) (c : List Scope) → use_breaks x i c ≡ [] → (known c i.name ≡ true → leaves_function c i.name ≡ true) → member x.constants i.name ≡ false → is_nothing i.name ≡ true
known_meant x i c e next q = use_step i.at (known c i.name) (member x.constants i.name) (is_nothing i.name) (crosses c i.name) (leaves_function c i.name) e next q

use_meant : (x : Context) (c : List Scope) → Closed c → (i : Identifier) → (had c i.name ≡ false → Took c i.name) → use_breaks x i c ≡ [] → UseIsMeant x c i.name
use_meant x c k i t e = λ p q. known_meant x i c e (λ kn. leaves c k i.name t (sym (slot_binds c i.name) ∙ p) kn) q

given_meant : (x : Context) (at : ℕ) (i : Identifier) (c : List Scope) (o : Option (List Scope)) → outside c ≡ o → Took c i.name → interpolation_breaks x at i o ≡ [] → took c i.name ≡ false → member x.constants i.name ≡ false → is_nothing i.name ≡ true
given_meant x at i c None f t e p q = absurd (cc)
given_meant x at i c (Some d) f t e p q = known_meant x i d e (λ kn. far d i.name (unseen c d i.name f p t) kn) q

interpolation_meant : (x : Context) (c : List Scope) (at : ℕ) (i : Identifier) → Took c i.name → interpolation_breaks x at i (outside c) ≡ [] → InterpolationIsMeant x c i.name
interpolation_meant x c at i t e = λ p q. given_meant x at i c (outside c) refl t e (sym (captured_some c i.name) ∙ p) q

captures_there : (h : List (List Identifier)) (s : List Identifier) (c : List Scope) (body : Marks) → Closed c → Hides h c → AllTook c (passed_on h s (taken body)) → CapturesAreThere (captures_of c kind.Task body) c
captures_there h s c body k g q n m = slot_binds c n ∙ bound c k n (captures_outer c body n m) (captures_took h s c body n g q m)

none_there : (c : List Scope) → CapturesAreThere [] c
none_there c n m = absurd (cc)

-- ---- marks

first_none : (bs cs : List Broken) → bs ++ cs ≡ [] → bs ≡ []
first_none [] cs e = refl
first_none (b ∷ bs) cs e = absurd (cc)

second_none : (bs cs : List Broken) → bs ++ cs ≡ [] → cs ≡ []
second_none [] cs e = e
second_none (b ∷ bs) cs e = absurd (cc)

-- h, the names that the task's body and its loops have; s, what was used before
meant : (x : Context) (c : List Scope) → Closed c → (h : List (List Identifier)) (s : List Identifier) → Hides h c → (ms : Marks) → AllTook c (used h s ms) → breaks x c ms ≡ [] → AreMeant x c ms
meant x c k h s g no_marks q e = tt
meant x c k h s g (mark (use_of i) ms) q e = (
  use_meant x c k i (name_took h s c i g (λ n m. q n (grows h (used_name h s i) ms n m))) (first_none (use_breaks x i c) (breaks x c ms) e),
  meant x c k h (used_name h s i) g ms q (second_none (use_breaks x i c) (breaks x c ms) e),
)
meant x c k h s g (mark (interpolation at i) ms) q e = let t : List Identifier = add s i in let bs : List Broken = interpolation_breaks x at i (outside c) in (
  interpolation_meant x c at i (given_took s c i (λ n m. q n (grows h t ms n m))) (first_none bs (breaks x c ms) e),
  meant x c k h t g ms q (second_none bs (breaks x c ms) e),
)
meant x c k h s g (mark (assignment i) ms) q e = (tt, meant x c k h s g ms q (second_none (mark_breaks x c (assignment i)) (breaks x c ms) e))
meant x c k h s g (mark (call i n) ms) q e = (tt, meant x c k h s g ms q (second_none (mark_breaks x c (call i n)) (breaks x c ms) e))
meant x c k h s g (mark print ms) q e = (tt, meant x c k h s g ms q e)
meant x c k h s g (mark macro ms) q e = (tt, meant x c k h s g ms q e)
meant x c k h s g (mark (loop_jump at) ms) q e = (tt, meant x c k h s g ms q (second_none (mark_breaks x c (loop_jump at)) (breaks x c ms) e))
meant x c k h s g (mark (return_jump at) ms) q e = (tt, meant x c k h s g ms q (second_none (mark_breaks x c (return_jump at)) (breaks x c ms) e))
meant x c k h s g (mark (scope kind.Loop at is body) ms) q e =
    let d : List Scope = scope_of c kind.Loop at is body ∷ c in let j : List (List Identifier) = direct [] body ∷ is ∷ h in let t : List Identifier = used j s body in (
      (none_there c, meant x d ((λ r. absurd (cc)), k) j s (loop_hides h c at is body g) body (λ n m. q n (grows h t ms n m)) (first_none (breaks x d body) (breaks x c ms) e)),
      meant x c k h t g ms q (second_none (breaks x d body) (breaks x c ms) e),
    )
meant x c k h s g (mark (scope kind.Sync at is body) ms) q e =
    let d : List Scope = scope_of c kind.Sync at is body ∷ c in let t : List Identifier = used h s body in (
      (none_there c, meant x d ((λ r. absurd (cc)), k) h s (sync_hides h c at is body g) body (λ n m. q n (grows h t ms n m)) (first_none (breaks x d body) (breaks x c ms) e)),
      meant x c k h t g ms q (second_none (breaks x d body) (breaks x c ms) e),
    )
meant x c k h s g (mark (scope kind.Task at is body) ms) q e =
    let d : List Scope = scope_of c kind.Task at is body ∷ c in let t : List Identifier = passed_on h s (taken body) in (
      (captures_there h s c body k g (λ n m. q n (grows h t ms n m)), meant x d ((λ r. absurd (cc)), k) (direct [] body ∷ []) [] (task_hides c at is body) body (body_took c at is body) (first_none (breaks x d body) (breaks x c ms) e)),
      meant x c k h t g ms q (second_none (breaks x d body) (breaks x c ms) e),
    )
meant x c k h s g (mark (scope kind.Function at is body) ms) q e =
    let d : List Scope = scope_of c kind.Function at is body ∷ c in (
      (none_there c, meant x d ((λ r. absurd (cc)), k) [] [] (none_hides d) body (λ n m. tt) (first_none (breaks x d body) (breaks x c ms) e)),
      meant x c k h s g ms q (second_none (breaks x d body) (breaks x c ms) e),
    )
meant x c k h s g (mark (scope kind.Script at is body) ms) q e =
    (tt, meant x c k h s g ms q (second_none (mark_breaks x c (scope kind.Script at is body)) (breaks x c ms) e))

-- ---- the whole script. Outside tasks' bodies nothing is captured.

functions_meant : (x : Context) (c : List Scope) → Closed c → (fs : List FunctionTree) → functions_break x c fs ≡ [] → FunctionsAreMeant x c fs
functions_meant x c k [] e = tt
functions_meant x c k (f ∷ fs) e =
    let d : List Scope = function_scope c f ∷ c in let bs : List Broken = breaks x d f.body in let cs : List Broken = functions_break x c fs in
    let rest : bs ++ cs ≡ [] = second_none (parameters_break [] f.parameters) (bs ++ cs) (second_none (function_breaks x f.name) (parameters_break [] f.parameters ++ (bs ++ cs)) e) in
    (meant x d ((λ r. absurd (cc)), k) [] [] (none_hides d) f.body (λ n m. tt) (first_none bs cs rest), functions_meant x c k fs (second_none bs cs rest))

parts_meant : (x : Context) (c : List Scope) → Closed c → ((n : Name) → Took c n) → (late : Bool) (ps : List PartTree) → parts_break x c late ps ≡ [] → PartsAreMeant x c ps
parts_meant x c k q late [] e = tt
parts_meant x c k q late (constant at i ms ∷ ps) e =
    let bs : List Broken = breaks x c ms in let cs : List Broken = constant_breaks x i at (late || calls x ms) in let rest : List Broken = parts_break x c late ps in
    (meant x c k [] [] (none_hides c) ms (λ n m. q n) (first_none bs (cs ++ rest) e), parts_meant x c k q late ps (second_none cs rest (second_none bs (cs ++ rest) e)))
parts_meant x c k q late (statement ms ∷ ps) e =
    let bs : List Broken = breaks x c ms in let rest : List Broken = parts_break x c true ps in
    (meant x c k [] [] (none_hides c) ms (λ n m. q n) (first_none bs rest e), parts_meant x c k q true ps (second_none bs rest e))

pub names_meant : (ts : List TopTree) → BreaksNone ts → NamesAreMeant ts
unfolding broken_rules
names_meant ts e =
    let x : Context = context_of ts in let c : List Scope = script_scope (outline_of ts).parts ∷ [] in
    let fs : List FunctionTree = (outline_of ts).functions in let ps : List PartTree = (outline_of ts).parts in
    let fb : List Broken = functions_break x c fs in let pb : List Broken = parts_break x c false ps in
    (functions_meant x c ((λ r. refl), tt) fs (first_none fb pb e), parts_meant x c ((λ r. refl), tt) (λ n. tt) false ps (second_none fb pb e))
