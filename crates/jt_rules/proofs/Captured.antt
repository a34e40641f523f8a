-- A task's body captures each name that it uses and hasn't itself, where a scope round it has the name.
use Rattle.std.proofs.Common.{◌≡◌, ℕ, Bool, true, false, not, ◌&&◌, ◌||◌, List, [], ◌∷◌, ◌++◌, refl, sym, ap, ◌∙◌, if◌then◌else◌}
use Rattle.std.proofs.Math.Bool.{or-true}
use Rattle.std.proofs.lemmas.Bool.{or_left}
use Rattle.jt_syntax.specs.declared.script.Identifier.{Identifier}
use Rattle.jt_names.specs.Names.{Name, is_named, member, add, add_all, add_where, hidden}
use Rattle.jt_outline.specs.declared.mark.ScopeKind.{ScopeKind}
use Rattle.jt_outline.specs.declared.mark.ScopeKind.TheVariants as kind
use Rattle.jt_outline.specs.Marks.{Marks, no_marks, mark, use_of, interpolation, assignment, call, print, macro, loop_jump, return_jump, scope}
use Rattle.jt_scopes.specs.Bodies.{direct, used, used_name, passed_on, taken}
use Rattle.jt_scopes.specs.Scopes.{had, text_has, captures_of, scope_of}
use Rattle.jt_scopes.specs.declared.scope.Scope.{Scope}
use Rattle.jt_scopes.proofs.Members.{named_itself, member_add, member_where, member_all}

added : (s : List Identifier) (i : Identifier) → member (add s i) i.name ≡ true
added s i = member_add s i i.name ∙ (ap (λ z. member s i.name || z) (named_itself i) ∙ or-true (member s i.name))

kept_add : (s : List Identifier) (i : Identifier) (n : Name) → member s n ≡ true → member (add s i) n ≡ true
kept_add s i n m = member_add s i n ∙ or_left (member s n) (is_named n i) m

-- ---- what is assigned and used stays so

name_grows : (h : List (List Identifier)) (s : List Identifier) (i : Identifier) (n : Name) → member s n ≡ true → member (used_name h s i) n ≡ true
name_grows h s i n m = step (hidden h i.name)
  where
    step : (t : Bool) → member (if t then s else add s i) n ≡ true
    step true = m
    step false = kept_add s i n m

passed_grows : (h : List (List Identifier)) (s is : List Identifier) (n : Name) → member s n ≡ true → member (passed_on h s is) n ≡ true
passed_grows h s is n m = member_where (λ x. not (hidden h x)) s is n ∙ or_left (member s n) (member is n && not (hidden h n)) m

pub grows : (h : List (List Identifier)) (s : List Identifier) (ms : Marks) (n : Name) → member s n ≡ true → member (used h s ms) n ≡ true
grows h s no_marks n m = m
grows h s (mark (use_of i) ms) n m = grows h (used_name h s i) ms n (name_grows h s i n m)
grows h s (mark (interpolation at i) ms) n m = grows h (add s i) ms n (kept_add s i n m)
grows h s (mark (scope kind.Loop at is body) ms) n m = let j : List (List Identifier) = direct [] body ∷ is ∷ h in grows h (used j s body) ms n (grows j s body n m)
grows h s (mark (scope kind.Sync at is body) ms) n m = grows h (used h s body) ms n (grows h s body n m)
grows h s (mark (scope kind.Task at is body) ms) n m = grows h (passed_on h s (taken body)) ms n (passed_grows h s (taken body) n m)
grows h s (mark (scope kind.Function at is body) ms) n m = grows h s ms n m
grows h s (mark (scope kind.Script at is body) ms) n m = grows h s ms n m
grows h s (mark (assignment i) ms) n m = grows h s ms n m
grows h s (mark (call i k) ms) n m = grows h s ms n m
grows h s (mark print ms) n m = grows h s ms n m
grows h s (mark macro ms) n m = grows h s ms n m
grows h s (mark (loop_jump at) ms) n m = grows h s ms n m
grows h s (mark (return_jump at) ms) n m = grows h s ms n m

-- ---- what the innermost task's body captures

abbrev pub TookIn : ScopeKind → Bool → Bool → Type 0 → Type 0
TookIn kind.Loop captures outer T = T
TookIn kind.Sync captures outer T = T
TookIn kind.Task captures outer T = outer ≡ true → captures ≡ true
TookIn kind.Function captures outer T = Unit {0}
TookIn kind.Script captures outer T = Unit {0}

-- the innermost task's body captures the name, if a scope round the body has it
abbrev pub Took : List Scope → Name → Type 0
Took [] n = Unit {0}
Took (r ∷ c) n = TookIn r.kind (member r.captures n) (text_has c n) (Took c n)

-- the body and its loops have the hidden names
abbrev pub Hides : List (List Identifier) → List Scope → Type 0
Hides h c = (n : Name) → hidden h n ≡ true → had c n ≡ true

-- each of the names is captured
abbrev pub AllTook : List Scope → List Identifier → Type 0
AllTook c s = (n : Name) → member s n ≡ true → Took c n

pub none_hides : (c : List Scope) → Hides [] c
none_hides c n e = absurd (cc)

pub loop_hides : (h : List (List Identifier)) (c : List Scope) (at : ℕ) (is : List Identifier) (body : Marks) → Hides h c → Hides (direct [] body ∷ is ∷ h) (scope_of c kind.Loop at is body ∷ c)
loop_hides h c at is body g n e = ap (λ z. z || had c n) (member_where (λ x. not (had c x)) (add_all [] is) (direct [] body) n ∙ ap (λ z. z || (member (direct [] body) n && not (had c n))) (member_all [] is n)) ∙ hides_step (member (direct [] body) n) (member is n) (hidden h n) (had c n) (g n) e
  where
    hides_step : (a v b d : Bool) → (b ≡ true → d ≡ true) → (a || (v || b)) ≡ true → ((v || (a && not d)) || d) ≡ true
    hides_step a true b d f e = refl
    hides_step true false b true f e = refl
    hides_step true false b false f e = refl
    hides_step false false b d f e = f e

pub sync_hides : (h : List (List Identifier)) (c : List Scope) (at : ℕ) (is : List Identifier) (body : Marks) → Hides h c → Hides h (scope_of c kind.Sync at is body ∷ c)
sync_hides h c at is body g n e = g n e

pub task_hides : (c : List Scope) (at : ℕ) (is : List Identifier) (body : Marks) → Hides (direct [] body ∷ []) (scope_of c kind.Task at is body ∷ c)
task_hides c at is body n e = e

pub name_took : (h : List (List Identifier)) (s : List Identifier) (c : List Scope) (i : Identifier) → Hides h c → AllTook c (used_name h s i) → had c i.name ≡ false → Took c i.name
name_took h s c i g q p = step (hidden h i.name) (g i.name) q
  where
    step : (t : Bool) → (t ≡ true → had c i.name ≡ true) → AllTook c (if t then s else add s i) → Took c i.name
    step true f r = let yes : had c i.name ≡ true = f refl in absurd (cc)
    step false f r = r i.name (added s i)

pub given_took : (s : List Identifier) (c : List Scope) (i : Identifier) → AllTook c (add s i) → Took c i.name
given_took s c i q = q i.name (added s i)

-- what a task's body captures is a variable of a scope round it, and is captured by the next body outwards
pub captures_outer : (c : List Scope) (body : Marks) (n : Name) → member (captures_of c kind.Task body) n ≡ true → text_has c n ≡ true
captures_outer c body n m = second (member (taken body) n) (text_has c n) (sym (member_where (text_has c) [] (taken body) n) ∙ m)
  where
    second : (a b : Bool) → (a && b) ≡ true → b ≡ true
    second true b p = p
    second false b p = absurd (cc)

pub captures_took : (h : List (List Identifier)) (s : List Identifier) (c : List Scope) (body : Marks) (n : Name) → Hides h c → AllTook c (passed_on h s (taken body)) → member (captures_of c kind.Task body) n ≡ true → had c n ≡ false → Took c n
captures_took h s c body n g q m p = q n (member_where (λ x. not (hidden h x)) s (taken body) n ∙ step (member s n) (member (taken body) n) (text_has c n) (hidden h n) (sym (member_where (text_has c) [] (taken body) n) ∙ m) (g n))
  where
    step : (a t x u : Bool) → (t && x) ≡ true → (u ≡ true → had c n ≡ true) → (a || (t && not u)) ≡ true
    step true t x u k f = refl
    step false true x false k f = refl
    step false true x true k f = let yes : had c n ≡ true = f refl in absurd (cc)
    step false false x u k f = absurd (cc)

pub body_took : (c : List Scope) (at : ℕ) (is : List Identifier) (body : Marks) → AllTook (scope_of c kind.Task at is body ∷ c) (taken body)
body_took c at is body n m x = member_where (text_has c) [] (taken body) n ∙ (ap (λ z. z && text_has c n) m ∙ x)
