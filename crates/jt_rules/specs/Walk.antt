-- What the walk over an outline does, step by step.
use Rattle.std.specs.Prelude.{ℕ, Bool, true, false, not, ◌||◌, List, [], ◌∷◌, Option, Some, None, if◌then◌else◌, fold, drop}
use Rattle.jt_syntax.specs.declared.script.Identifier.{Identifier}
use Rattle.jt_syntax.specs.Tree.{TopTree}
use Rattle.jt_outline.specs.declared.mark.ScopeKind.{ScopeKind}
use Rattle.jt_outline.specs.Marks.{MarkTree, Marks, no_marks, mark, scope, FunctionTree, PartTree, constant, statement, OutlineTree}
use Rattle.jt_scopes.specs.declared.scope.Scope.{Scope}
use Rattle.jt_scopes.specs.Scopes.{loop_kind}
use Rattle.jt_rules.specs.declared.found.Found.{Found}
use Rattle.jt_naming.specs.declared.rules.Broken.{Broken}
use Rattle.jt_naming.specs.declared.rules.Rule.{Rule}
use Rattle.jt_rules.specs.declared.walk.Walk.{Walk}
use Rattle.jt_naming.specs.Rules.{Context, broken, below, mark_breaks, is_call, constant_breaks, function_breaks}
use Rattle.jt_naming.specs.Scripts.{parameters_break, BreaksNone, Breaks}

-- ---- what was found

-- the least of what was broken before and of this
abbrev pub worse : Option Broken → Broken → Option Broken
worse None b = Some b
worse (Some a) b = if below b a then Some b else Some a

-- a rule, broken where the test says so
abbrev pub refusing : Bool → ℕ → Rule → Found → Found
refusing t at r o = record { least = if t then worse o.least (broken at r) else o.least; called = o.called }

-- what was found, and then what breaks these rules, and is a call or not
abbrev pub judged : Found → List Broken → Bool → Found
judged o bs b = record { least = fold worse o.least bs; called = b || o.called }

-- a scope begins: its macro word counts as a call, and only a loop has none
abbrev pub opened : ScopeKind → Found → Found
opened k o = record { least = o.least; called = not (loop_kind k) || o.called }

-- no call is found from here on
abbrev pub cleared : Found → Found
cleared o = record { least = o.least; called = false }

abbrev pub nothing_found : Found
nothing_found = record { least = None; called = false }

-- ---- where the walk stands

-- the scopes round it, what was found so far, and the scopes that begin later
pub record Stand : Type 0 where
  pub chain : List Scope
  pub found : Found
  pub ahead : List Scope

abbrev pub stand : Walk → Stand
stand w = record { chain = w.chain; found = w.found; ahead = w.ahead.now }

abbrev pub finds : Stand → Found → Stand
finds s o = record { chain = s.chain; found = o; ahead = s.ahead }

-- within one scope more
abbrev pub inside : Scope → Stand → Stand
inside r s = record { chain = r ∷ s.chain; found = s.found; ahead = s.ahead }

-- outside the innermost scope
abbrev pub left : Stand → Stand
left s = record { chain = drop 1 s.chain; found = s.found; ahead = s.ahead }

-- f in the next scope, with those round it
abbrev pub entered : (Stand → Stand) → Stand → Stand
entered f s = elim s.ahead as (λ _. Stand) [ [] ↦ s | r ∷ rs ↦ left (f (record { chain = r ∷ s.chain; found = s.found; ahead = rs })) ]

-- ---- the walk

abbrev mutual
  pub checked : Context → Stand → MarkTree → Stand
  checked x s (scope k at is body) = entered (λ t. checked_all x t body) (finds s (opened k s.found))
  checked x s m = finds s (judged s.found (mark_breaks x s.chain m) (is_call x m))

  pub checked_all : Context → Stand → Marks → Stand
  checked_all x s no_marks = s
  checked_all x s (mark m ms) = checked_all x (checked x s m) ms

-- what stands in the next scope
abbrev pub within : Context → Stand → Marks → Stand
within x s ms = entered (λ t. checked_all x t ms) s

-- a function's name and parameters
abbrev pub headed : Context → Found → Identifier → List Identifier → Found
headed x o i is = judged (judged o (function_breaks x i) false) (parameters_break [] is) false

abbrev pub checked_function : Context → Stand → FunctionTree → Stand
checked_function x s f = within x (finds s (headed x s.found f.name f.parameters)) f.body

abbrev pub checked_functions : Context → Stand → List FunctionTree → Stand
checked_functions x s [] = s
checked_functions x s (f ∷ fs) = checked_functions x (checked_function x s f) fs

abbrev pub is_statement : PartTree → Bool
is_statement (constant at i ms) = false
is_statement (statement ms) = true

-- a constant, where its expression is behind the walk
abbrev pub with_constant : Context → Bool → ℕ → Identifier → Stand → Stand
with_constant x late at i s = finds s (judged s.found (constant_breaks x i at (late || s.found.called)) false)

abbrev pub checked_part : Context → Bool → Stand → PartTree → Stand
checked_part x late s (constant at i ms) = with_constant x late at i (checked_all x (finds s (cleared s.found)) ms)
checked_part x late s (statement ms) = checked_all x s ms

abbrev pub checked_parts : Context → Bool → Stand → List PartTree → Stand
checked_parts x late s [] = s
checked_parts x late s (p ∷ ps) = checked_parts x (late || is_statement p) (checked_part x late s p) ps

abbrev pub checked_outline : Context → Stand → OutlineTree → Stand
checked_outline x s o = checked_parts x false (checked_functions x s o.functions) o.parts

-- the whole script, whose own scope is r, with those within it
abbrev pub checked_script : Context → Scope → List Scope → OutlineTree → Stand
checked_script x r rs o = checked_outline x (record { chain = r ∷ []; found = nothing_found; ahead = rs }) o

-- what is answered: the broken rule that counts, or that there is none
abbrev pub Judges : List TopTree → Option Broken → Type 0
Judges ts None = BreaksNone ts
Judges ts (Some b) = Breaks ts b
