-- What a body assigns, and what a task's body takes from outside.
use Rattle.std.specs.Prelude.{ℕ, ◌+◌, not, List, [], ◌∷◌, if◌then◌else◌}
use Rattle.jt_syntax.specs.declared.script.Identifier.{Identifier}
use Rattle.jt_names.specs.Names.{Name, is_named, member, add, add_where, hidden}
use Rattle.jt_outline.specs.declared.mark.ScopeKind.TheVariants as kind
use Rattle.jt_outline.specs.Marks.{Marks, no_marks, mark, use_of, interpolation, assignment, scope, PartTree, constant, statement}

-- the names s, and those that are assigned directly there, each once: not in a loop and not in a task's
-- body. An `@sync` has no variables, so what it assigns is assigned there.
abbrev pub direct : List Identifier → Marks → List Identifier
direct s no_marks = s
direct s (mark (assignment i) ms) = direct (add s i) ms
direct s (mark (scope kind.Sync at is body) ms) = direct (direct s body) ms
direct s (mark _ ms) = direct s ms

-- those that the main task assigns directly
abbrev pub direct_parts : List Identifier → List PartTree → List Identifier
direct_parts s [] = s
direct_parts s (constant at i ms ∷ ps) = direct_parts (direct s ms) ps
direct_parts s (statement ms ∷ ps) = direct_parts (direct s ms) ps

-- how many of these identifiers have the name
abbrev pub occurrences : Name → List Identifier → ℕ
occurrences x [] = 0
occurrences x (i ∷ is) = (if is_named x i then 1 else 0) + occurrences x is

-- how often a name is assigned there, in loops too, but not where the name is a `for`'s variable, and not in a
-- task's body
abbrev pub times : Name → Marks → ℕ
times x no_marks = 0
times x (mark (assignment i) ms) = (if is_named x i then 1 else 0) + times x ms
times x (mark (scope kind.Loop at is body) ms) = (if member is x then 0 else times x body) + times x ms
times x (mark (scope kind.Sync at is body) ms) = times x body + times x ms
times x (mark _ ms) = times x ms

abbrev pub times_parts : Name → List PartTree → ℕ
times_parts x [] = 0
times_parts x (constant at i ms ∷ ps) = times x ms + times_parts x ps
times_parts x (statement ms ∷ ps) = times x ms + times_parts x ps

-- the use of a name, where these lists are of the names that are had there
abbrev pub used_name : List (List Identifier) → List Identifier → Identifier → List Identifier
used_name h s i = if hidden h i.name then s else add s i

-- what a body within takes is used where the body stands
abbrev pub passed_on : List (List Identifier) → List Identifier → List Identifier → List Identifier
passed_on h s is = add_where (λ x. not (hidden h x)) s is

-- the names s, and those that are used there and that none of the lists h has, each once, in the order of
-- the first use. A loop's body has its variable and what is assigned directly in it.
abbrev pub used : List (List Identifier) → List Identifier → Marks → List Identifier
used h s no_marks = s
used h s (mark (use_of i) ms) = used h (used_name h s i) ms
-- `$x` is always of the `x` outside
used h s (mark (interpolation at i) ms) = used h (add s i) ms
used h s (mark (scope kind.Loop at is body) ms) = used h (used (direct [] body ∷ is ∷ h) s body) ms
used h s (mark (scope kind.Sync at is body) ms) = used h (used h s body) ms
used h s (mark (scope kind.Task at is body) ms) = used h (passed_on h s (used (direct [] body ∷ []) [] body)) ms
used h s (mark _ ms) = used h s ms

-- what a task's body takes: the names that are used in it and that it hasn't itself
abbrev pub taken : Marks → List Identifier
taken body = used (direct [] body ∷ []) [] body
