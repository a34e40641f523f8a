-- How the scopes of a script are settled in one pass over its outline. A body is that of a function, of a
-- task or of the script, with its loops. It goes by how many scopes are open round it.
use Rattle.std.specs.Prelude.{ℕ, nat_lt, Bool, not, List, [], ◌∷◌, ◌++◌, length, map, drop, slice_set, if◌then◌else◌}
use Rattle.jt_syntax.specs.declared.script.Identifier.{Identifier}
use Rattle.jt_names.specs.Names.{Name, add, add_all, add_where}
use Rattle.jt_holders.specs.Holding.{innermost}
use Rattle.jt_outline.specs.declared.mark.ScopeKind.{ScopeKind}
use Rattle.jt_outline.specs.declared.mark.ScopeKind.TheVariants as kind
use Rattle.jt_outline.specs.Marks.{MarkTree, Marks, no_marks, mark, use_of, interpolation, assignment, scope, FunctionTree, PartTree, OutlineTree}
use Rattle.jt_scopes.specs.declared.scope.Scope.{Scope}
use Rattle.jt_settling.specs.declared.settling.Settling.{Settling}
use Rattle.jt_settling.specs.declared.settling.Open.{Open}
use Rattle.jt_scopes.specs.Bodies.{direct, direct_parts}
use Rattle.jt_settling.specs.Counting.{number, counted, cleared, restored, is_again}
use Rattle.jt_settling.specs.Parts.{part_marks}

-- some list has the name that stands further in than the outermost d
abbrev pub is_within : ℕ → List (List Identifier) → Name → Bool
is_within d h x = nat_lt d (innermost h x)

-- the names of a scope in the body b, where these lists are open
abbrev pub names_in : ℕ → List (List Identifier) → ScopeKind → List Identifier → Marks → List Identifier
names_in b h kind.Sync is body = []
names_in b h kind.Loop is body = add_where (λ x. not (is_within b h x)) (add_all [] is) (direct [] body)
names_in b h kind.Task is body = direct [] body
names_in b h _ is body = direct (add_all [] is) body

-- what is assigned where the scope begins
abbrev pub variables_of : ScopeKind → List Identifier → List Identifier
variables_of kind.Sync is = []
variables_of _ is = is

-- of what a body takes, the variables of the function or script round it, which goes by how many scopes
-- are open round it
abbrev pub captures_in : ℕ → List (List Identifier) → ScopeKind → List Identifier → List Identifier
captures_in t h kind.Task is = add_where (is_within t h) [] is
captures_in t h _ is = []

-- ---- steps

abbrev pub with_use : ℕ → Settling → Identifier → Settling
with_use b s i = if is_within b s.holders i.name then s else record s { taken = add s.taken i }

unfoldable pub with_uses : ℕ → Settling → List Identifier → Settling
with_uses b s is = record s { taken = add_where (λ x. not (is_within b s.holders x)) s.taken is }

abbrev pub with_assignment : ℕ → Settling → Identifier → Settling
with_assignment b s i = if is_within b s.holders i.name then record s { counts = counted s.counts i } else s

abbrev pub with_assignments : ℕ → Settling → List Identifier → Settling
with_assignments b s [] = s
with_assignments b s (i ∷ is) = with_assignments b (with_assignment b s i) is

-- the place of a scope that is open
abbrev pub empty_scope : Scope
empty_scope = record { kind = kind.Script; at = 0; names = []; again = []; captures = [] }

-- a scope with these names begins
abbrev pub opened : Settling → List Identifier → Settling
opened s ns = record s { holders = ns ∷ s.holders; counts = cleared s.counts ns; scopes = s.scopes ++ empty_scope ∷ [] }

-- what is kept of it until it ends
abbrev pub open_scope : Settling → ScopeKind → ℕ → List Identifier → Open
open_scope s k at ns = record { index = length s.scopes; scope = record { kind = k; at = at; names = ns; again = []; captures = [] }; numbers = map (λ (i : Identifier). number s.counts i.name) ns }

-- what is known of a scope that is to begin next
abbrev pub next_scope : Settling → ScopeKind → ℕ → Open
next_scope s k at = record { index = length s.scopes; scope = record { kind = k; at = at; names = []; again = []; captures = [] }; numbers = [] }

-- a scope with these names is left; the numbers are those before it
abbrev pub left : List Identifier → List ℕ → Settling → Settling
left is ns s = record s { holders = drop 1 s.holders; counts = restored s.counts is ns }

-- what is known of the scope when it ends in the state s
abbrev pub finished : ℕ → Settling → Scope → Scope
finished t s r = record r { again = add_where (is_again s.counts) [] r.names; captures = captures_in t (drop 1 s.holders) r.kind s.taken }

-- a scope takes its place
abbrev pub placed : ℕ → Scope → Settling → Settling
placed i r s = record s { scopes = slice_set s.scopes i r }

-- a scope ends
abbrev pub closed : ℕ → Open → Settling → Settling
closed t o s = placed o.index (finished t s o.scope) (left o.scope.names o.numbers s)

-- a scope in the body b begins, and its variables are assigned
abbrev pub begun_in : ℕ → ScopeKind → List Identifier → Marks → Settling → Settling
begun_in b k is body s = with_assignments b (opened s (names_in b s.holders k is body)) (variables_of k is)

-- it ends in the state w; it began in the state s
abbrev pub ended_in : ℕ → ℕ → ScopeKind → ℕ → List Identifier → Marks → Settling → Settling → Settling
ended_in b t k at is body s w = closed t (open_scope s k at (names_in b s.holders k is body)) w

-- nothing is taken yet
abbrev pub apart : Settling → Settling
apart s = record s { taken = [] }

-- what was taken in the state s is taken again
abbrev pub back : Settling → Settling → Settling
back s w = record w { taken = s.taken }

-- what the body within took is used where it stands
abbrev pub passed_on : ℕ → Settling → Settling → Settling
passed_on b s w = with_uses b (back s w) w.taken

-- ---- the pass

abbrev mutual
  -- over marks in the body b of the function or script t
  pub walked : ℕ → ℕ → Settling → Marks → Settling
  walked b t s no_marks = s
  walked b t s (mark m ms) = walked b t (walked_mark b t s m) ms

  pub walked_mark : ℕ → ℕ → Settling → MarkTree → Settling
  walked_mark b t s (use_of i) = with_use b s i
  walked_mark b t s (interpolation at i) = record s { taken = add s.taken i }
  walked_mark b t s (assignment i) = with_assignment b s i
  walked_mark b t s (scope kind.Loop at is body) = ended_in b t kind.Loop at is body s (walked b t (begun_in b kind.Loop is body s) body)
  walked_mark b t s (scope kind.Sync at is body) = ended_in b t kind.Sync at is body s (walked b t (begun_in b kind.Sync is body s) body)
  walked_mark b t s (scope kind.Task at is body) =
      passed_on b s (ended_in (length s.holders) t kind.Task at is body (apart s) (walked (length s.holders) t (begun_in (length s.holders) kind.Task is body (apart s)) body))
  walked_mark b t s (scope kind.Function at is body) =
      back s (ended_in (length s.holders) (length s.holders) kind.Function at is body (apart s) (walked (length s.holders) (length s.holders) (begun_in (length s.holders) kind.Function is body (apart s)) body))
  walked_mark b t s (scope kind.Script at is body) =
      back s (ended_in (length s.holders) t kind.Script at is body (apart s) (walked (length s.holders) t (begun_in (length s.holders) kind.Script is body (apart s)) body))
  walked_mark b t s _ = s

-- over a scope
abbrev pub walked_within : ℕ → ℕ → ScopeKind → ℕ → List Identifier → Marks → Settling → Settling
walked_within b t k at is body s = ended_in b t k at is body s (walked b t (begun_in b k is body s) body)

-- over a scope that is a body of its own
abbrev pub walked_apart : ℕ → ScopeKind → ℕ → List Identifier → Marks → Settling → Settling
walked_apart t k at is body s = back s (walked_within (length s.holders) t k at is body (apart s))

-- over a task's body: what it took is used where it stands
abbrev pub walked_task : ℕ → ℕ → ScopeKind → ℕ → List Identifier → Marks → Settling → Settling
walked_task b t k at is body s = passed_on b s (walked_within (length s.holders) t k at is body (apart s))

abbrev pub walked_functions : Settling → List FunctionTree → Settling
walked_functions s [] = s
walked_functions s (f ∷ fs) = walked_functions (walked_apart (length s.holders) kind.Function 0 f.parameters f.body s) fs

abbrev pub walked_parts : Settling → List PartTree → Settling
walked_parts s [] = s
walked_parts s (p ∷ ps) = walked_parts (walked 0 0 s (part_marks p)) ps

-- over what stands in the script's own scope
abbrev pub walked_body : Settling → OutlineTree → Settling
walked_body s o = walked_parts (walked_functions (opened s (direct_parts [] o.parts)) o.functions) o.parts

abbrev pub walked_script : Settling → OutlineTree → Settling
walked_script s o = closed 0 (open_scope s kind.Script 0 (direct_parts [] o.parts)) (walked_body s o)
