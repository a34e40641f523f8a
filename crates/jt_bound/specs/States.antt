-- Where a walk over a script stands.
use Rattle.std.specs.Prelude.{ℕ, List, [], ◌∷◌, drop, length}
use Rattle.jt_outline.specs.declared.mark.ScopeKind.TheVariants as kind
use Rattle.jt_program.specs.Plan.{Plan, BodyPlan}
use Rattle.jt_lowered.specs.Loops.{TurnPlan, turn_of}
use Rattle.jt_lowered.specs.Nodes.{body_of}
use Rattle.jt_scopes.specs.declared.scope.Scope.{Scope}
use Rattle.jt_scopes.specs.Slots.{first}
use Rattle.jt_bound.specs.Made.{WalkResult, made, with}
use Rattle.jt_bound.specs.Making.{making_of, spawned}
use Rattle.jt_bound.specs.declared.making.Making.{Making}

pub record WalkState : Type 0 where
  -- the scopes round the place, the innermost one first
  pub chain : List Scope
  -- the bodies of the tasks before it
  pub bodies : List BodyPlan
  -- the scopes that are still to begin, in the order in which they do
  pub coming : List Scope

abbrev pub standing : List Scope → List Scope → List BodyPlan → WalkState
standing c l s = record { chain = c; bodies = s; coming = l }

abbrev pub entered_by : WalkState → List Scope → WalkState
entered_by s [] = s
entered_by s (r ∷ l) = standing (r ∷ s.chain) l s.bodies

-- the next scope begins
abbrev pub entered : WalkState → WalkState
entered s = entered_by s s.coming

-- the innermost scope ends
abbrev pub left : WalkState → WalkState
left s = standing (drop 1 s.chain) s.coming s.bodies

-- what is made in a scope that ends behind it
abbrev pub within : {A : Type 0} → WalkResult WalkState A → WalkResult WalkState A
within m = made m.it (left m.state)

-- ---- of the scope that begins next; one with no names serves where none does

abbrev pub next_of : List Scope → Scope
next_of [] = record { kind = kind.Function; at = 0; names = []; again = []; captures = [] }
next_of (r ∷ l) = r

abbrev pub next : WalkState → Scope
next s = next_of s.coming

-- how many variables it has
abbrev pub count : WalkState → ℕ
count s = length (next s).names

-- the slot of its first variable
abbrev pub start : WalkState → ℕ
start s = first (next s) s.chain

-- what is known of a task whose body has it
abbrev pub making : WalkState → Making
making s = making_of (next s) s.chain

-- ---- what is made in it

-- a loop's body that was made in the scope that began at the state s
abbrev pub turned : WalkState → WalkResult WalkState Plan → WalkResult WalkState TurnPlan
turned s m = with (turn_of (start s) (count s)) (within m)

-- a task whose body was made
abbrev pub forked_by : WalkResult (List BodyPlan) Plan → WalkState → WalkResult WalkState Plan
forked_by m s = made m.it (standing s.chain s.coming m.state)

abbrev pub forked : Making → WalkResult WalkState Plan → WalkResult WalkState Plan
forked m p = forked_by (spawned m (made p.it p.state.bodies)) p.state

-- a task whose body was made in the scope that began at the state s
abbrev pub tasked : WalkState → WalkResult WalkState Plan → WalkResult WalkState Plan
tasked s m = forked (making s) (within m)

-- a function's body that was made in the scope that began at the state s
abbrev pub bodied : WalkState → WalkResult WalkState Plan → WalkResult WalkState BodyPlan
bodied s m = with (body_of (count s)) (within m)
