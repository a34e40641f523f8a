-- The making of a task.
use Rattle.std.specs.Prelude.{suc, Bool, ◌+◌, List, [], ◌∷◌, ◌++◌, if◌then◌else◌, length}
use Rattle.jt_program.specs.Plan.{Plan, BodyPlan}
use Rattle.jt_program.specs.Plan as plan
use Rattle.jt_lowered.specs.Nodes.{body_of}
use Rattle.jt_scopes.specs.declared.scope.Scope.{Scope}
use Rattle.jt_scopes.specs.Awaited.{is_awaited, is_synced}
use Rattle.jt_bound.specs.Made.{WalkResult}
use Rattle.jt_bound.specs.Slots.{slots_of}
use Rattle.jt_bound.specs.declared.making.Making.{Making}

-- what is known of a task whose body has the scope r, and which is made in the scopes c
abbrev pub making_of : Scope → List Scope → Making
making_of r c = record {
  variables = length r.captures + length r.names;
  captured = slots_of c r.captures;
  is_awaited = is_awaited c;
  is_synced = is_synced c;
}

-- a task's body may itself be `@sync`
abbrev pub synced : Bool → Plan → Plan
synced b p = if b then plan.sync p else p

-- what a task does
abbrev pub task_body : Making → Plan → BodyPlan
task_body m p = body_of m.variables (synced m.is_synced p)

-- the making of a task, whose body gets the next number: the main task's is 0
abbrev pub spawned : Making → WalkResult (List BodyPlan) Plan → WalkResult (List BodyPlan) Plan
spawned m p = record { it = plan.spawn (suc (length p.state)) m.captured m.is_awaited; state = p.state ++ task_body m p.it ∷ [] }
