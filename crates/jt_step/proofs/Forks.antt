-- A task is made.
use Rattle.std.proofs.Common.{◌≡◌, ℕ, List, [], ◌∷◌, ◌++◌, length, sym, ap, ◌∙◌, Option, Some, Bool, true}
use Rattle.std.specs.Prelude.{nat_lt}
use Rattle.jt_base.specs.declared.operation.Fault.TheVariants.{ForkTooDeep}
use Rattle.jt_base.specs.Names.{most_indexes}
use Rattle.jt_program.specs.Plan.{BodyPlan, ProgramPlan}
use Rattle.jt_step.specs.declared.evaluator.Evaluator.{Evaluator}
use Rattle.jt_step.specs.declared.mode.Mode.{Mode}
use Rattle.jt_meaning.specs.declared.start.Start.{Start}
use Rattle.jt_meaning.specs.State.{State, Faulted}
use Rattle.jt_meaning.specs.Meaning.{child_start, either, fork, fork_with, values_known, values_taken}
use Rattle.jt_step.specs.Moves.{Does}
use Rattle.jt_step.specs.Stack.{resume, state_of}

-- its start, in the state of its maker
abbrev start_in : State → ℕ → List ℕ → Option Start
start_in s body slots = child_start body s.stream (values_taken [] s.variables slots) (values_known [] s.constants)

forked : (s : State) (path : List ℕ) (b : BodyPlan) (body : ℕ) (slots : List ℕ) (awaits : Bool) → path ≡ s.path ++ s.spawned ∷ [] → nat_lt (length s.path) most_indexes ≡ true → fork_with path awaits (start_in s body slots) s ≡ fork (Some b) body slots awaits s
forked s path b body slots awaits e lt =
    ap (λ p. fork_with p awaits (start_in s body slots) s) e
    ∙ ap (λ x. either x (fork_with (s.path ++ s.spawned ∷ []) awaits (start_in s body slots)) (Faulted ForkTooDeep) s) (sym lt)

module _ (program : ProgramPlan) where
  pub forks : (m m' : Evaluator) (md : Mode) (path : List ℕ) (o : Option BodyPlan) (b : BodyPlan) (body : ℕ) (slots : List ℕ) (awaits : Bool) → o ≡ Some b → path ≡ m.path ++ m.spawned ∷ [] → nat_lt (length m.path) most_indexes ≡ true → Does program m (fork_with path awaits (child_start body m.stream (values_taken [] m.variables slots) (values_known [] m.constants))) 2 m' md → Does program m (fork o body slots awaits) 2 m' md
  forks m m' md path o b body slots awaits is e lt h = rw is (record {
    same = λ rs. h.same rs ∙ ap (resume program m.frames.items) (forked (state_of m rs) path b body slots awaits e lt);
    less = h.less;
    turns = h.turns;
  })
