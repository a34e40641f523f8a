-- What an evaluator finds at once, with no frame and no move.
use Rattle.std.specs.Prelude.{◌≡◌, List, Option, Some, None, Bool, not}
use Rattle.jt_base.specs.declared.operation.Reply.{Reply}
use Rattle.jt_base.specs.declared.value.Value.{Value}
use Rattle.jt_base.specs.declared.value.Value.TheVariants.{Flag}
use Rattle.jt_syntax.specs.declared.operator.Connective.{Connective}
use Rattle.jt_program.specs.Plan.{ProgramPlan}
use Rattle.jt_meaning.specs.State.{Gave, TaskPart}
use Rattle.jt_meaning.specs.Values.{differ}
use Rattle.jt_step.specs.Stack.{state_of}
use Rattle.jt_step.specs.Moves.{asking}
use Rattle.jt_step.specs.declared.evaluator.Evaluator.{Evaluator}

-- where this evaluator stands, a step gives a value and changes nothing
abbrev pub IsRead : Evaluator → (ProgramPlan → TaskPart) → Value → Type 0
IsRead m step v = (program : ProgramPlan) (rs : List Reply) → step program (state_of m rs) ≡ Gave v (state_of m rs)

-- a step that gives this value makes the other evaluator of this one, with the same frames and turns
pub record Did (m : Evaluator) (step : ProgramPlan → TaskPart) (v : Value) (m' : Evaluator) : Type 0 where
  pub same : (program : ProgramPlan) (rs : List Reply) → step program (state_of m rs) ≡ Gave v (state_of m' rs)
  pub frames : m'.frames.items ≡ m.frames.items
  pub turns : m'.turns ≡ m.turns

-- the truth value, if this is one
abbrev pub truth : Value → Option Bool
truth (Flag b) = Some b
truth v = None

-- whether the next operand is evaluated after this value; nothing after one that is no truth value
abbrev pub asks : Connective → Value → Option Bool
asks c (Flag b) = Some (not (differ b (asking c)))
asks c v = None
