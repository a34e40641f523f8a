-- What single moves of an evaluator come to.
use Rattle.std.specs.Prelude.{◌≡◌, ℕ, ◌+◌, ◌<◌, List, [], ◌∷◌, Option, Some, None, Ok, Err, Bool, true, false, int_le}
use denote.Bor.{Bor}
use Rattle.jt_base.specs.declared.value.Value.{Value}
use Rattle.jt_base.specs.declared.value.Value.TheVariants.{Int, Flag, Nothing, Task, Object}
use Rattle.jt_base.specs.declared.operation.Fault.{Fault}
use Rattle.jt_base.specs.declared.operation.Op.TheVariants as op
use Rattle.jt_program.specs.declared.code.BuiltIn.{BuiltIn}
use Rattle.jt_program.specs.declared.code.BuiltIn.TheVariants as built_in
use Rattle.jt_base.specs.declared.operation.Fault.TheVariants.{Method, Undefined}
use Rattle.jt_syntax.specs.declared.operator.Connective.{Connective}
use Rattle.jt_syntax.specs.declared.operator.Connective.TheVariants as connective
use Rattle.jt_program.specs.declared.code.Code.{Code}
use Rattle.jt_base.specs.declared.operation.Reply.{Reply}
use Rattle.jt_program.specs.declared.code.Piece.{Piece}
use Rattle.jt_program.specs.Plan.{BodyPlan, ProgramPlan, Pieces}
use Rattle.jt_program.specs.Plan as plan
use Rattle.jt_program.specs.View.{plan_of}
use Rattle.jt_meaning.specs.State.{TaskPart}
use Rattle.jt_meaning.specs.Values.{Valued, applied}
use Rattle.jt_step.specs.declared.frame.Exit.{Exit}
use Rattle.jt_step.specs.declared.frame.Exit.TheVariants as exit
use Rattle.jt_step.specs.Stack.{at, pieces_in, resume, state_of, work, frames_weight}
use Rattle.jt_step.specs.declared.frame.Loop.{Loop}
use Rattle.jt_step.specs.declared.frame.Loop.TheVariants as loop
use Rattle.jt_step.specs.declared.evaluator.Evaluator.{Evaluator}
use Rattle.jt_step.specs.declared.mode.Mode.{Mode}
use Rattle.jt_step.specs.declared.mode.Mode.TheVariants as mode

-- what is read where this stands
abbrev pub known_mode : Option (Option Value) → Mode
known_mode (Some (Some v)) = mode.Gave v
known_mode (Some None) = mode.Faulted Undefined
known_mode None = mode.Faulted Undefined

-- a value, or a fault
abbrev pub valued_mode : Valued → Mode
valued_mode (Ok v) = mode.Gave v
valued_mode (Err f) = mode.Faulted f

-- the truth value that asks for the next operand
abbrev pub asking : Connective → Bool
asking connective.And = true
asking connective.Or = false

-- before a loop's turn, or at its end
abbrev pub turn_mode : Value → Loop → Mode
turn_mode (Flag true) l = mode.Again l
turn_mode (Flag false) l = mode.Gave Nothing
turn_mode (Int n) l = mode.Faulted Method
turn_mode Nothing l = mode.Faulted Method
turn_mode (Task path) l = mode.Faulted Method
turn_mode (Object kind name) l = mode.Faulted Method

-- before the turn of a loop from one number to another, or at its end
abbrev pub range_mode : Bool → Loop → Mode
range_mode true l = mode.Again l
range_mode false l = mode.Gave Nothing

abbrev pub bounds_mode : ℕ → ℕ → Bor Code → Value → Value → Mode
bounds_mode first count body (Int low) (Int high) = range_mode (int_le low high) (loop.Range first count body low high)
bounds_mode first count body v w = mode.Faulted Method

-- the items of a `println` from a value on, or none
abbrev pub from_value : Option (Bor Code × Bor (List Piece)) → Pieces
from_value None = plan.no_pieces
from_value (Some p) = plan.value_piece (plan_of p.0.now) (pieces_in p.1.now)

-- a call of a function of the language
abbrev pub built_in_mode : BuiltIn → List Value → Mode
built_in_mode built_in.Fetch (Task path ∷ []) = mode.Waits (op.Fetch path) None
built_in_mode built_in.Wait (Task path ∷ []) = mode.Waits (op.Wait path) None
built_in_mode built_in.Yield [] = mode.Waits op.Yield None
built_in_mode f vs = valued_mode (applied f vs)

-- how the part of an `@sync` ends once its tasks were waited for
abbrev pub left_mode : Exit → Value → Option Fault → Mode
left_mode x v (Some f) = mode.Faulted f
left_mode exit.Value v None = mode.Gave v
left_mode exit.Return v None = mode.Returned v

-- one evaluator does this in the place of the other, with less work than so much and its frames
pub record Does (program : ProgramPlan) (m : Evaluator) (step : TaskPart) (most : ℕ) (m' : Evaluator) (md : Mode) : Type 0 where
  pub same : (rs : List Reply) → at program m' md rs ≡ resume program m.frames.items (step (state_of m rs))
  pub less : work m' md < most + frames_weight m.frames.items
  pub turns : m'.turns ≡ m.turns
