-- A program as plain data: what a `Code` holds, without the boxes and vectors that hold it.
use Rattle.std.specs.Prelude.{ℕ, Bool, List}
use Rattle.jt_syntax.specs.declared.operator.ArithmeticOperator.{ArithmeticOperator}
use Rattle.jt_syntax.specs.declared.operator.ComparisonOperator.{ComparisonOperator}
use Rattle.jt_syntax.specs.declared.operator.Connective.{Connective}
use Rattle.jt_syntax.specs.declared.operator.UnaryOperator.{UnaryOperator}
use Rattle.jt_program.specs.declared.code.Callee.{Callee}
use Rattle.jt_program.specs.declared.code.Literal.{Literal}

mutual
  -- a part of what a task does; variables stand by slot, constants by number
  pub data Plan : Type 0 where
    literal : Literal → Plan
    variable : ℕ → Plan
    constant : ℕ → Plan
    assign : ℕ → Plan → Plan
    define : ℕ → Plan → Plan
    unary : UnaryOperator → Plan → Plan
    operation : Plan → Operands → Plan
    comparison : Plan → Comparisons → Plan
    connection : Connective → Plan → Plans → Plan
    branch : Choices → Plan → Plan
    block : Plans → Plan
    -- a loop's own variables are the slots from the first number on, as many as the second says
    while : ℕ → ℕ → Plan → Plan → Plan
    for : ℕ → ℕ → Plan → Plan → Plan → Plan
    call : Callee → Plans → Plan
    print : Pieces → Plan
    error : List ℕ → Plan
    -- a task: its body's number, the slots of the variables that it takes, and whether the `@sync`
    -- round it waits for the task
    spawn : ℕ → List ℕ → Bool → Plan
    sync : Plan → Plan
    return : Plan → Plan
    break : Plan
    continue : Plan

  pub data Plans : Type 0 where
    no_plans : Plans
    plan : Plan → Plans → Plans

  -- operands behind a first one, each with its operator
  pub data Operands : Type 0 where
    no_operands : Operands
    operand : ArithmeticOperator → Plan → Operands → Operands

  pub data Comparisons : Type 0 where
    no_comparisons : Comparisons
    compared : ComparisonOperator → Plan → Comparisons → Comparisons

  -- conditions, each with what is done where it is the first that holds
  pub data Choices : Type 0 where
    no_choices : Choices
    choice : Plan → Plan → Choices → Choices

  -- what `println` prints
  pub data Pieces : Type 0 where
    no_pieces : Pieces
    value_piece : Plan → Pieces → Pieces
    text_piece : List ℕ → Pieces → Pieces

-- a function or a task's body, and how many variables it has, those of its loops apart
pub record BodyPlan : Type 0 where
  pub variables : ℕ
  pub code : Plan

-- a script with its names bound; the main task's body stands first
pub record ProgramPlan : Type 0 where
  pub constants : ℕ
  pub functions : List BodyPlan
  pub tasks : List BodyPlan
