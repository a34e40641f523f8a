-- Trees as plain data: what a `Script` holds, without the boxes and vectors that hold it.
use Rattle.std.specs.Prelude.{ℕ, Bool, List, Option}
use Rattle.jt_syntax.specs.declared.operator.AssignmentOperator.{AssignmentOperator}
use Rattle.jt_syntax.specs.declared.operator.BinaryOperator.{BinaryOperator}
use Rattle.jt_syntax.specs.declared.operator.Class.{Class}
use Rattle.jt_syntax.specs.declared.operator.Connective.{Connective}
use Rattle.jt_syntax.specs.declared.operator.UnaryOperator.{UnaryOperator}
use Rattle.jt_syntax.specs.declared.script.Identifier.{Identifier}
use Rattle.jt_syntax.specs.declared.script.PoolName.{PoolName}
use Rattle.jt_syntax.specs.declared.script.Schedule.{Schedule}

mutual
  -- an expression, or a string among the items of `println`
  pub data Tree : Type 0 where
    text : List ℕ → Tree
    number : ℕ → Tree
    truth : Bool → Tree
    name : Identifier → Tree
    interpolation : ℕ → Identifier → Tree
    group : Tree → Tree
    call : Identifier → Trees → Tree
    println : Trees → Tree
    error : List ℕ → Tree
    unbuffered : Tree
    channel : Tree → Tree
    atomic : Tree → Tree
    least : Tree
    greatest : Tree
    random : Tree
    random_in : Tree → Tree → Tree
    notify : Tree → Bool → Tree
    read : Identifier → Tree
    power : Tree → Tree → Tree
    unary : UnaryOperator → Tree → Tree
    chain : Class → Tree → Terms → Tree
    conditional : Tree → Tree → Tree → Tree
    block : Steps → Tree
    branches : Tree → Steps → Arms → Tree
    while : Tree → Steps → Tree
    for_range : Identifier → Tree → Tree → Steps → Tree
    for_each : Identifier → Tree → Steps → Tree
    spawn : ℕ → Option PoolName → Tree → Tree
    async : ℕ → Tree → Tree
    sync : Tree → Tree
    threads : ℕ → Option Schedule → Identifier → Tree → Tree → Steps → Tree

  pub data Trees : Type 0 where
    no_trees : Trees
    tree : Tree → Trees → Trees

  -- the operands of a chain behind its first one, each with its operator
  pub data Terms : Type 0 where
    no_terms : Terms
    term : BinaryOperator → Tree → Terms → Terms

  -- what stands behind the first arm of an `if`
  pub data Arms : Type 0 where
    no_arms : Arms
    otherwise : Steps → Arms
    arm : Tree → Steps → Arms → Arms

  -- a jump
  pub data Leap : Type 0 where
    return_nothing : ℕ → Leap
    return_value : ℕ → Tree → Leap
    break_loop : ℕ → Leap
    continue_loop : ℕ → Leap

  -- a statement
  pub data Step : Type 0 where
    assign : Identifier → AssignmentOperator → Tree → Step
    store : Identifier → Tree → Step
    jump : Leap → Step
    guard : Connective → Tree → Terms → Leap → Step
    value : Tree → Step

  pub data Steps : Type 0 where
    no_steps : Steps
    step : Step → Steps → Steps

-- what stands between two separators of a script
pub data Form : Type 0 where
  using_threads : Form
  constant : Identifier → Tree → Form
  function : Identifier → List Identifier → Steps → Form
  short : Identifier → List Identifier → Tree → Form
  plain : Step → Form

-- with the place of its first token
abbrev pub TopTree : Type 0
TopTree = ℕ × Form
