-- What stands in a script as far as names go, as plain data: scopes within scopes, and in each what is
-- used, assigned, called and left there, in the order of the text.
use Rattle.std.specs.Prelude.{ℕ, List}
use Rattle.jt_syntax.specs.declared.script.Identifier.{Identifier}
use Rattle.jt_outline.specs.declared.mark.ScopeKind.{ScopeKind}

mutual
  pub data MarkTree : Type 0 where
    use_of : Identifier → MarkTree
    -- `$x`, with the place of the `$`
    interpolation : ℕ → Identifier → MarkTree
    assignment : Identifier → MarkTree
    -- a call with so many arguments
    call : Identifier → ℕ → MarkTree
    print : MarkTree
    -- a macro word that opens no scope today
    macro : MarkTree
    -- `break` or `continue`
    loop_jump : ℕ → MarkTree
    return_jump : ℕ → MarkTree
    -- a scope: what it belongs to, the place of a task's macro word, its parameters or its loop
    -- variable, and what stands in it
    scope : ScopeKind → ℕ → List Identifier → Marks → MarkTree

  pub data Marks : Type 0 where
    no_marks : Marks
    mark : MarkTree → Marks → Marks

-- a function of the script: its name, its parameters, and what stands in its body
pub record FunctionTree : Type 0 where
  pub name : Identifier
  pub parameters : List Identifier
  pub body : Marks

-- what the main task does: a constant, with the place of `const` and what stands in its expression, or a
-- statement
pub data PartTree : Type 0 where
  constant : ℕ → Identifier → Marks → PartTree
  statement : Marks → PartTree

-- a script's functions, and what its main task does, both in the order of the text
pub record OutlineTree : Type 0 where
  pub functions : List FunctionTree
  pub parts : List PartTree
