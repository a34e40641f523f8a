-- Parts of the reader's rules on statements that the code reads by a function of their own.
use Rattle.std.specs.Prelude.{ℕ}
use Rattle.jt_syntax.specs.Tree.{Tree, Step, Leap}
use Rattle.jt_syntax.specs.Tree as tree
use Rattle.jt_syntax.specs.declared.operator.AssignmentOperator.{AssignmentOperator}
use Rattle.jt_syntax.specs.declared.script.Identifier.{Identifier}
use Rattle.jt_grammar.specs.declared.Level.{Level}
use Rattle.jt_grammar.specs.Reader.{Parser, ◌>>=◌, pure, skip, leap, whole}

-- the value behind a `return` that stands there
abbrev pub return_value : ℕ → ℕ → (Level → Parser Tree) → Parser Step → ℕ → Parser Leap
return_value turns depth expr_in step_in at = whole turns depth expr_in step_in >>= λ e. pure (tree.return_value at e)

-- a jump, or an expression, as a statement
abbrev pub jump_step : ℕ → ℕ → (Level → Parser Tree) → Parser Step → Parser Step
jump_step turns depth expr_in step_in = leap turns depth expr_in step_in >>= λ j. pure (tree.jump j)

abbrev pub whole_step : ℕ → ℕ → (Level → Parser Tree) → Parser Step → Parser Step
whole_step turns depth expr_in step_in = whole turns depth expr_in step_in >>= λ e. pure (tree.value e)

-- behind the left side of an assignment
abbrev pub variable_assigned : ℕ → ℕ → (Level → Parser Tree) → Parser Step → Identifier → AssignmentOperator → Parser Step
variable_assigned turns depth expr_in step_in i o = skip >>= λ _. whole turns depth expr_in step_in >>= λ e. pure (tree.assign i o e)

abbrev pub element_assigned : ℕ → ℕ → (Level → Parser Tree) → Parser Step → Identifier → Parser Step
element_assigned turns depth expr_in step_in i = skip >>= λ _. whole turns depth expr_in step_in >>= λ e. pure (tree.store i e)
