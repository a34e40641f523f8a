-- Chains of operators, and what reads their operands.
use Rattle.std.specs.Prelude.{ℕ, List, map}
use Rattle.jt_syntax.specs.Tree.{Tree, Terms, Step}
use Rattle.jt_syntax.specs.View.{term_view, terms_of}
use Rattle.jt_syntax.specs.declared.operator.BinaryOperator.{BinaryOperator}
use Rattle.jt_syntax.specs.declared.operator.Class.{Class}
use Rattle.jt_syntax.specs.declared.operator.Class.TheVariants as class
use Rattle.jt_syntax.specs.declared.script.Expr.{Expr}
use Rattle.jt_grammar.specs.declared.Level.{Level}
use Rattle.jt_grammar.specs.Reader.{Parser, operand, shift, product, sum, comparison, conjunction, disjunction}

-- operands, each behind its operator
abbrev pub terms_view : List (BinaryOperator × Expr) → Terms
terms_view ts = terms_of (map term_view ts)

-- what may stand beside an operator of the class
abbrev pub tighter_than : ℕ → ℕ → (Level → Parser Tree) → Parser Step → Class → Parser Tree
tighter_than turns depth expr_in step_in class.Or = conjunction turns depth expr_in step_in
tighter_than turns depth expr_in step_in class.And = comparison turns depth expr_in step_in
tighter_than turns depth expr_in step_in class.Comparison = sum turns depth expr_in step_in
tighter_than turns depth expr_in step_in class.Sum = product turns depth expr_in step_in
tighter_than turns depth expr_in step_in class.Product = shift turns depth expr_in step_in
tighter_than turns depth expr_in step_in class.Shift = operand turns depth expr_in step_in

-- operands with operators of the class between
abbrev pub chain_of : ℕ → ℕ → (Level → Parser Tree) → Parser Step → Class → Parser Tree
chain_of turns depth expr_in step_in class.Or = disjunction turns depth expr_in step_in
chain_of turns depth expr_in step_in class.And = conjunction turns depth expr_in step_in
chain_of turns depth expr_in step_in class.Comparison = comparison turns depth expr_in step_in
chain_of turns depth expr_in step_in class.Sum = sum turns depth expr_in step_in
chain_of turns depth expr_in step_in class.Product = product turns depth expr_in step_in
chain_of turns depth expr_in step_in class.Shift = shift turns depth expr_in step_in
