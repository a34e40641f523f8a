-- Where a loop of the walk goes on or ends, by what is left of its list.
use Rattle.std.proofs.Common.{arith}
use Rattle.std.proofs.lemmas.Grind.{common_steps}
use Rattle.jt_syntax.specs.declared.script.Expr.{the_lemmas}
use Rattle.jt_forms.proofs.built.+built.Goals as goal

pub are_built-returns-then-not-is_built : goal.are_built-returns-then-not-is_built
are_built-returns-then-not-is_built t c = grind (arith, common_steps)

pub are_built-loop-expr-preserved : goal.are_built-loop-expr-preserved
are_built-loop-expr-preserved t c = grind (arith, common_steps)

pub are_built-returns : goal.are_built-returns
are_built-returns t c = grind (arith, common_steps)

pub are_items_built-returns-then-not-is_item_built : goal.are_items_built-returns-then-not-is_item_built
are_items_built-returns-then-not-is_item_built t c = grind (arith, common_steps)

pub are_items_built-loop-item-preserved : goal.are_items_built-loop-item-preserved
are_items_built-loop-item-preserved t c = grind (arith, common_steps)

pub are_items_built-returns : goal.are_items_built-returns
are_items_built-returns t c = grind (arith, common_steps)

pub are_statements_built-returns-then-not-is_statement_built : goal.are_statements_built-returns-then-not-is_statement_built
are_statements_built-returns-then-not-is_statement_built t c = grind (arith, common_steps)

pub are_statements_built-loop-statement-preserved : goal.are_statements_built-loop-statement-preserved
are_statements_built-loop-statement-preserved t c = grind (arith, common_steps)

pub are_statements_built-returns : goal.are_statements_built-returns
are_statements_built-returns t c = grind (arith, common_steps)

pub are_arms_built-loop-arm-preserved : goal.are_arms_built-loop-arm-preserved
are_arms_built-loop-arm-preserved t c = λ last. grind (arith, common_steps, the_lemmas, c.loop-arm.invariant last)

pub are_arms_built-returns : goal.are_arms_built-returns
are_arms_built-returns t c = grind (arith, common_steps)

pub is_chain_built-loop-term-preserved : goal.is_chain_built-loop-term-preserved
is_chain_built-loop-term-preserved t c = grind (arith, common_steps)

pub is_chain_built-returns : goal.is_chain_built-returns
is_chain_built-returns t c = grind (arith, common_steps)
