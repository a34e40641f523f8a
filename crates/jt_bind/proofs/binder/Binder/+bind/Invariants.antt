-- The depth of what is gone through, and above it a rank for functions that hand it on whole. In a loop the
-- parts so far, with what is left behind them, are the whole.
use Rattle.std.proofs.Common.{◌≡◌, ◌+◌, ◌*◌, ℕ, List, Option, Some, None, map, drop, max}
use Rattle.std.specs.Prelude.{option_copied}
use denote.Param.Weighed.{most}
use Rattle.jt_syntax.specs.Tree as tree
use Rattle.jt_syntax.specs.View.{views, item_views, term_view, terms_of, arms_of, arm_view, stmt_views}
use Rattle.jt_syntax.specs.declared.script.Expr.{size-Expr}
use Rattle.jt_syntax.specs.declared.script.Item.{size-Item}
use Rattle.jt_syntax.specs.declared.script.Arm.{size-Arm}
use Rattle.jt_syntax.specs.declared.script.Jump.{size-Jump}
use Rattle.jt_syntax.specs.declared.script.Stmt.{Stmt, size-Stmt}
use Rattle.jt_program.specs.Plan as plan
use Rattle.jt_program.specs.View.{plan_of, arm_plan, piece_plan, piece_before}
use Rattle.jt_nodes.specs.Views.{operands_plan}
use Rattle.jt_lowered.specs.Chains.{none_of, all_more}
use Rattle.jt_bound.specs.Behind.{behind, choice_before}
use Rattle.jt_bound.specs.Made.{with}
use Rattle.jt_bound.specs.Walked.{walked_all, walked_pieces, walked_terms, walked_arms, walked_steps}
use Rattle.jt_bind.specs.Walks.{numbers, state}
use Rattle.jt_bind.proofs.binder.Binder.+bind.Given as goal

-- of what stands behind `else`
abbrev last_size : Option (List Stmt) → ℕ
last_size None = 0
last_size (Some ss) = most size-Stmt ss

abbrev pub decreases-expression : goal.decreases-expression
decreases-expression l = 8 * (size-Expr l.expression.now)

abbrev pub decreases-inside : goal.decreases-inside
decreases-inside l = 8 * (size-Expr l.value.now) + 1

abbrev pub decreases-task : goal.decreases-task
decreases-task l = 8 * (size-Expr l.body.now) + 2

abbrev pub decreases-within : goal.decreases-within
decreases-within l = 8 * (most size-Stmt l.body.now) + 2

abbrev pub decreases-block : goal.decreases-block
decreases-block l = 8 * (most size-Stmt l.body.now) + 1

abbrev pub decreases-turn : goal.decreases-turn
decreases-turn l = 8 * (most size-Stmt l.body.now) + 3

abbrev pub decreases-statement : goal.decreases-statement
decreases-statement l = 8 * (size-Stmt l.statement.now)

abbrev pub decreases-jump : goal.decreases-jump
decreases-jump l = 8 * (size-Jump l.jump.now)

abbrev pub decreases-guard : goal.decreases-guard
decreases-guard l = 8 * (max (size-Expr l.first.now) (max (most (λ t. size-Expr t.1) l.terms.now) (size-Jump l.jump.now))) + 2

abbrev pub decreases-call : goal.decreases-call
decreases-call l = 8 * (most size-Expr l.arguments.now) + 1

abbrev pub decreases-piece : goal.decreases-piece
decreases-piece l = 8 * (size-Item l.item.now)

abbrev pub decreases-print : goal.decreases-print
decreases-print l = 8 * (most size-Item l.items.now) + 1

abbrev pub decreases-power : goal.decreases-power
decreases-power l = 8 * (max (size-Expr l.base.now) (size-Expr l.exponent.now)) + 1

abbrev pub decreases-chain : goal.decreases-chain
decreases-chain l = 8 * (max (size-Expr l.first.now) (most (λ t. size-Expr t.1) l.terms.now)) + 2

abbrev pub decreases-operands : goal.decreases-operands
decreases-operands l = 8 * (most (λ t. size-Expr t.1) l.terms.now) + 1

abbrev pub decreases-conditional : goal.decreases-conditional
decreases-conditional l = 8 * (max (size-Expr l.test.now) (max (size-Expr l.value.now) (size-Expr l.otherwise.now))) + 1

abbrev pub decreases-arms : goal.decreases-arms
decreases-arms l = 8 * (most size-Arm l.arms.now) + 1

abbrev pub decreases-otherwise : goal.decreases-otherwise
decreases-otherwise l = 8 * (last_size (option_copied l.last)) + 3

abbrev pub decreases-branch : goal.decreases-branch
decreases-branch l = 8 * (max (size-Expr l.test.now) (max (most size-Stmt l.body.now) (max (most size-Arm l.arms.now) (last_size (option_copied l.last))))) + 4

abbrev pub decreases-while_loop : goal.decreases-while_loop
decreases-while_loop l = 8 * (max (size-Expr l.test.now) (most size-Stmt l.body.now)) + 4

abbrev pub decreases-for_loop : goal.decreases-for_loop
decreases-for_loop l = 8 * (max (size-Expr l.low.now) (max (size-Expr l.high.now) (most size-Stmt l.body.now))) + 4

abbrev pub invariant-block-loop-statement : goal.invariant-block-loop-statement
invariant-block-loop-statement l =
    with (behind plan.plan (map plan_of l.codes)) (walked_steps (numbers l.fn.self) (state l.walk) (stmt_views (drop l.statement-index l.body)))
    ≡ walked_steps (numbers l.fn.self) (state l.fn.walk) (stmt_views l.fn.body)

abbrev pub invariant-call-loop-argument : goal.invariant-call-loop-argument
invariant-call-loop-argument l =
    with (behind plan.plan (map plan_of l.codes)) (walked_all (numbers l.fn.self) (state l.walk) (views (drop l.argument-index l.arguments)))
    ≡ walked_all (numbers l.fn.self) (state l.fn.walk) (views l.fn.arguments)

abbrev pub invariant-print-loop-item : goal.invariant-print-loop-item
invariant-print-loop-item l =
    with (behind piece_before (map piece_plan l.pieces)) (walked_pieces (numbers l.fn.self) (state l.walk) (item_views (drop l.item-index l.items)))
    ≡ walked_pieces (numbers l.fn.self) (state l.fn.walk) (item_views l.fn.items)

abbrev pub invariant-operands-loop-term : goal.invariant-operands-loop-term
invariant-operands-loop-term l =
    with (all_more (operands_plan l.operands)) (walked_terms (numbers l.fn.self) (state l.walk) (terms_of (map term_view (drop l.term-index l.terms))))
    ≡ with (all_more (none_of l.fn.class)) (walked_terms (numbers l.fn.self) (state l.fn.walk) (terms_of (map term_view l.fn.terms)))

abbrev pub invariant-arms-loop-arm : goal.invariant-arms-loop-arm
invariant-arms-loop-arm l =
    with (behind choice_before (map arm_plan l.choices)) (walked_arms (numbers l.fn.self) (state l.walk) (arms_of (map arm_view (drop l.arm-index l.arms)) tree.no_arms))
    ≡ walked_arms (numbers l.fn.self) (state l.fn.walk) (arms_of (map arm_view l.fn.arms) tree.no_arms)
