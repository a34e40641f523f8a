use Rattle.std.proofs.Common.{◌≡◌, ◌+◌, ◌*◌, ◌++◌, map, drop, max}
use denote.Param.Weighed.{most}
use Rattle.jt_syntax.specs.View.{views, item_views, term_view, terms_of, arms_of, arm_view, stmt_views}
use Rattle.jt_syntax.specs.Tree as tree
use Rattle.jt_syntax.specs.declared.script.Expr.{size-Expr}
use Rattle.jt_syntax.specs.declared.script.Item.{size-Item}
use Rattle.jt_syntax.specs.declared.script.Arm.{size-Arm}
use Rattle.jt_syntax.specs.declared.script.Jump.{size-Jump}
use Rattle.jt_syntax.specs.declared.script.Stmt.{size-Stmt}
use Rattle.jt_grammar.specs.Printed.{comma_kinds, term_kinds, arms_kinds, steps_kinds}
use Rattle.jt_printer.proofs.kinds.Kinds.+expression.Given as goal

-- the depth of what is written, and above it a rank for functions that hand it on whole
abbrev pub decreases-expression : goal.decreases-expression
decreases-expression l = 8 * (size-Expr l.expression.now)

abbrev pub decreases-enclosed : goal.decreases-enclosed
decreases-enclosed l = 8 * (size-Expr l.inner.now) + 1

abbrev pub decreases-call : goal.decreases-call
decreases-call l = 8 * (most size-Expr l.arguments.now) + 2

abbrev pub decreases-println : goal.decreases-println
decreases-println l = 8 * (most size-Item l.items.now) + 1

abbrev pub decreases-item : goal.decreases-item
decreases-item l = 8 * (size-Item l.item.now)

abbrev pub decreases-object : goal.decreases-object
decreases-object l = 8 * (size-Expr l.value.now) + 2

abbrev pub decreases-random_in : goal.decreases-random_in
decreases-random_in l = 8 * (max (size-Expr l.first.now) (size-Expr l.last.now)) + 2

abbrev pub decreases-notify : goal.decreases-notify
decreases-notify l = 8 * (size-Expr l.condition.now) + 1

abbrev pub decreases-pair : goal.decreases-pair
decreases-pair l = 8 * (max (size-Expr l.first.now) (size-Expr l.second.now)) + 1

abbrev pub decreases-prefixed : goal.decreases-prefixed
decreases-prefixed l = 8 * (size-Expr l.operand.now) + 1

abbrev pub decreases-power : goal.decreases-power
decreases-power l = 8 * (max (size-Expr l.base.now) (size-Expr l.exponent.now)) + 2

abbrev pub decreases-unary : goal.decreases-unary
decreases-unary l = 8 * (size-Expr l.operand.now) + 2

abbrev pub decreases-chain : goal.decreases-chain
decreases-chain l = 8 * (max (size-Expr l.first.now) (most (λ t. size-Expr t.1) l.terms.now)) + 2

abbrev pub decreases-conditional : goal.decreases-conditional
decreases-conditional l = 8 * (max (size-Expr l.test.now) (max (size-Expr l.value.now) (size-Expr l.otherwise.now))) + 2

abbrev pub decreases-block : goal.decreases-block
decreases-block l = 8 * (most size-Stmt l.body.now) + 2

abbrev pub decreases-first_arms : goal.decreases-first_arms
decreases-first_arms l = 8 * (max (size-Expr l.test.now) (max (most size-Stmt l.body.now) (most size-Arm l.arms.now))) + 2

abbrev pub decreases-branches : goal.decreases-branches
decreases-branches l = 8 * (max (size-Expr l.test.now) (max (most size-Stmt l.body.now) (most size-Arm l.arms.now))) + 3

abbrev pub decreases-branches_else : goal.decreases-branches_else
decreases-branches_else l = 8 * (max (size-Expr l.test.now) (max (most size-Stmt l.body.now) (max (most size-Arm l.arms.now) (most size-Stmt l.last.now)))) + 3

abbrev pub decreases-body : goal.decreases-body
decreases-body l = 8 * (most size-Stmt l.body.now) + 2

abbrev pub decreases-repeated : goal.decreases-repeated
decreases-repeated l = 8 * (max (size-Expr l.test.now) (most size-Stmt l.body.now)) + 3

abbrev pub decreases-range_loop : goal.decreases-range_loop
decreases-range_loop l = 8 * (max (size-Expr l.first.now) (max (size-Expr l.last.now) (most size-Stmt l.body.now))) + 3

abbrev pub decreases-channel_loop : goal.decreases-channel_loop
decreases-channel_loop l = 8 * (max (size-Expr l.channel.now) (most size-Stmt l.body.now)) + 3

abbrev pub decreases-spawn : goal.decreases-spawn
decreases-spawn l = 8 * (size-Expr l.body.now) + 1

abbrev pub decreases-threads : goal.decreases-threads
decreases-threads l = 8 * (max (size-Expr l.first.now) (max (size-Expr l.last.now) (most size-Stmt l.body.now))) + 4

abbrev pub decreases-statements : goal.decreases-statements
decreases-statements l = 8 * (most size-Stmt l.statements.now) + 1

abbrev pub decreases-statement : goal.decreases-statement
decreases-statement l = 8 * (size-Stmt l.statement.now)

abbrev pub decreases-tests : goal.decreases-tests
decreases-tests l = 8 * (max (size-Expr l.first.now) (most (λ t. size-Expr t.1) l.terms.now)) + 3

abbrev pub decreases-assignment : goal.decreases-assignment
decreases-assignment l = 8 * (size-Expr l.value.now) + 2

abbrev pub decreases-store : goal.decreases-store
decreases-store l = 8 * (size-Expr l.value.now) + 2

abbrev pub decreases-jump : goal.decreases-jump
decreases-jump l = 8 * (size-Jump l.jump.now)

abbrev pub invariant-call-loop-argument : goal.invariant-call-loop-argument
invariant-call-loop-argument l = l.self.kinds.items ++ comma_kinds (views (drop l.argument-index l.rest)) ≡ l.initial.self.kinds.items ++ comma_kinds (views l.rest)

abbrev pub invariant-println-loop-item : goal.invariant-println-loop-item
invariant-println-loop-item l = l.self.kinds.items ++ comma_kinds (item_views (drop l.item-index l.rest)) ≡ l.initial.self.kinds.items ++ comma_kinds (item_views l.rest)

abbrev pub invariant-chain-loop-term : goal.invariant-chain-loop-term
invariant-chain-loop-term l = l.self.kinds.items ++ term_kinds (terms_of (map term_view (drop l.term-index l.terms))) ≡ l.initial.self.kinds.items ++ term_kinds (terms_of (map term_view l.terms))

abbrev pub invariant-first_arms-loop-arm : goal.invariant-first_arms-loop-arm
invariant-first_arms-loop-arm l = l.self.kinds.items ++ arms_kinds (arms_of (map arm_view (drop l.arm-index l.arms)) tree.no_arms) ≡ l.initial.self.kinds.items ++ arms_kinds (arms_of (map arm_view l.arms) tree.no_arms)

abbrev pub invariant-statements-loop-statement : goal.invariant-statements-loop-statement
invariant-statements-loop-statement l = l.self.kinds.items ++ steps_kinds (stmt_views (drop l.statement-index l.statements)) ≡ l.initial.self.kinds.items ++ steps_kinds (stmt_views l.statements)
