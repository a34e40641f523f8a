-- What is left of each list gives what the whole list gives. A call goes down the deepest of its trees;
-- one that hands a tree on whole has a higher rank.
use Rattle.std.proofs.Common.{◌≡◌, ◌+◌, ◌*◌, drop, map, max}
use denote.Param.Weighed.{most}
use Rattle.jt_syntax.specs.Tree as tree
use Rattle.jt_syntax.specs.View.{view, views, item_views, term_view, terms_of, arm_view, arms_of, stmt_views}
use Rattle.jt_syntax.specs.declared.script.Arm.{size-Arm}
use Rattle.jt_syntax.specs.declared.script.Expr.{size-Expr}
use Rattle.jt_syntax.specs.declared.script.Item.{size-Item}
use Rattle.jt_syntax.specs.declared.script.Jump.{size-Jump}
use Rattle.jt_syntax.specs.declared.script.Stmt.{size-Stmt}
use Rattle.jt_outline.specs.Marks.{Marks}
use Rattle.jt_outline.specs.Outlines.{marks, marks_all, marks_terms, marks_arms, marks_steps}
use Rattle.jt_outline.specs.View.{before, mark_view}
use Rattle.jt_outlining.proofs.walk.Walk.+walk.Given as goal

abbrev pub invariant-call-loop-argument : goal.invariant-call-loop-argument
invariant-call-loop-argument l = (r : Marks) → before (map mark_view l.fn.self.marks) (marks (tree.call l.fn.name (views l.fn.arguments)) r) ≡ before (map mark_view l.self.marks) (marks_all (views (drop l.argument-index l.arguments)) r)

abbrev pub invariant-println-loop-item : goal.invariant-println-loop-item
invariant-println-loop-item l = (r : Marks) → before (map mark_view l.fn.self.marks) (marks (tree.println (item_views l.fn.items)) r) ≡ before (map mark_view l.self.marks) (marks_all (item_views (drop l.item-index l.items)) r)

abbrev pub invariant-chain-loop-term : goal.invariant-chain-loop-term
invariant-chain-loop-term l = (r : Marks) → before (map mark_view l.fn.self.marks) (marks (view l.fn.first) (marks_terms (terms_of (map term_view l.fn.terms)) r)) ≡ before (map mark_view l.self.marks) (marks_terms (terms_of (map term_view (drop l.term-index l.terms))) r)

abbrev pub invariant-branches-loop-arm : goal.invariant-branches-loop-arm
invariant-branches-loop-arm l = (last : tree.Arms) (r : Marks) → before (map mark_view l.fn.self.marks) (marks (tree.branches (view l.fn.condition) (stmt_views l.fn.body) (arms_of (map arm_view l.fn.arms) last)) r) ≡ before (map mark_view l.self.marks) (marks_arms (arms_of (map arm_view (drop l.arm-index l.arms)) last) r)

abbrev pub invariant-statements-loop-statement : goal.invariant-statements-loop-statement
invariant-statements-loop-statement l = (r : Marks) → before (map mark_view l.fn.self.marks) (marks_steps (stmt_views l.fn.body) r) ≡ before (map mark_view l.self.marks) (marks_steps (stmt_views (drop l.statement-index l.body)) r)

abbrev pub decreases-expression : goal.decreases-expression
decreases-expression l = 4 * (size-Expr l.expression.now)

abbrev pub decreases-call : goal.decreases-call
decreases-call l = 4 * (most size-Expr l.arguments.now) + 1

abbrev pub decreases-println : goal.decreases-println
decreases-println l = 4 * (most size-Item l.items.now) + 1

abbrev pub decreases-item : goal.decreases-item
decreases-item l = 4 * (size-Item l.item.now)

abbrev pub decreases-two : goal.decreases-two
decreases-two l = 4 * (max (size-Expr l.first.now) (size-Expr l.second.now)) + 1

abbrev pub decreases-chain : goal.decreases-chain
decreases-chain l = 4 * (max (size-Expr l.first.now) (most (λ t. size-Expr t.1) l.terms.now)) + 1

abbrev pub decreases-branches : goal.decreases-branches
decreases-branches l = 4 * (max (size-Expr l.condition.now) (max (most size-Stmt l.body.now) (most size-Arm l.arms.now))) + 3

abbrev pub decreases-arm : goal.decreases-arm
decreases-arm l = 4 * (max (size-Expr l.condition.now) (most size-Stmt l.body.now)) + 2

abbrev pub decreases-loop_scope : goal.decreases-loop_scope
decreases-loop_scope l = 4 * (most size-Stmt l.body.now) + 2

abbrev pub decreases-for_scope : goal.decreases-for_scope
decreases-for_scope l = 4 * (most size-Stmt l.body.now) + 3

abbrev pub decreases-inside : goal.decreases-inside
decreases-inside l = 4 * (size-Expr l.body.now) + 1

abbrev pub decreases-jump : goal.decreases-jump
decreases-jump l = 4 * (size-Jump l.jump.now)

abbrev pub decreases-statement : goal.decreases-statement
decreases-statement l = 4 * (size-Stmt l.statement.now)

abbrev pub decreases-statements : goal.decreases-statements
decreases-statements l = 4 * (most size-Stmt l.body.now) + 1
