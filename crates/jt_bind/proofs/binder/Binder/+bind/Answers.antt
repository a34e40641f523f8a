-- The step and the end of each loop, what has items, and what the forms of an expression make.
use Rattle.std.proofs.Common.{◌≡◌, ◌∷◌, IfOk, ap, refl, sym, subst, ◌∙◌, map}
use Rattle.std.specs.Prelude.{option_copied}
use Rattle.jt_syntax.specs.Tree.{Terms}
use Rattle.jt_syntax.specs.Tree as tree
use Rattle.jt_syntax.specs.View.{view, views, item_view, item_views, term_view, terms_of, arm_view, arms_of, jump_view, stmt_view, stmt_views}
use Rattle.jt_syntax.proofs.Views.{view-Number, view-Call, view-Println, view-Chain, view-Block, view-While, view-ForRange, view-Guard}
use Rattle.jt_syntax.specs.declared.operator.ArithmeticOperator.TheVariants as arithmetic
use Rattle.jt_program.specs.declared.code.Literal.TheVariants as literal
use Rattle.jt_program.specs.Plan.{Plan}
use Rattle.jt_program.specs.Plan as plan
use Rattle.jt_program.specs.View as code
use Rattle.jt_program.specs.View.{plan_of, plans, choices_of, piece_before, pieces_of, piece_plan, arm_plan}
use Rattle.jt_bound.specs.Behind.{with_last, choice_before}
use Rattle.jt_bound.specs.Bound.{piece_of}
use Rattle.jt_nodes.specs.Views.{operands_plan, turn_plan}
use Rattle.jt_lowered.specs.Loops.{while_of, for_of}
use Rattle.jt_lowered.specs.Chains.{none_of, all_more, chain_of, chained, guard_of, guarded}
use Rattle.jt_lowered.specs.Lowered.{number_literal, least_literal, greatest_literal, operated, callee_of}
use Rattle.jt_bound.specs.Made.{WalkResult, made, with, both, three}
use Rattle.jt_bound.specs.States.{WalkState, entered, turned}
use Rattle.jt_bound.specs.Walked.{walked, walked_all, walked_pieces, walked_terms, walked_arms, walked_leap, walked_step, walked_steps}
use Rattle.jt_bind.specs.Walks.{numbers, state}
use Rattle.jt_bound.proofs.Arms.{arm_made, branch_of, branch_made}
use Rattle.jt_bound.proofs.Behind.{taken, grown, none_left, ended, plans_behind, choices_behind, pieces_behind}
use Rattle.jt_bound.proofs.Outcomes.{code_made, list_made}
use Rattle.jt_bound.proofs.Texts.{value_piece, value_view}
use Rattle.jt_bind.proofs.Forms.{seen, leaf, view-Truth, view-Name, view-Interpolation, view-Group, view-Error, view-Least, view-Greatest, view-Power, view-Conditional}
use Rattle.jt_bind.proofs.binder.Binder.+bind.Goals as goal

pub block-loop-statement-preserved : goal.block-loop-statement-preserved
block-loop-statement-preserved t c =
    grown plan.plan (λ s ys. walked_steps (numbers c.args.self.now) s (stmt_views ys)) c.args.body.now c.loop-statement.statement-index c.statement-item.result (map plan_of c.loop-statement.codes) (map plan_of c.push.new.codes) (plan_of c.in_ok-code.code) (state c.loop-statement.walk) (state c.statement.new.walk) _
    c.loop-statement-test.true c.statement-item.is c.in_ok-push.ensures
    (λ rest. ap (λ m. both plan.plan m (λ s. walked_steps (numbers c.args.self.now) s (stmt_views rest))) c.in_ok-code.ensures)
    c.loop-statement.invariant

pub block-returns : goal.block-returns
block-returns t c =
    code_made c.block.result _ (plan.block (plans c.loop-statement.codes)) (state c.loop-statement.walk)
    (ap (with plan.block) (ended plan.plan (λ s ys. walked_steps (numbers c.args.self.now) s (stmt_views ys)) c.args.body.now c.loop-statement.statement-index (map plan_of c.loop-statement.codes) (state c.loop-statement.walk) plan.no_plans _
    c.loop-statement-test.false refl c.loop-statement.invariant
    ∙ ap (λ b. made b (state c.loop-statement.walk)) (plans_behind (map plan_of c.loop-statement.codes))))
    c.block.ensures

pub call-loop-argument-preserved : goal.call-loop-argument-preserved
call-loop-argument-preserved t c =
    let one : walked (numbers c.args.self.now) (state c.loop-argument.walk) (view c.argument-item.result) ≡ made (plan_of c.in_ok-code.code) (state c.expression.new.walk) = ap (λ e. walked (numbers c.args.self.now) (state c.loop-argument.walk) (view e)) (sym c.get.ensures) ∙ c.in_ok-code.ensures in
    grown plan.plan (λ s ys. walked_all (numbers c.args.self.now) s (views ys)) c.args.arguments.now c.loop-argument.argument-index c.argument-item.result (map plan_of c.loop-argument.codes) (map plan_of c.push.new.codes) (plan_of c.in_ok-code.code) (state c.loop-argument.walk) (state c.expression.new.walk) _
    c.loop-argument-test.true c.argument-item.is c.in_ok-push.ensures
    (λ rest. ap (λ m. both plan.plan m (λ s. walked_all (numbers c.args.self.now) s (views rest))) one)
    c.loop-argument.invariant

pub call-returns : goal.call-returns
call-returns t c =
    code_made c.call.result _ (plan.call c.callee-callee.result (plans c.loop-argument.codes)) (state c.loop-argument.walk)
    (ap (with (plan.call (callee_of (numbers c.args.self.now).functions c.args.function.now.name))) (ended plan.plan (λ s ys. walked_all (numbers c.args.self.now) s (views ys)) c.args.arguments.now c.loop-argument.argument-index (map plan_of c.loop-argument.codes) (state c.loop-argument.walk) plan.no_plans _
    c.loop-argument-test.false refl c.loop-argument.invariant
    ∙ ap (λ b. made b (state c.loop-argument.walk)) (plans_behind (map plan_of c.loop-argument.codes)))
    ∙ ap (λ f. made (plan.call f (plans c.loop-argument.codes)) (state c.loop-argument.walk)) (sym (c.callee-callee.ensures ∙ ap (callee_of (numbers c.args.self.now).functions) c.as_slice.ensures)))
    c.call.ensures

pub operands-loop-term-preserved : goal.operands-loop-term-preserved
operands-loop-term-preserved t c =
    let one : walked (numbers c.args.self.now) (state c.loop-term.walk) (view c.term-item.result.1) ≡ made (plan_of c.in_ok-operand.operand) (state c.expression.new.walk) = ap (λ e. walked (numbers c.args.self.now) (state c.loop-term.walk) (view e)) (sym c.get.ensures) ∙ c.in_ok-operand.ensures in
    taken (λ ps s ys. with (all_more ps) (walked_terms (numbers c.args.self.now) s (terms_of (map term_view ys)))) c.args.terms.now c.loop-term.term-index c.term-item.result (operands_plan c.loop-term.operands) (operands_plan c.push.new.self) (state c.loop-term.walk) (state c.expression.new.walk) _
    c.loop-term-test.true c.term-item.is
    (λ rest. ap (λ m. with (all_more (operands_plan c.loop-term.operands)) (both (λ p ps. (c.term-item.result.0, p) ∷ ps) m (λ s. walked_terms (numbers c.args.self.now) s (terms_of (map term_view rest))))) one
    ∙ ap (λ ps. with (all_more ps) (walked_terms (numbers c.args.self.now) (state c.expression.new.walk) (terms_of (map term_view rest)))) (sym c.in_ok-push.ensures))
    c.loop-term.invariant

pub operands-returns : goal.operands-returns
operands-returns t c =
    none_left (λ ps s ys. with (all_more ps) (walked_terms (numbers c.args.self.now) s (terms_of (map term_view ys)))) c.args.terms.now c.loop-term.term-index (operands_plan c.loop-term.operands) (state c.loop-term.walk) _
    c.loop-term-test.false c.loop-term.invariant

pub chain-returns : goal.chain-returns
chain-returns t c =
    code_made c.into_chain.result _ (chain_of (operands_plan c.in_ok-operands.operands) (plan_of c.in_ok-first.first)) (state c.operands.new.walk)
    (ap (λ m. both (chained c.args.class) m (λ s. walked_terms (numbers c.args.self.now) s (terms_of (map term_view c.args.terms.now)))) c.in_ok-first.ensures
    ∙ ap (with (λ ps. chain_of ps (plan_of c.in_ok-first.first))) c.in_ok-operands.ensures)
    c.into_chain.ensures

pub guard-returns : goal.guard-returns
guard-returns t c =
    let terms : Terms = terms_of (map term_view c.args.terms.now) in
    code_made c.guard.result _ (guard_of c.args.connective (operands_plan c.in_ok-operands.operands) (plan_of c.in_ok-last.last) (plan_of c.in_ok-first.first)) (state c.jump.new.walk)
    (ap (λ m. three (guarded c.args.connective) m (λ s. walked_terms (numbers c.args.self.now) s terms) (λ s. walked_leap (numbers c.args.self.now) s (jump_view c.args.jump.now))) c.in_ok-first.ensures
    ∙ (ap (λ m. both (λ ps l. guard_of c.args.connective ps l (plan_of c.in_ok-first.first)) m (λ s. walked_leap (numbers c.args.self.now) s (jump_view c.args.jump.now)))
    (ap (λ k. with (all_more (none_of k)) (walked_terms (numbers c.args.self.now) (state c.expression.new.walk) terms)) (sym c.class.ensures) ∙ c.in_ok-operands.ensures)
    ∙ ap (with (λ l. guard_of c.args.connective (operands_plan c.in_ok-operands.operands) l (plan_of c.in_ok-first.first))) c.in_ok-last.ensures))
    c.guard.ensures

pub print-loop-item-preserved : goal.print-loop-item-preserved
print-loop-item-preserved t c =
    let one : WalkResult WalkState Plan = walked (numbers c.args.self.now) (state c.loop-item.walk) (item_view c.item-item.result) in
    let done : one.state ≡ state c.piece.new.walk = ap (λ m. m.state) c.in_ok-piece.ensures in
    let more : with_last (map piece_plan c.loop-item.pieces) (piece_of (item_view c.item-item.result) one.it) ≡ map piece_plan c.piece.new.pieces = ap (λ m. m.it) c.in_ok-piece.ensures in
    grown piece_before (λ s ys. walked_pieces (numbers c.args.self.now) s (item_views ys)) c.args.items.now c.loop-item.item-index c.item-item.result (map piece_plan c.loop-item.pieces) (map piece_plan c.piece.new.pieces) (piece_of (item_view c.item-item.result) one.it) (state c.loop-item.walk) (state c.piece.new.walk) _
    c.loop-item-test.true c.item-item.is (sym more)
    (λ rest. ap (λ s. with (piece_before (piece_of (item_view c.item-item.result) one.it)) (walked_pieces (numbers c.args.self.now) s (item_views rest))) done)
    c.loop-item.invariant

pub print-returns : goal.print-returns
print-returns t c =
    code_made c.print.result _ (plan.print (pieces_of (map piece_plan c.loop-item.pieces))) (state c.loop-item.walk)
    (ap (with plan.print) (ended piece_before (λ s ys. walked_pieces (numbers c.args.self.now) s (item_views ys)) c.args.items.now c.loop-item.item-index (map piece_plan c.loop-item.pieces) (state c.loop-item.walk) plan.no_pieces _
    c.loop-item-test.false refl c.loop-item.invariant
    ∙ ap (λ b. made b (state c.loop-item.walk)) (pieces_behind (map piece_plan c.loop-item.pieces))))
    c.print.ensures

pub arms-loop-arm-preserved : goal.arms-loop-arm-preserved
arms-loop-arm-preserved t c =
    let condition : walked (numbers c.args.self.now) (state c.loop-arm.walk) (view c.arm-item.result.condition) ≡ made (plan_of c.in_ok-condition.condition) (state c.expression.new.walk) = ap (λ e. walked (numbers c.args.self.now) (state c.loop-arm.walk) (view e)) (sym c.get.ensures) ∙ c.in_ok-condition.ensures in
    grown choice_before (λ s ys. walked_arms (numbers c.args.self.now) s (arms_of (map arm_view ys) tree.no_arms)) c.args.arms.now c.loop-arm.arm-index c.arm-item.result (map arm_plan c.loop-arm.choices) (map arm_plan c.push_arm.new.arms) (plan_of c.in_ok-condition.condition, plan_of c.in_ok-body.body) (state c.loop-arm.walk) (state c.block.new.walk) _
    c.loop-arm-test.true c.arm-item.is c.in_ok-push_arm.ensures
    (λ rest. arm_made (numbers c.args.self.now) (state c.loop-arm.walk) (state c.expression.new.walk) (state c.block.new.walk) c.arm-item.result c.as_slice.result.now (plan_of c.in_ok-condition.condition) (plan_of c.in_ok-body.body) (λ s. walked_arms (numbers c.args.self.now) s (arms_of (map arm_view rest) tree.no_arms)) condition c.in_ok-body.ensures c.as_slice.ensures)
    c.loop-arm.invariant

pub arms-returns : goal.arms-returns
arms-returns t c =
    ended choice_before (λ s ys. walked_arms (numbers c.args.self.now) s (arms_of (map arm_view ys) tree.no_arms)) c.args.arms.now c.loop-arm.arm-index (map arm_plan c.loop-arm.choices) (state c.loop-arm.walk) plan.no_choices _
    c.loop-arm-test.false refl c.loop-arm.invariant
    ∙ ap (λ b. made b (state c.loop-arm.walk)) (choices_behind (map arm_plan c.loop-arm.choices))

pub while_loop-returns : goal.while_loop-returns
while_loop-returns t c =
    code_made c.while_loop.result _ (while_of (plan_of c.in_ok-test.test) (turn_plan c.in_ok-turn.turn)) (state c.turn.new.walk)
    (ap (λ m. both while_of m (λ s. turned s (with plan.block (walked_steps (numbers c.args.self.now) (entered s) (stmt_views c.args.body.now))))) c.in_ok-test.ensures ∙ ap (with (while_of (plan_of c.in_ok-test.test))) c.in_ok-turn.ensures)
    c.while_loop.ensures

pub branch-returns : goal.branch-returns
branch-returns t c =
    code_made c.if_else.result _ (branch_of (plan_of c.in_ok-test.test) (plan_of c.in_ok-body.body) (choices_of (map arm_plan c.in_ok-more.more)) (plan_of c.in_ok-last.last)) (state c.otherwise.new.walk)
    (branch_made (numbers c.args.self.now) (state c.args.walk.now) (state c.expression.new.walk) (state c.block.new.walk) (state c.arms.new.walk) (state c.otherwise.new.walk) (view c.args.test.now) (stmt_views c.args.body.now) (map arm_view c.args.arms.now) (option_copied c.args.last)
    (plan_of c.in_ok-test.test) (plan_of c.in_ok-body.body) (choices_of (map arm_plan c.in_ok-more.more)) (plan_of c.in_ok-last.last) c.in_ok-test.ensures c.in_ok-body.ensures c.in_ok-more.ensures c.in_ok-last.ensures)
    c.if_else.ensures

pub piece-returns-in_ok-code-in-Value : goal.piece-returns-in_ok-code-in-Value
piece-returns-in_ok-code-in-Value t c =
    let same : item_view c.args.item.now ≡ view c.in-Value.value = ap item_view c.in-Value.is ∙ value_view c.in-Value.value in
    let one : walked (numbers c.args.self.now) (state c.args.walk.now) (view c.in-Value.value) ≡ made (plan_of c.in_ok-code-in-Value.code) (state c.expression.new.walk) = ap (λ e. walked (numbers c.args.self.now) (state c.args.walk.now) (view e)) (sym c.get.ensures) ∙ c.in_ok-code-in-Value.ensures in
    list_made c.push_value.result _ (with_last (map piece_plan c.args.pieces.now) (code.value (plan_of c.in_ok-code-in-Value.code))) (map piece_plan c.push_value.new.pieces) (state c.expression.new.walk)
    (subst (λ e. with (λ p. with_last (map piece_plan c.args.pieces.now) (piece_of e p)) (walked (numbers c.args.self.now) (state c.args.walk.now) e) ≡ made (with_last (map piece_plan c.args.pieces.now) (code.value (plan_of c.in_ok-code-in-Value.code))) (state c.expression.new.walk)) (sym same)
    (ap (with (λ p. with_last (map piece_plan c.args.pieces.now) (piece_of (view c.in-Value.value) p))) one
    ∙ ap (λ q. made (with_last (map piece_plan c.args.pieces.now) q) (state c.expression.new.walk)) (value_piece c.in-Value.value (plan_of c.in_ok-code-in-Value.code))))
    c.push_value.ensures

pub expression-returns-in-Chain : goal.expression-returns-in-Chain
expression-returns-in-Chain t c =
    let seen : view c.args.expression.now ≡ tree.chain c.in-Chain.class (view c.get-in-Chain.result.now) (terms_of (map term_view c.as_slice-in-Chain.result.now)) =
    ap view c.in-Chain.is
    ∙ (view-Chain c.in-Chain.class c.in-Chain.first c.in-Chain.terms
    ∙ (ap (λ e. tree.chain c.in-Chain.class (view e) (terms_of (map term_view c.in-Chain.terms))) (sym c.get-in-Chain.ensures)
    ∙ ap (λ es. tree.chain c.in-Chain.class (view c.get-in-Chain.result.now) (terms_of (map term_view es))) (sym c.as_slice-in-Chain.ensures))) in
    subst (λ e. IfOk c.chain.result (λ p. walked (numbers c.args.self.now) (state c.args.walk.now) e ≡ made (plan_of p) (state c.chain.new.walk))) (sym seen) c.chain.ensures

pub statement-returns-in-Guard : goal.statement-returns-in-Guard
statement-returns-in-Guard t c =
    let seen : stmt_view c.args.statement.now ≡ tree.guard c.in-Guard.connective (view c.get-in-Guard.result.now) (terms_of (map term_view c.as_slice-in-Guard.result.now)) (jump_view c.in-Guard.jump) =
    ap stmt_view c.in-Guard.is
    ∙ (view-Guard c.in-Guard.connective c.in-Guard.first c.in-Guard.terms c.in-Guard.jump
    ∙ (ap (λ e. tree.guard c.in-Guard.connective (view e) (terms_of (map term_view c.in-Guard.terms)) (jump_view c.in-Guard.jump)) (sym c.get-in-Guard.ensures)
    ∙ ap (λ es. tree.guard c.in-Guard.connective (view c.get-in-Guard.result.now) (terms_of (map term_view es)) (jump_view c.in-Guard.jump)) (sym c.as_slice-in-Guard.ensures))) in
    subst (λ e. IfOk c.guard.result (λ p. walked_step (numbers c.args.self.now) (state c.args.walk.now) e ≡ made (plan_of p) (state c.guard.new.walk))) (sym seen) c.guard.ensures

pub expression-returns-in-Number : goal.expression-returns-in-Number
expression-returns-in-Number t c =
    leaf c.number.result (numbers c.args.self.now) (state c.args.walk.now) (view c.args.expression.now) (tree.number c.in-Number.n) (number_literal c.in-Number.n) (ap view c.in-Number.is ∙ view-Number c.in-Number.n) refl c.number.ensures

pub expression-returns-in-Truth : goal.expression-returns-in-Truth
expression-returns-in-Truth t c =
    leaf c.literal.result (numbers c.args.self.now) (state c.args.walk.now) (view c.args.expression.now) (tree.truth c.in-Truth.flag) (plan.literal (literal.Flag c.in-Truth.flag)) (ap view c.in-Truth.is ∙ view-Truth c.in-Truth.flag) refl c.literal.ensures

pub expression-returns-in-Name : goal.expression-returns-in-Name
expression-returns-in-Name t c =
    seen c.name.result (numbers c.args.self.now) (state c.args.walk.now) (state c.args.walk.now) (view c.args.expression.now) (tree.name c.in-Name.name) (ap view c.in-Name.is ∙ view-Name c.in-Name.name) c.name.ensures

pub expression-returns-in-Interpolation : goal.expression-returns-in-Interpolation
expression-returns-in-Interpolation t c =
    seen c.interpolation.result (numbers c.args.self.now) (state c.args.walk.now) (state c.args.walk.now) (view c.args.expression.now) (tree.interpolation c.in-Interpolation.field-0 c.in-Interpolation.name) (ap view c.in-Interpolation.is ∙ view-Interpolation c.in-Interpolation.field-0 c.in-Interpolation.name) c.interpolation.ensures

pub expression-returns-in-Group : goal.expression-returns-in-Group
expression-returns-in-Group t c =
    seen c.expression.result (numbers c.args.self.now) (state c.args.walk.now) (state c.expression.new.walk) (view c.args.expression.now) (tree.group (view c.get.result.now))
    (ap view c.in-Group.is ∙ (view-Group c.in-Group.inner ∙ ap (λ e. tree.group (view e)) (sym c.get.ensures)))
    c.expression.ensures

pub expression-returns-in-Call : goal.expression-returns-in-Call
expression-returns-in-Call t c =
    seen c.call.result (numbers c.args.self.now) (state c.args.walk.now) (state c.call.new.walk) (view c.args.expression.now) (tree.call c.in-Call.function (views c.as_slice.result.now))
    (ap view c.in-Call.is ∙ (view-Call c.in-Call.function c.in-Call.arguments ∙ ap (λ es. tree.call c.in-Call.function (views es)) (sym c.as_slice.ensures)))
    c.call.ensures

pub expression-returns-in-Println : goal.expression-returns-in-Println
expression-returns-in-Println t c =
    seen c.print.result (numbers c.args.self.now) (state c.args.walk.now) (state c.print.new.walk) (view c.args.expression.now) (tree.println (item_views c.as_slice-in-Println.result.now))
    (ap view c.in-Println.is ∙ (view-Println c.in-Println.items ∙ ap (λ es. tree.println (item_views es)) (sym c.as_slice-in-Println.ensures)))
    c.print.ensures

pub expression-returns-in-Error : goal.expression-returns-in-Error
expression-returns-in-Error t c =
    leaf c.error.result (numbers c.args.self.now) (state c.args.walk.now) (view c.args.expression.now) (tree.error c.as_slice-in-Error.result.now) (plan.error c.as_slice-in-Error.result.now) (ap view c.in-Error.is ∙ (view-Error c.in-Error.text ∙ ap tree.error (sym c.as_slice-in-Error.ensures))) refl c.error.ensures

pub expression-returns-in-Least : goal.expression-returns-in-Least
expression-returns-in-Least t c =
    leaf c.literal-in-Least.result (numbers c.args.self.now) (state c.args.walk.now) (view c.args.expression.now) tree.least least_literal (ap view c.in-Least.is ∙ view-Least) refl c.literal-in-Least.ensures

pub expression-returns-in-Greatest : goal.expression-returns-in-Greatest
expression-returns-in-Greatest t c =
    leaf c.literal-in-Greatest.result (numbers c.args.self.now) (state c.args.walk.now) (view c.args.expression.now) tree.greatest greatest_literal (ap view c.in-Greatest.is ∙ view-Greatest) refl c.literal-in-Greatest.ensures

pub expression-returns-in-Power : goal.expression-returns-in-Power
expression-returns-in-Power t c =
    seen c.power.result (numbers c.args.self.now) (state c.args.walk.now) (state c.power.new.walk) (view c.args.expression.now) (tree.power (view c.get-in-Power.result.now) (view c.get-in-Power-2.result.now))
    (ap view c.in-Power.is ∙ (view-Power c.in-Power.base c.in-Power.exponent
    ∙ (ap (λ e. tree.power (view e) (view c.in-Power.exponent)) (sym c.get-in-Power.ensures) ∙ ap (λ e. tree.power (view c.get-in-Power.result.now) (view e)) (sym c.get-in-Power-2.ensures))))
    c.power.ensures

pub expression-returns-in-Conditional : goal.expression-returns-in-Conditional
expression-returns-in-Conditional t c =
    seen c.conditional.result (numbers c.args.self.now) (state c.args.walk.now) (state c.conditional.new.walk) (view c.args.expression.now) (tree.conditional (view c.get-in-Conditional.result.now) (view c.get-in-Conditional-2.result.now) (view c.get-in-Conditional-3.result.now))
    (ap view c.in-Conditional.is ∙ (view-Conditional c.in-Conditional.test c.in-Conditional.value c.in-Conditional.otherwise
    ∙ (ap (λ e. tree.conditional (view e) (view c.in-Conditional.value) (view c.in-Conditional.otherwise)) (sym c.get-in-Conditional.ensures)
    ∙ (ap (λ e. tree.conditional (view c.get-in-Conditional.result.now) (view e) (view c.in-Conditional.otherwise)) (sym c.get-in-Conditional-2.ensures)
    ∙ ap (λ e. tree.conditional (view c.get-in-Conditional.result.now) (view c.get-in-Conditional-2.result.now) (view e)) (sym c.get-in-Conditional-3.ensures)))))
    c.conditional.ensures

pub expression-returns-in-Block : goal.expression-returns-in-Block
expression-returns-in-Block t c =
    seen c.block.result (numbers c.args.self.now) (state c.args.walk.now) (state c.block.new.walk) (view c.args.expression.now) (tree.block (stmt_views c.as_slice-in-Block.result.now))
    (ap view c.in-Block.is ∙ (view-Block c.in-Block.body ∙ ap (λ ss. tree.block (stmt_views ss)) (sym c.as_slice-in-Block.ensures)))
    c.block.ensures

pub expression-returns-in-While : goal.expression-returns-in-While
expression-returns-in-While t c =
    seen c.while_loop.result (numbers c.args.self.now) (state c.args.walk.now) (state c.while_loop.new.walk) (view c.args.expression.now) (tree.while (view c.get-in-While.result.now) (stmt_views c.as_slice-in-While.result.now))
    (ap view c.in-While.is ∙ (view-While c.in-While.test c.in-While.body
    ∙ (ap (λ e. tree.while (view e) (stmt_views c.in-While.body)) (sym c.get-in-While.ensures) ∙ ap (λ ss. tree.while (view c.get-in-While.result.now) (stmt_views ss)) (sym c.as_slice-in-While.ensures))))
    c.while_loop.ensures

pub expression-returns-in-ForRange : goal.expression-returns-in-ForRange
expression-returns-in-ForRange t c =
    seen c.for_loop.result (numbers c.args.self.now) (state c.args.walk.now) (state c.for_loop.new.walk) (view c.args.expression.now) (tree.for_range c.in-ForRange.field-0 (view c.get-in-ForRange.result.now) (view c.get-in-ForRange-2.result.now) (stmt_views c.as_slice-in-ForRange.result.now))
    (ap view c.in-ForRange.is ∙ (view-ForRange c.in-ForRange.field-0 c.in-ForRange.low c.in-ForRange.high c.in-ForRange.body
    ∙ (ap (λ e. tree.for_range c.in-ForRange.field-0 (view e) (view c.in-ForRange.high) (stmt_views c.in-ForRange.body)) (sym c.get-in-ForRange.ensures)
    ∙ (ap (λ e. tree.for_range c.in-ForRange.field-0 (view c.get-in-ForRange.result.now) (view e) (stmt_views c.in-ForRange.body)) (sym c.get-in-ForRange-2.ensures)
    ∙ ap (λ ss. tree.for_range c.in-ForRange.field-0 (view c.get-in-ForRange.result.now) (view c.get-in-ForRange-2.result.now) (stmt_views ss)) (sym c.as_slice-in-ForRange.ensures)))))
    c.for_loop.ensures

pub conditional-returns : goal.conditional-returns
conditional-returns t c =
    code_made c.conditional.result _ (plan.branch (plan.choice (plan_of c.in_ok-test.test) (plan_of c.in_ok-value.value) plan.no_choices) (plan_of c.in_ok-otherwise.otherwise)) (state c.expression-3.new.walk)
    (ap (λ m. three (λ t a b. plan.branch (plan.choice t a plan.no_choices) b) m (λ s. walked (numbers c.args.self.now) s (view c.args.value.now)) (λ s. walked (numbers c.args.self.now) s (view c.args.otherwise.now))) c.in_ok-test.ensures
    ∙ (ap (λ m. both (λ a b. plan.branch (plan.choice (plan_of c.in_ok-test.test) a plan.no_choices) b) m (λ s. walked (numbers c.args.self.now) s (view c.args.otherwise.now))) c.in_ok-value.ensures
    ∙ ap (with (λ b. plan.branch (plan.choice (plan_of c.in_ok-test.test) (plan_of c.in_ok-value.value) plan.no_choices) b)) c.in_ok-otherwise.ensures))
    c.conditional.ensures

pub for_loop-returns : goal.for_loop-returns
for_loop-returns t c =
    code_made c.for_loop.result _ (for_of (plan_of c.in_ok-low.low) (plan_of c.in_ok-high.high) (turn_plan c.in_ok-turn.turn)) (state c.turn.new.walk)
    (ap (λ m. three for_of m (λ s. walked (numbers c.args.self.now) s (view c.args.high.now)) (λ s. turned s (with plan.block (walked_steps (numbers c.args.self.now) (entered s) (stmt_views c.args.body.now))))) c.in_ok-low.ensures
    ∙ (ap (λ m. both (for_of (plan_of c.in_ok-low.low)) m (λ s. turned s (with plan.block (walked_steps (numbers c.args.self.now) (entered s) (stmt_views c.args.body.now))))) c.in_ok-high.ensures
    ∙ ap (with (for_of (plan_of c.in_ok-low.low) (plan_of c.in_ok-high.high))) c.in_ok-turn.ensures))
    c.for_loop.ensures

pub power-returns : goal.power-returns
power-returns t c =
    code_made c.operation_of_two.result _ (operated (plan_of c.in_ok-base.base) arithmetic.Power (plan_of c.in_ok-exponent.exponent)) (state c.expression-2.new.walk)
    (ap (λ m. both (λ p q. operated p arithmetic.Power q) m (λ s. walked (numbers c.args.self.now) s (view c.args.exponent.now))) c.in_ok-base.ensures
    ∙ ap (with (λ q. operated (plan_of c.in_ok-base.base) arithmetic.Power q)) c.in_ok-exponent.ensures)
    c.operation_of_two.ensures
