-- The plan of a tree, in the scopes round it, and the bodies of the tasks that are made in it behind
-- those before it.
use Rattle.std.specs.Prelude.{ℕ, List, [], ◌∷◌, length}
use Rattle.jt_syntax.specs.declared.operator.ArithmeticOperator.TheVariants as arithmetic
use Rattle.jt_syntax.specs.declared.operator.Class.TheVariants as class
use Rattle.jt_syntax.specs.declared.operator.Connective.TheVariants as connective
use Rattle.jt_syntax.specs.declared.script.Identifier.{Identifier}
use Rattle.jt_syntax.specs.Tree.{Tree, Trees, Terms, Arms, Leap, Step, Steps}
use Rattle.jt_syntax.specs.Tree as tree
use Rattle.jt_program.specs.declared.code.Literal.TheVariants as literal
use Rattle.jt_program.specs.Plan.{Plan, Plans, Operands, Comparisons, Choices, Pieces, BodyPlan}
use Rattle.jt_program.specs.Plan as plan
use Rattle.jt_program.specs.View.{PiecePlan, piece_before}
use Rattle.jt_program.specs.View as piece
use Rattle.jt_names.specs.declared.functions.Signature.{Signature}
use Rattle.jt_outline.specs.declared.mark.ScopeKind.TheVariants as kind
use Rattle.jt_outline.specs.Marks.{no_marks}
use Rattle.jt_outline.specs.Outlines.{marks, marks_steps}
use Rattle.jt_scopes.specs.declared.scope.Scope.{Scope}
use Rattle.jt_scopes.specs.Scopes.{scope_of}
use Rattle.jt_scopes.specs.Slots.{first}
use Rattle.jt_lowered.specs.Nodes.{before}
use Rattle.jt_lowered.specs.Lowered.{written, number_literal, least_literal, greatest_literal, nothing_literal, operation_of, comparison_of, operated, updated, callee_of}
use Rattle.jt_bound.specs.Made.{WalkResult, made, with, both, three, four}
use Rattle.jt_bound.specs.Making.{making_of, spawned}
use Rattle.jt_bound.specs.Slots.{target, interpolated, slot_of}

-- what names go by beside the scopes
pub record Numbers : Type 0 where
  pub constants : List Identifier
  pub functions : List Signature

-- the scope of a loop in the scopes c, with the variable of a `for`
abbrev pub loop_scope : List Scope → List Identifier → Steps → Scope
loop_scope c is ss = scope_of c kind.Loop 0 is (marks_steps ss no_marks)

-- that of a task's body, with the place of the macro word
abbrev pub task_scope : List Scope → ℕ → Tree → Scope
task_scope c at e = scope_of c kind.Task at [] (marks e no_marks)

abbrev pub sync_scope : List Scope → Tree → Scope
sync_scope c e = scope_of c kind.Sync 0 [] (marks e no_marks)

abbrev pub piece_of : Tree → Plan → PiecePlan
piece_of (tree.text t) p = piece.text t
piece_of e p = piece.value p

-- a loop's own variables are the slots from the first one of its scope on
abbrev pub while_in : Scope → List Scope → Plan → Plans → Plan
while_in r c t ps = plan.while (first r c) (length r.names) t (plan.block ps)

abbrev pub for_in : Scope → List Scope → Plan → Plan → Plans → Plan
for_in r c a b ps = plan.for (first r c) (length r.names) a b (plan.block ps)

-- x: what names go by; c: the scopes round the tree; s: the bodies of the tasks before it. A task of an
-- `@async` or for a pool is made like any other.
abbrev mutual
  pub bound : Numbers → List Scope → List BodyPlan → Tree → WalkResult (List BodyPlan) Plan
  bound x c s (tree.text t) = made nothing_literal s
  bound x c s (tree.number n) = made (number_literal n) s
  bound x c s (tree.truth b) = made (plan.literal (literal.Flag b)) s
  bound x c s (tree.name i) = made (written (target x.constants c i.name)) s
  bound x c s (tree.interpolation at i) = made (written (interpolated x.constants c i.name)) s
  bound x c s (tree.group e) = bound x c s e
  bound x c s (tree.call i es) = with (plan.call (callee_of x.functions i.name)) (bound_all x c s es)
  bound x c s (tree.println es) = with plan.print (bound_pieces x c s es)
  bound x c s (tree.error t) = made (plan.error t) s
  bound x c s tree.unbuffered = made nothing_literal s
  bound x c s (tree.channel e) = made nothing_literal s
  bound x c s (tree.atomic e) = made nothing_literal s
  bound x c s tree.least = made least_literal s
  bound x c s tree.greatest = made greatest_literal s
  bound x c s tree.random = made nothing_literal s
  bound x c s (tree.random_in a b) = made nothing_literal s
  bound x c s (tree.notify e b) = made nothing_literal s
  bound x c s (tree.read i) = made nothing_literal s
  bound x c s (tree.power a b) = both (λ p q. operated p arithmetic.Power q) (bound x c s a) (λ s. bound x c s b)
  bound x c s (tree.unary o e) = with (plan.unary o) (bound x c s e)
  bound x c s (tree.chain class.Or e es) = both (plan.connection connective.Or) (bound x c s e) (λ s. bound_connected x c s es)
  bound x c s (tree.chain class.And e es) = both (plan.connection connective.And) (bound x c s e) (λ s. bound_connected x c s es)
  bound x c s (tree.chain class.Comparison e es) = both plan.comparison (bound x c s e) (λ s. bound_comparisons x c s es)
  bound x c s (tree.chain _ e es) = both plan.operation (bound x c s e) (λ s. bound_operands x c s es)
  bound x c s (tree.conditional t a b) = three (λ t a b. plan.branch (plan.choice t a plan.no_choices) b) (bound x c s t) (λ s. bound x c s a) (λ s. bound x c s b)
  bound x c s (tree.block ss) = with plan.block (bound_steps x c s ss)
  bound x c s (tree.branches t ss arms) =
      four (λ t ps arms last. plan.branch (plan.choice t (plan.block ps) arms) last) (bound x c s t) (λ s. bound_steps x c s ss) (λ s. bound_arms x c s arms) (λ s. bound_otherwise x c s arms)
  bound x c s (tree.while t ss) = both (while_in (loop_scope c [] ss) c) (bound x c s t) (λ s. bound_steps x (loop_scope c [] ss ∷ c) s ss)
  bound x c s (tree.for_range i a b ss) =
      three (for_in (loop_scope c (i ∷ []) ss) c) (bound x c s a) (λ s. bound x c s b) (λ s. bound_steps x (loop_scope c (i ∷ []) ss ∷ c) s ss)
  bound x c s (tree.for_each i e ss) = made nothing_literal s
  bound x c s (tree.spawn at p e) = spawned (making_of (task_scope c at e) c) (bound x (task_scope c at e ∷ c) s e)
  bound x c s (tree.async at e) = spawned (making_of (task_scope c at e) c) (bound x (task_scope c at e ∷ c) s e)
  bound x c s (tree.sync e) = with plan.sync (bound x (sync_scope c e ∷ c) s e)
  bound x c s (tree.threads at o i a b ss) = made nothing_literal s

  pub bound_all : Numbers → List Scope → List BodyPlan → Trees → WalkResult (List BodyPlan) Plans
  bound_all x c s tree.no_trees = made plan.no_plans s
  bound_all x c s (tree.tree e es) = both plan.plan (bound x c s e) (λ s. bound_all x c s es)

  pub bound_pieces : Numbers → List Scope → List BodyPlan → Trees → WalkResult (List BodyPlan) Pieces
  bound_pieces x c s tree.no_trees = made plan.no_pieces s
  bound_pieces x c s (tree.tree e es) = both (λ p ps. piece_before (piece_of e p) ps) (bound x c s e) (λ s. bound_pieces x c s es)

  pub bound_operands : Numbers → List Scope → List BodyPlan → Terms → WalkResult (List BodyPlan) Operands
  bound_operands x c s tree.no_terms = made plan.no_operands s
  bound_operands x c s (tree.term o e es) = both (plan.operand (operation_of o)) (bound x c s e) (λ s. bound_operands x c s es)

  pub bound_comparisons : Numbers → List Scope → List BodyPlan → Terms → WalkResult (List BodyPlan) Comparisons
  bound_comparisons x c s tree.no_terms = made plan.no_comparisons s
  bound_comparisons x c s (tree.term o e es) = both (plan.compared (comparison_of o)) (bound x c s e) (λ s. bound_comparisons x c s es)

  -- operands of `&&` or `||`
  pub bound_connected : Numbers → List Scope → List BodyPlan → Terms → WalkResult (List BodyPlan) Plans
  bound_connected x c s tree.no_terms = made plan.no_plans s
  bound_connected x c s (tree.term o e es) = both plan.plan (bound x c s e) (λ s. bound_connected x c s es)

  pub bound_arms : Numbers → List Scope → List BodyPlan → Arms → WalkResult (List BodyPlan) Choices
  bound_arms x c s tree.no_arms = made plan.no_choices s
  bound_arms x c s (tree.otherwise ss) = made plan.no_choices s
  bound_arms x c s (tree.arm e ss arms) = three (λ t ps arms. plan.choice t (plan.block ps) arms) (bound x c s e) (λ s. bound_steps x c s ss) (λ s. bound_arms x c s arms)

  -- s: the bodies up to the end of the arms
  pub bound_otherwise : Numbers → List Scope → List BodyPlan → Arms → WalkResult (List BodyPlan) Plan
  bound_otherwise x c s tree.no_arms = made nothing_literal s
  bound_otherwise x c s (tree.otherwise ss) = with plan.block (bound_steps x c s ss)
  bound_otherwise x c s (tree.arm e ss arms) = bound_otherwise x c s arms

  pub bound_leap : Numbers → List Scope → List BodyPlan → Leap → WalkResult (List BodyPlan) Plan
  bound_leap x c s (tree.return_nothing at) = made (plan.return nothing_literal) s
  bound_leap x c s (tree.return_value at e) = with plan.return (bound x c s e)
  bound_leap x c s (tree.break_loop at) = made plan.break s
  bound_leap x c s (tree.continue_loop at) = made plan.continue s

  -- a guard is its operands with the jump as the last one
  pub bound_step : Numbers → List Scope → List BodyPlan → Step → WalkResult (List BodyPlan) Plan
  bound_step x c s (tree.assign i o e) = with (λ p. plan.assign (slot_of c i.name) (updated o (written (target x.constants c i.name)) p)) (bound x c s e)
  bound_step x c s (tree.store i e) = made nothing_literal s
  bound_step x c s (tree.jump l) = bound_leap x c s l
  bound_step x c s (tree.guard k e es l) =
      three (λ p ps l. plan.connection k p (before ps (plan.plan l plan.no_plans))) (bound x c s e) (λ s. bound_connected x c s es) (λ s. bound_leap x c s l)
  bound_step x c s (tree.value e) = bound x c s e

  pub bound_steps : Numbers → List Scope → List BodyPlan → Steps → WalkResult (List BodyPlan) Plans
  bound_steps x c s tree.no_steps = made plan.no_plans s
  bound_steps x c s (tree.step t ts) = both plan.plan (bound_step x c s t) (λ s. bound_steps x c s ts)
