-- What a walk makes of a tree that takes the scopes in the order in which they begin: the plan of the tree
-- and the bodies of its tasks, as in `Bound`.
use Rattle.std.specs.Prelude.{List, [], ◌∷◌}
use Rattle.jt_syntax.specs.declared.operator.ArithmeticOperator.TheVariants as arithmetic
use Rattle.jt_syntax.specs.declared.operator.BinaryOperator.{BinaryOperator}
use Rattle.jt_syntax.specs.Tree.{Tree, Trees, Terms, Arms, Leap, Step, Steps}
use Rattle.jt_syntax.specs.Tree as tree
use Rattle.jt_program.specs.declared.code.Literal.TheVariants as literal
use Rattle.jt_program.specs.Plan.{Plan, Plans, Choices, Pieces}
use Rattle.jt_program.specs.Plan as plan
use Rattle.jt_program.specs.View.{piece_before}
use Rattle.jt_lowered.specs.Loops.{while_of, for_of}
use Rattle.jt_lowered.specs.Chains.{chained, guarded}
use Rattle.jt_bound.specs.Bound.{Numbers, piece_of}
use Rattle.jt_lowered.specs.Lowered.{written, number_literal, least_literal, greatest_literal, nothing_literal, operated, updated, callee_of}
use Rattle.jt_bound.specs.Made.{WalkResult, made, with, both, three, four}
use Rattle.jt_bound.specs.Slots.{target, interpolated, slot_of}
use Rattle.jt_bound.specs.States.{WalkState, entered, within, turned, tasked}

-- x: what names go by; s: where the walk stands
abbrev mutual
  pub walked : Numbers → WalkState → Tree → WalkResult WalkState Plan
  walked x s (tree.text t) = made nothing_literal s
  walked x s (tree.number n) = made (number_literal n) s
  walked x s (tree.truth b) = made (plan.literal (literal.Flag b)) s
  walked x s (tree.name i) = made (written (target x.constants s.chain i.name)) s
  walked x s (tree.interpolation at i) = made (written (interpolated x.constants s.chain i.name)) s
  walked x s (tree.group e) = walked x s e
  walked x s (tree.call i es) = with (plan.call (callee_of x.functions i.name)) (walked_all x s es)
  walked x s (tree.println es) = with plan.print (walked_pieces x s es)
  walked x s (tree.error t) = made (plan.error t) s
  walked x s tree.unbuffered = made nothing_literal s
  walked x s (tree.channel e) = made nothing_literal s
  walked x s (tree.atomic e) = made nothing_literal s
  walked x s tree.least = made least_literal s
  walked x s tree.greatest = made greatest_literal s
  walked x s tree.random = made nothing_literal s
  walked x s (tree.random_in a b) = made nothing_literal s
  walked x s (tree.notify e b) = made nothing_literal s
  walked x s (tree.read i) = made nothing_literal s
  walked x s (tree.power a b) = both (λ p q. operated p arithmetic.Power q) (walked x s a) (λ s. walked x s b)
  walked x s (tree.unary o e) = with (plan.unary o) (walked x s e)
  walked x s (tree.chain k e es) = both (chained k) (walked x s e) (λ s. walked_terms x s es)
  walked x s (tree.conditional t a b) = three (λ t a b. plan.branch (plan.choice t a plan.no_choices) b) (walked x s t) (λ s. walked x s a) (λ s. walked x s b)
  walked x s (tree.block ss) = with plan.block (walked_steps x s ss)
  walked x s (tree.branches t ss arms) =
      four (λ t ps arms last. plan.branch (plan.choice t (plan.block ps) arms) last) (walked x s t) (λ s. walked_steps x s ss) (λ s. walked_arms x s arms) (λ s. walked_otherwise x s arms)
  walked x s (tree.while t ss) = both while_of (walked x s t) (λ s. turned s (with plan.block (walked_steps x (entered s) ss)))
  walked x s (tree.for_range i a b ss) =
      three for_of (walked x s a) (λ s. walked x s b) (λ s. turned s (with plan.block (walked_steps x (entered s) ss)))
  walked x s (tree.for_each i e ss) = made nothing_literal s
  walked x s (tree.spawn at p e) = tasked s (walked x (entered s) e)
  walked x s (tree.async at e) = tasked s (walked x (entered s) e)
  walked x s (tree.sync e) = with plan.sync (within (walked x (entered s) e))
  walked x s (tree.threads at o i a b ss) = made nothing_literal s

  pub walked_all : Numbers → WalkState → Trees → WalkResult WalkState Plans
  walked_all x s tree.no_trees = made plan.no_plans s
  walked_all x s (tree.tree e es) = both plan.plan (walked x s e) (λ s. walked_all x s es)

  pub walked_pieces : Numbers → WalkState → Trees → WalkResult WalkState Pieces
  walked_pieces x s tree.no_trees = made plan.no_pieces s
  walked_pieces x s (tree.tree e es) = both (λ p ps. piece_before (piece_of e p) ps) (walked x s e) (λ s. walked_pieces x s es)

  pub walked_terms : Numbers → WalkState → Terms → WalkResult WalkState (List (BinaryOperator × Plan))
  walked_terms x s tree.no_terms = made [] s
  walked_terms x s (tree.term o e es) = both (λ p ps. (o, p) ∷ ps) (walked x s e) (λ s. walked_terms x s es)

  pub walked_arms : Numbers → WalkState → Arms → WalkResult WalkState Choices
  walked_arms x s tree.no_arms = made plan.no_choices s
  walked_arms x s (tree.otherwise ss) = made plan.no_choices s
  walked_arms x s (tree.arm e ss arms) = three (λ t ps arms. plan.choice t (plan.block ps) arms) (walked x s e) (λ s. walked_steps x s ss) (λ s. walked_arms x s arms)

  -- s: where the walk stands at the end of the arms
  pub walked_otherwise : Numbers → WalkState → Arms → WalkResult WalkState Plan
  walked_otherwise x s tree.no_arms = made nothing_literal s
  walked_otherwise x s (tree.otherwise ss) = with plan.block (walked_steps x s ss)
  walked_otherwise x s (tree.arm e ss arms) = walked_otherwise x s arms

  pub walked_leap : Numbers → WalkState → Leap → WalkResult WalkState Plan
  walked_leap x s (tree.return_nothing at) = made (plan.return nothing_literal) s
  walked_leap x s (tree.return_value at e) = with plan.return (walked x s e)
  walked_leap x s (tree.break_loop at) = made plan.break s
  walked_leap x s (tree.continue_loop at) = made plan.continue s

  -- a guard is its operands with the jump as the last one
  pub walked_step : Numbers → WalkState → Step → WalkResult WalkState Plan
  walked_step x s (tree.assign i o e) = with (λ p. plan.assign (slot_of s.chain i.name) (updated o (written (target x.constants s.chain i.name)) p)) (walked x s e)
  walked_step x s (tree.store i e) = made nothing_literal s
  walked_step x s (tree.jump l) = walked_leap x s l
  walked_step x s (tree.guard k e es l) = three (guarded k) (walked x s e) (λ s. walked_terms x s es) (λ s. walked_leap x s l)
  walked_step x s (tree.value e) = walked x s e

  pub walked_steps : Numbers → WalkState → Steps → WalkResult WalkState Plans
  walked_steps x s tree.no_steps = made plan.no_plans s
  walked_steps x s (tree.step t ts) = both plan.plan (walked_step x s t) (λ s. walked_steps x s ts)
