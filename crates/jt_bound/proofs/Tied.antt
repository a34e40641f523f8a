-- A walk that takes the scopes in the order in which they begin makes what `Bound` says.
use Rattle.std.proofs.Common.{◌≡◌, List, [], ◌∷◌, refl, ap, ◌∙◌, length}
use Rattle.jt_syntax.specs.declared.operator.ArithmeticOperator.TheVariants as arithmetic
use Rattle.jt_syntax.specs.declared.operator.AssignmentOperator.{AssignmentOperator}
use Rattle.jt_syntax.specs.declared.operator.AssignmentOperator.TheVariants as assigns
use Rattle.jt_syntax.specs.declared.script.Identifier.{Identifier}
use Rattle.jt_syntax.specs.Tree.{Tree, Trees, Terms, Arms, Leap, Step, Steps}
use Rattle.jt_syntax.specs.Tree as tree
use Rattle.jt_program.specs.Plan.{Plans, BodyPlan}
use Rattle.jt_program.specs.Plan as plan
use Rattle.jt_program.specs.View.{piece_before}
use Rattle.jt_outline.specs.declared.mark.ScopeKind.TheVariants as kind
use Rattle.jt_outline.specs.Marks.{Marks, no_marks, mark, scope}
use Rattle.jt_outline.specs.Outlines.{marks, marks_all, marks_terms, marks_arms, marks_leap, marks_step, marks_steps}
use Rattle.jt_scopes.specs.declared.scope.Scope.{Scope}
use Rattle.jt_scopes.specs.Scopes.{begun}
use Rattle.jt_scopes.specs.Slots.{first}
use Rattle.jt_lowered.specs.Loops.{TurnPlan, turn_of, while_of, for_of}
use Rattle.jt_lowered.specs.Chains.{chained, guarded}
use Rattle.jt_bound.specs.Bound.{Numbers, piece_of, loop_scope, task_scope, sync_scope, bound, bound_all, bound_pieces, bound_arms, bound_otherwise, bound_leap, bound_step, bound_steps}
use Rattle.jt_lowered.specs.Lowered.{written, operated, updated, callee_of}
use Rattle.jt_bound.specs.Made.{WalkResult, made, with, both, three, four}
use Rattle.jt_bound.specs.Making.{making_of}
use Rattle.jt_bound.specs.Slots.{target, slot_of}
use Rattle.jt_bound.specs.States.{WalkState, standing, entered, within, turned, forked}
use Rattle.jt_bound.proofs.Chains.{bound_terms, chain_bound, guard_bound}
use Rattle.jt_bound.specs.Walked.{walked, walked_all, walked_pieces, walked_terms, walked_arms, walked_otherwise, walked_leap, walked_step, walked_steps}

-- what was made in the scopes c, with these scopes still to begin
abbrev pub lifted : {A : Type 0} → List Scope → List Scope → WalkResult (List BodyPlan) A → WalkResult WalkState A
lifted c l m = made m.it (standing c l m.state)

-- in the scopes c, where l are still to begin, a part of the walk makes what it is to, and leaves k
pub record Ties {A : Type 0} (c l k : List Scope) (w : WalkState → WalkResult WalkState A) (m : List BodyPlan → WalkResult (List BodyPlan) A) : Type 0 where
  pub ties : (s : List BodyPlan) → w (standing c l s) ≡ lifted c k (m s)

-- what makes nothing of its own
pub none_tied : {A : Type 0} (c l : List Scope) (a : A) → Ties c l l (λ t. made a t) (λ s. made a s)
none_tied c l a = record { ties = λ s. refl }

-- what is made may be said in another way
same_tied : {A : Type 0} {c l k : List Scope} {w : WalkState → WalkResult WalkState A} {m n : List BodyPlan → WalkResult (List BodyPlan) A} → ((s : List BodyPlan) → m s ≡ n s) → Ties c l k w m → Ties c l k w n
same_tied {c = c} {k = k} e p = record { ties = λ s. p.ties s ∙ ap (lifted c k) (e s) }

-- one part, two, three and four
pub one_tied : {A B : Type 0} {c l k : List Scope} {w : WalkState → WalkResult WalkState A} {m : List BodyPlan → WalkResult (List BodyPlan) A} (f : A → B) → Ties c l k w m → Ties c l k (λ t. with f (w t)) (λ s. with f (m s))
one_tied f p = record { ties = λ s. ap (with f) (p.ties s) }

pub both_tied : {A B C : Type 0} {c l k j : List Scope} {w : WalkState → WalkResult WalkState A} {m : List BodyPlan → WalkResult (List BodyPlan) A} {v : WalkState → WalkResult WalkState B} {n : List BodyPlan → WalkResult (List BodyPlan) B} (f : A → B → C)
    → Ties c l k w m → Ties c k j v n → Ties c l j (λ t. both f (w t) v) (λ s. both f (m s) n)
both_tied {m = m} {v = v} f p q = record { ties = λ s. ap (λ u. both f u v) (p.ties s) ∙ ap (with (f (m s).it)) (q.ties (m s).state) }

abbrev apply : {A B : Type 0} → (A → B) → A → B
apply g a = g a

three_tied : {A B C D : Type 0} {c l k j i : List Scope} {w : WalkState → WalkResult WalkState A} {m : List BodyPlan → WalkResult (List BodyPlan) A} {v : WalkState → WalkResult WalkState B} {n : List BodyPlan → WalkResult (List BodyPlan) B}
    {u : WalkState → WalkResult WalkState C} {o : List BodyPlan → WalkResult (List BodyPlan) C} (f : A → B → C → D)
    → Ties c l k w m → Ties c k j v n → Ties c j i u o → Ties c l i (λ t. three f (w t) v u) (λ s. three f (m s) n o)
three_tied f p q r = both_tied apply (both_tied f p q) r

four_tied : {A B C D E : Type 0} {c l k j i h : List Scope} {w : WalkState → WalkResult WalkState A} {m : List BodyPlan → WalkResult (List BodyPlan) A} {v : WalkState → WalkResult WalkState B} {n : List BodyPlan → WalkResult (List BodyPlan) B}
    {u : WalkState → WalkResult WalkState C} {o : List BodyPlan → WalkResult (List BodyPlan) C} {y : WalkState → WalkResult WalkState D} {z : List BodyPlan → WalkResult (List BodyPlan) D} (f : A → B → C → D → E)
    → Ties c l k w m → Ties c k j v n → Ties c j i u o → Ties c i h y z → Ties c l h (λ t. four f (w t) v u y) (λ s. four f (m s) n o z)
four_tied f p q r e = both_tied apply (three_tied f p q r) e

-- what stands behind the last arm, in it where it is that behind `else`
abbrev last_marks : Arms → Marks → Marks
last_marks tree.no_arms r = r
last_marks (tree.otherwise ss) r = marks_steps ss r
last_marks (tree.arm e ss arms) r = last_marks arms r

-- the turn of a loop with this body in the scopes c
abbrev turn_in : List Scope → List Identifier → Steps → Plans → TurnPlan
turn_in c is ss ps = turn_of (first (loop_scope c is ss) c) (length (loop_scope c is ss).names) (plan.block ps)

-- an assignment of what is made of e
assigned_tied : (x : Numbers) (c : List Scope) (i : Identifier) (o : AssignmentOperator) (e : Tree) (r : Marks) (l : List Scope) → Ties c (begun c (marks e r) l) (begun c r l) (λ t. walked x t e) (λ s. bound x c s e)
    → Ties c (begun c (marks e r) l) (begun c r l) (λ t. walked_step x t (tree.assign i o e)) (λ s. bound_step x c s (tree.assign i o e))
assigned_tied x c i o e r l p = record { ties = λ s. ap (with (λ p. plan.assign (slot_of c i.name) (updated o (written (target x.constants c i.name)) p))) (p.ties s) }

turn_tied : (x : Numbers) (c : List Scope) (is : List Identifier) (ss : Steps) (r : Marks) (l : List Scope)
    → Ties (loop_scope c is ss ∷ c) (begun (loop_scope c is ss ∷ c) (marks_steps ss no_marks) (begun c r l)) (begun c r l) (λ t. walked_steps x t ss) (λ s. bound_steps x (loop_scope c is ss ∷ c) s ss)
    → Ties c (begun c (mark (scope kind.Loop 0 is (marks_steps ss no_marks)) r) l) (begun c r l) (λ t. turned t (with plan.block (walked_steps x (entered t) ss))) (λ s. with (turn_in c is ss) (bound_steps x (loop_scope c is ss ∷ c) s ss))
turn_tied x c is ss r l p = record { ties = λ s. ap (λ m. with (turn_in c is ss) (within m)) (p.ties s) }

mutual
  pub tied : (x : Numbers) (c : List Scope) (e : Tree) (r : Marks) (l : List Scope) → Ties c (begun c (marks e r) l) (begun c r l) (λ w. walked x w e) (λ s. bound x c s e)
  tied x c (tree.text t) r l = record { ties = λ s. refl }
  tied x c (tree.number n) r l = record { ties = λ s. refl }
  tied x c (tree.truth b) r l = record { ties = λ s. refl }
  tied x c (tree.name i) r l = record { ties = λ s. refl }
  tied x c (tree.interpolation at i) r l = record { ties = λ s. refl }
  tied x c (tree.group e) r l = record { ties = (tied x c e r l).ties }
  tied x c (tree.call i es) r l = one_tied (plan.call (callee_of x.functions i.name)) (tied_all x c es r l)
  tied x c (tree.println es) r l = one_tied plan.print (tied_pieces x c es r l)
  tied x c (tree.error t) r l = record { ties = λ s. refl }
  tied x c tree.unbuffered r l = record { ties = λ s. refl }
  tied x c (tree.channel e) r l = record { ties = λ s. refl }
  tied x c (tree.atomic e) r l = record { ties = λ s. refl }
  tied x c tree.least r l = record { ties = λ s. refl }
  tied x c tree.greatest r l = record { ties = λ s. refl }
  tied x c tree.random r l = record { ties = λ s. refl }
  tied x c (tree.random_in a b) r l = record { ties = λ s. refl }
  tied x c (tree.notify e b) r l = record { ties = λ s. refl }
  tied x c (tree.read i) r l = record { ties = λ s. refl }
  tied x c (tree.power a b) r l = both_tied (λ p q. operated p arithmetic.Power q) (tied x c a (marks b r) l) (tied x c b r l)
  tied x c (tree.unary o e) r l = one_tied (plan.unary o) (tied x c e r l)
  tied x c (tree.chain k e es) r l = same_tied (λ s. chain_bound x c s k e es) (both_tied (chained k) (tied x c e (marks_terms es r) l) (tied_terms x c es r l))
  tied x c (tree.conditional t a b) r l = three_tied (λ t a b. plan.branch (plan.choice t a plan.no_choices) b) (tied x c t (marks a (marks b r)) l) (tied x c a (marks b r) l) (tied x c b r l)
  tied x c (tree.block ss) r l = one_tied plan.block (tied_steps x c ss r l)
  tied x c (tree.branches t ss arms) r l =
      four_tied (λ t ps arms last. plan.branch (plan.choice t (plan.block ps) arms) last)
      (tied x c t (marks_steps ss (marks_arms arms r)) l) (tied_steps x c ss (marks_arms arms r) l) (tied_arms x c arms r l) (tied_otherwise x c arms r l)
  tied x c (tree.while t ss) r l = both_tied while_of (tied x c t (mark (scope kind.Loop 0 [] (marks_steps ss no_marks)) r) l) (turn_tied x c [] ss r l (tied_steps x (loop_scope c [] ss ∷ c) ss no_marks (begun c r l)))
  tied x c (tree.for_range i a b ss) r l =
      three_tied for_of (tied x c a (marks b (mark (scope kind.Loop 0 (i ∷ []) (marks_steps ss no_marks)) r)) l) (tied x c b (mark (scope kind.Loop 0 (i ∷ []) (marks_steps ss no_marks)) r) l)
      (turn_tied x c (i ∷ []) ss r l (tied_steps x (loop_scope c (i ∷ []) ss ∷ c) ss no_marks (begun c r l)))
  tied x c (tree.for_each i e ss) r l = record { ties = λ s. refl }
  tied x c (tree.spawn at p e) r l = record { ties = λ s. ap (λ m. forked (making_of (task_scope c at e) c) (within m)) ((tied x (task_scope c at e ∷ c) e no_marks (begun c r l)).ties s) }
  tied x c (tree.async at e) r l = record { ties = λ s. ap (λ m. forked (making_of (task_scope c at e) c) (within m)) ((tied x (task_scope c at e ∷ c) e no_marks (begun c r l)).ties s) }
  tied x c (tree.sync e) r l = record { ties = λ s. ap (λ m. with plan.sync (within m)) ((tied x (sync_scope c e ∷ c) e no_marks (begun c r l)).ties s) }
  tied x c (tree.threads at o i a b ss) r l = record { ties = λ s. refl }

  tied_all : (x : Numbers) (c : List Scope) (es : Trees) (r : Marks) (l : List Scope) → Ties c (begun c (marks_all es r) l) (begun c r l) (λ w. walked_all x w es) (λ s. bound_all x c s es)
  tied_all x c tree.no_trees r l = record { ties = λ s. refl }
  tied_all x c (tree.tree e es) r l = both_tied plan.plan (tied x c e (marks_all es r) l) (tied_all x c es r l)

  tied_pieces : (x : Numbers) (c : List Scope) (es : Trees) (r : Marks) (l : List Scope) → Ties c (begun c (marks_all es r) l) (begun c r l) (λ w. walked_pieces x w es) (λ s. bound_pieces x c s es)
  tied_pieces x c tree.no_trees r l = record { ties = λ s. refl }
  tied_pieces x c (tree.tree e es) r l = both_tied (λ p ps. piece_before (piece_of e p) ps) (tied x c e (marks_all es r) l) (tied_pieces x c es r l)

  tied_terms : (x : Numbers) (c : List Scope) (es : Terms) (r : Marks) (l : List Scope) → Ties c (begun c (marks_terms es r) l) (begun c r l) (λ w. walked_terms x w es) (λ s. bound_terms x c s es)
  tied_terms x c tree.no_terms r l = record { ties = λ s. refl }
  tied_terms x c (tree.term o e es) r l = both_tied (λ p ps. (o, p) ∷ ps) (tied x c e (marks_terms es r) l) (tied_terms x c es r l)

  -- what stands behind `else` is left
  tied_arms : (x : Numbers) (c : List Scope) (arms : Arms) (r : Marks) (l : List Scope) → Ties c (begun c (marks_arms arms r) l) (begun c (last_marks arms r) l) (λ w. walked_arms x w arms) (λ s. bound_arms x c s arms)
  tied_arms x c tree.no_arms r l = record { ties = λ s. refl }
  tied_arms x c (tree.otherwise ss) r l = record { ties = λ s. refl }
  tied_arms x c (tree.arm e ss arms) r l = three_tied (λ t ps arms. plan.choice t (plan.block ps) arms) (tied x c e (marks_steps ss (marks_arms arms r)) l) (tied_steps x c ss (marks_arms arms r) l) (tied_arms x c arms r l)

  tied_otherwise : (x : Numbers) (c : List Scope) (arms : Arms) (r : Marks) (l : List Scope) → Ties c (begun c (last_marks arms r) l) (begun c r l) (λ w. walked_otherwise x w arms) (λ s. bound_otherwise x c s arms)
  tied_otherwise x c tree.no_arms r l = record { ties = λ s. refl }
  tied_otherwise x c (tree.otherwise ss) r l = one_tied plan.block (tied_steps x c ss r l)
  tied_otherwise x c (tree.arm e ss arms) r l = record { ties = (tied_otherwise x c arms r l).ties }

  tied_leap : (x : Numbers) (c : List Scope) (j : Leap) (r : Marks) (l : List Scope) → Ties c (begun c (marks_leap j r) l) (begun c r l) (λ w. walked_leap x w j) (λ s. bound_leap x c s j)
  tied_leap x c (tree.return_nothing at) r l = record { ties = λ s. refl }
  tied_leap x c (tree.return_value at e) r l = one_tied plan.return (tied x c e r l)
  tied_leap x c (tree.break_loop at) r l = record { ties = λ s. refl }
  tied_leap x c (tree.continue_loop at) r l = record { ties = λ s. refl }

  pub tied_step : (x : Numbers) (c : List Scope) (t : Step) (r : Marks) (l : List Scope) → Ties c (begun c (marks_step t r) l) (begun c r l) (λ w. walked_step x w t) (λ s. bound_step x c s t)
  tied_step x c (tree.assign i assigns.Plain e) r l = assigned_tied x c i assigns.Plain e r l (tied x c e r l)
  tied_step x c (tree.assign i assigns.Plus e) r l = assigned_tied x c i assigns.Plus e r l (tied x c e r l)
  tied_step x c (tree.assign i assigns.Minus e) r l = assigned_tied x c i assigns.Minus e r l (tied x c e r l)
  tied_step x c (tree.assign i assigns.Times e) r l = assigned_tied x c i assigns.Times e r l (tied x c e r l)
  tied_step x c (tree.assign i assigns.Divide e) r l = assigned_tied x c i assigns.Divide e r l (tied x c e r l)
  tied_step x c (tree.assign i assigns.Remainder e) r l = assigned_tied x c i assigns.Remainder e r l (tied x c e r l)
  tied_step x c (tree.store i e) r l = record { ties = λ s. refl }
  tied_step x c (tree.jump j) r l = record { ties = (tied_leap x c j r l).ties }
  tied_step x c (tree.guard k e es j) r l =
      same_tied (λ s. guard_bound x c s k e es j) (three_tied (guarded k) (tied x c e (marks_terms es (marks_leap j r)) l) (tied_terms x c es (marks_leap j r) l) (tied_leap x c j r l))
  tied_step x c (tree.value e) r l = record { ties = (tied x c e r l).ties }

  pub tied_steps : (x : Numbers) (c : List Scope) (ss : Steps) (r : Marks) (l : List Scope) → Ties c (begun c (marks_steps ss r) l) (begun c r l) (λ w. walked_steps x w ss) (λ s. bound_steps x c s ss)
  tied_steps x c tree.no_steps r l = record { ties = λ s. refl }
  tied_steps x c (tree.step t ts) r l = both_tied plan.plan (tied_step x c t (marks_steps ts r) l) (tied_steps x c ts r l)
