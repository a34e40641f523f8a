-- The code of a program's plain data, by which a proof tells its values apart: a tree of labels, from
-- which the data are read back.
use Rattle.std.specs.Prelude.{◌≡◌, ℕ, Bool, List, refl}
use mathlib.Core.Path.{sym, ap, subst}
use base.Stored.{Gv, gnil, gnum, gcons}
use Rattle.std.specs.Coded.{Coded, code_by, coded×, coded_ℕ, coded_list}
use Rattle.jt_syntax.specs.declared.operator.ArithmeticOperator.{ArithmeticOperator}
use Rattle.jt_syntax.specs.declared.operator.ComparisonOperator.{ComparisonOperator}
use Rattle.jt_syntax.specs.declared.operator.Connective.{Connective}
use Rattle.jt_syntax.specs.declared.operator.UnaryOperator.{UnaryOperator}
use Rattle.jt_program.specs.declared.code.Callee.{Callee}
use Rattle.jt_program.specs.declared.code.Literal.{Literal}
use Rattle.jt_program.specs.Plan.{Plan, Plans, Operands, Comparisons, Choices, Pieces, BodyPlan, ProgramPlan}
use Rattle.jt_program.specs.Plan as plan

-- ---- trees of labels

pub data LabelTree (L : Type 0) : Type 0 where
  tip : LabelTree L
  node : L → LabelTree L → LabelTree L → LabelTree L

abbrev pub head : Gv → Gv
head gnil = gnil
head (gnum n) = gnil
head (gcons a b) = a

abbrev pub tail : Gv → Gv
tail gnil = gnil
tail (gnum n) = gnil
tail (gcons a b) = b

abbrev pub IsCons : Gv → Type 0
IsCons gnil = ⊥
IsCons (gnum n) = ⊥
IsCons (gcons a b) = Unit {0}

module _ {L : Type 0} (c : Coded L) where
  abbrev pub code_tree : LabelTree L → Gv
  code_tree tip = gnil
  code_tree (node l a b) = gcons (c.code l) (gcons (code_tree a) (code_tree b))

  pub tree_inj : (t u : LabelTree L) → code_tree t ≡ code_tree u → t ≡ u
  tree_inj tip tip e = refl
  tree_inj (node l a b) (node m d f) e =
      λ i. node (c.inj l m (ap head e) i) (tree_inj a d (ap (λ g. head (tail g)) e) i) (tree_inj b f (ap (λ g. tail (tail g)) e) i)
  tree_inj tip (node m d f) e = absurd (subst IsCons (sym e) tt)
  tree_inj (node l a b) tip e = absurd (subst IsCons e tt)

  abbrev pub coded_tree : Coded (LabelTree L)
  coded_tree = record { code = code_tree; inj = tree_inj }

-- ---- the parts of a program

-- what a part is, beside the parts that it holds
pub data Label : Type 0 where
  literal_label : Literal → Label
  variable_label : ℕ → Label
  constant_label : ℕ → Label
  assign_label : ℕ → Label
  define_label : ℕ → Label
  unary_label : UnaryOperator → Label
  operation_label : Label
  comparison_label : Label
  connection_label : Connective → Label
  branch_label : Label
  block_label : Label
  while_label : ℕ → ℕ → Label
  for_label : ℕ → ℕ → Label
  call_label : Callee → Label
  print_label : Label
  error_label : List ℕ → Label
  spawn_label : ℕ → List ℕ → Bool → Label
  sync_label : Label
  return_label : Label
  break_label : Label
  continue_label : Label
  plan_label : Label
  operand_label : ArithmeticOperator → Label
  compared_label : ComparisonOperator → Label
  choice_label : Label
  value_piece_label : Label
  text_piece_label : List ℕ → Label
  part_label : Label

abbrev mutual
  pub plan_tree : Plan → LabelTree Label
  plan_tree (plan.literal l) = node (literal_label l) tip tip
  plan_tree (plan.variable n) = node (variable_label n) tip tip
  plan_tree (plan.constant n) = node (constant_label n) tip tip
  plan_tree (plan.assign n p) = node (assign_label n) (plan_tree p) tip
  plan_tree (plan.define n p) = node (define_label n) (plan_tree p) tip
  plan_tree (plan.unary o p) = node (unary_label o) (plan_tree p) tip
  plan_tree (plan.operation p q) = node operation_label (plan_tree p) (operands_tree q)
  plan_tree (plan.comparison p q) = node comparison_label (plan_tree p) (comparisons_tree q)
  plan_tree (plan.connection c p q) = node (connection_label c) (plan_tree p) (plans_tree q)
  plan_tree (plan.branch p q) = node branch_label (choices_tree p) (plan_tree q)
  plan_tree (plan.block p) = node block_label (plans_tree p) tip
  plan_tree (plan.while n m p q) = node (while_label n m) (plan_tree p) (plan_tree q)
  plan_tree (plan.for n m p q r) = node (for_label n m) (plan_tree p) (node part_label (plan_tree q) (plan_tree r))
  plan_tree (plan.call f p) = node (call_label f) (plans_tree p) tip
  plan_tree (plan.print p) = node print_label (pieces_tree p) tip
  plan_tree (plan.error t) = node (error_label t) tip tip
  plan_tree (plan.spawn n xs b) = node (spawn_label n xs b) tip tip
  plan_tree (plan.sync p) = node sync_label (plan_tree p) tip
  plan_tree (plan.return p) = node return_label (plan_tree p) tip
  plan_tree plan.break = node break_label tip tip
  plan_tree plan.continue = node continue_label tip tip

  pub plans_tree : Plans → LabelTree Label
  plans_tree plan.no_plans = tip
  plans_tree (plan.plan p q) = node plan_label (plan_tree p) (plans_tree q)

  pub operands_tree : Operands → LabelTree Label
  operands_tree plan.no_operands = tip
  operands_tree (plan.operand o p q) = node (operand_label o) (plan_tree p) (operands_tree q)

  pub comparisons_tree : Comparisons → LabelTree Label
  comparisons_tree plan.no_comparisons = tip
  comparisons_tree (plan.compared o p q) = node (compared_label o) (plan_tree p) (comparisons_tree q)

  pub choices_tree : Choices → LabelTree Label
  choices_tree plan.no_choices = tip
  choices_tree (plan.choice p q r) = node choice_label (plan_tree p) (node part_label (plan_tree q) (choices_tree r))

  pub pieces_tree : Pieces → LabelTree Label
  pieces_tree plan.no_pieces = tip
  pieces_tree (plan.value_piece p q) = node value_piece_label (plan_tree p) (pieces_tree q)
  pieces_tree (plan.text_piece t p) = node (text_piece_label t) (pieces_tree p) tip

abbrev mutual
  pub plan_in : LabelTree Label → Plan
  plan_in (node (literal_label l) t1 t2) = plan.literal l
  plan_in (node (variable_label n) t1 t2) = plan.variable n
  plan_in (node (constant_label n) t1 t2) = plan.constant n
  plan_in (node (assign_label n) p t1) = plan.assign n (plan_in p)
  plan_in (node (define_label n) p t1) = plan.define n (plan_in p)
  plan_in (node (unary_label o) p t1) = plan.unary o (plan_in p)
  plan_in (node operation_label p q) = plan.operation (plan_in p) (operands_in q)
  plan_in (node comparison_label p q) = plan.comparison (plan_in p) (comparisons_in q)
  plan_in (node (connection_label c) p q) = plan.connection c (plan_in p) (plans_in q)
  plan_in (node branch_label p q) = plan.branch (choices_in p) (plan_in q)
  plan_in (node block_label p t1) = plan.block (plans_in p)
  plan_in (node (while_label n m) p q) = plan.while n m (plan_in p) (plan_in q)
  plan_in (node (for_label n m) p (node l q r)) = plan.for n m (plan_in p) (plan_in q) (plan_in r)
  plan_in (node (call_label f) p t1) = plan.call f (plans_in p)
  plan_in (node print_label p t1) = plan.print (pieces_in p)
  plan_in (node (error_label t) t1 t2) = plan.error t
  plan_in (node (spawn_label n xs b) t1 t2) = plan.spawn n xs b
  plan_in (node sync_label p t1) = plan.sync (plan_in p)
  plan_in (node return_label p t1) = plan.return (plan_in p)
  plan_in (node continue_label t1 t2) = plan.continue
  plan_in t = plan.break

  pub plans_in : LabelTree Label → Plans
  plans_in (node plan_label p q) = plan.plan (plan_in p) (plans_in q)
  plans_in t = plan.no_plans

  pub operands_in : LabelTree Label → Operands
  operands_in (node (operand_label o) p q) = plan.operand o (plan_in p) (operands_in q)
  operands_in t = plan.no_operands

  pub comparisons_in : LabelTree Label → Comparisons
  comparisons_in (node (compared_label o) p q) = plan.compared o (plan_in p) (comparisons_in q)
  comparisons_in t = plan.no_comparisons

  pub choices_in : LabelTree Label → Choices
  choices_in (node choice_label p (node l q r)) = plan.choice (plan_in p) (plan_in q) (choices_in r)
  choices_in t = plan.no_choices

  pub pieces_in : LabelTree Label → Pieces
  pieces_in (node value_piece_label p q) = plan.value_piece (plan_in p) (pieces_in q)
  pieces_in (node (text_piece_label t) p t1) = plan.text_piece t (pieces_in p)
  pieces_in t = plan.no_pieces

mutual
  pub plan_back : (p : Plan) → plan_in (plan_tree p) ≡ p
  plan_back (plan.literal l) = refl
  plan_back (plan.variable n) = refl
  plan_back (plan.constant n) = refl
  plan_back (plan.assign n p) = λ i. plan.assign n (plan_back p i)
  plan_back (plan.define n p) = λ i. plan.define n (plan_back p i)
  plan_back (plan.unary o p) = λ i. plan.unary o (plan_back p i)
  plan_back (plan.operation p q) = λ i. plan.operation (plan_back p i) (operands_back q i)
  plan_back (plan.comparison p q) = λ i. plan.comparison (plan_back p i) (comparisons_back q i)
  plan_back (plan.connection c p q) = λ i. plan.connection c (plan_back p i) (plans_back q i)
  plan_back (plan.branch p q) = λ i. plan.branch (choices_back p i) (plan_back q i)
  plan_back (plan.block p) = λ i. plan.block (plans_back p i)
  plan_back (plan.while n m p q) = λ i. plan.while n m (plan_back p i) (plan_back q i)
  plan_back (plan.for n m p q r) = λ i. plan.for n m (plan_back p i) (plan_back q i) (plan_back r i)
  plan_back (plan.call f p) = λ i. plan.call f (plans_back p i)
  plan_back (plan.print p) = λ i. plan.print (pieces_back p i)
  plan_back (plan.error t) = refl
  plan_back (plan.spawn n xs b) = refl
  plan_back (plan.sync p) = λ i. plan.sync (plan_back p i)
  plan_back (plan.return p) = λ i. plan.return (plan_back p i)
  plan_back plan.break = refl
  plan_back plan.continue = refl

  pub plans_back : (p : Plans) → plans_in (plans_tree p) ≡ p
  plans_back plan.no_plans = refl
  plans_back (plan.plan p q) = λ i. plan.plan (plan_back p i) (plans_back q i)

  pub operands_back : (p : Operands) → operands_in (operands_tree p) ≡ p
  operands_back plan.no_operands = refl
  operands_back (plan.operand o p q) = λ i. plan.operand o (plan_back p i) (operands_back q i)

  pub comparisons_back : (p : Comparisons) → comparisons_in (comparisons_tree p) ≡ p
  comparisons_back plan.no_comparisons = refl
  comparisons_back (plan.compared o p q) = λ i. plan.compared o (plan_back p i) (comparisons_back q i)

  pub choices_back : (p : Choices) → choices_in (choices_tree p) ≡ p
  choices_back plan.no_choices = refl
  choices_back (plan.choice p q r) = λ i. plan.choice (plan_back p i) (plan_back q i) (choices_back r i)

  pub pieces_back : (p : Pieces) → pieces_in (pieces_tree p) ≡ p
  pieces_back plan.no_pieces = refl
  pieces_back (plan.value_piece p q) = λ i. plan.value_piece (plan_back p i) (pieces_back q i)
  pieces_back (plan.text_piece t p) = λ i. plan.text_piece t (pieces_back p i)

-- ---- whole programs

module _ (c : Coded Label) where
  abbrev pub coded_plan : Coded Plan
  coded_plan = code_by (LabelTree Label) (coded_tree c) plan_tree plan_in plan_back

  abbrev pub coded_body : Coded BodyPlan
  coded_body = code_by (ℕ × Plan) (coded× coded_ℕ coded_plan) (λ b. (b.variables, b.code)) (λ p. record { variables = p.0; code = p.1 }) (λ _. refl)

  abbrev pub coded_program : Coded ProgramPlan
  coded_program =
      code_by (ℕ × (List BodyPlan × List BodyPlan)) (coded× coded_ℕ (coded× (coded_list coded_body) (coded_list coded_body)))
      (λ p. (p.constants, (p.functions, p.tasks)))
      (λ t. record { constants = t.0; functions = t.1.0; tasks = t.1.1 })
      (λ _. refl)
