-- The plain data of trees, form by form.
use Rattle.std.proofs.Common.{◌≡◌, ℕ, List, rules}
use Rattle.jt_syntax.specs.declared.operator.ArithmeticOperator.{ArithmeticOperator}
use Rattle.jt_syntax.specs.declared.operator.ComparisonOperator.{ComparisonOperator}
use Rattle.jt_syntax.specs.declared.operator.Connective.{Connective}
use Rattle.jt_syntax.specs.declared.operator.UnaryOperator.{UnaryOperator}
use Rattle.jt_program.specs.declared.code.Callee.{Callee}
use Rattle.jt_program.specs.declared.code.Literal.{Literal}
use Rattle.jt_program.specs.declared.code.Code.{Code, the_lemmas}
use Rattle.jt_program.specs.declared.code.Code.TheVariants as code
use Rattle.jt_program.specs.declared.code.Arm.{Arm}
use Rattle.jt_program.specs.declared.code.Fork.{Fork}
use Rattle.jt_program.specs.declared.code.Piece.{Piece}
use Rattle.jt_program.specs.declared.code.Piece.TheVariants as piece
use Rattle.jt_program.specs.Plan as plan
use Rattle.jt_program.specs.View.{plan_of, plans, arm_plan, piece_plan, text, value}
use Rattle.jt_step.specs.Stack.{operands_in, comparisons_in, choices_in, pieces_in}

pub plan-Literal : (l : Literal) → plan_of (code.Literal l) ≡ plan.literal l
plan-Literal l = search (rules, the_lemmas)

pub plan-Variable : (x : ℕ) → plan_of (code.Variable x) ≡ plan.variable x
plan-Variable x = search (rules, the_lemmas)

pub plan-Constant : (k : ℕ) → plan_of (code.Constant k) ≡ plan.constant k
plan-Constant k = search (rules, the_lemmas)

pub plan-Assign : (x : ℕ) (e : Code) → plan_of (code.Assign x e) ≡ plan.assign x (plan_of e)
plan-Assign x e = search (rules, the_lemmas)

pub plan-Define : (k : ℕ) (e : Code) → plan_of (code.Define k e) ≡ plan.define k (plan_of e)
plan-Define k e = search (rules, the_lemmas)

pub plan-Unary : (o : UnaryOperator) (e : Code) → plan_of (code.Unary o e) ≡ plan.unary o (plan_of e)
plan-Unary o e = search (rules, the_lemmas)

pub plan-Operation : (e : Code) (es : List (ArithmeticOperator × Code)) → plan_of (code.Operation e es) ≡ plan.operation (plan_of e) (operands_in es)
plan-Operation e es = search (rules, the_lemmas)

pub plan-Comparison : (e : Code) (es : List (ComparisonOperator × Code)) → plan_of (code.Comparison e es) ≡ plan.comparison (plan_of e) (comparisons_in es)
plan-Comparison e es = search (rules, the_lemmas)

pub plan-Connection : (c : Connective) (e : Code) (es : List Code) → plan_of (code.Connection c e es) ≡ plan.connection c (plan_of e) (plans es)
plan-Connection c e es = search (rules, the_lemmas)

pub plan-Branch : (arms : List Arm) (e : Code) → plan_of (code.Branch arms e) ≡ plan.branch (choices_in arms) (plan_of e)
plan-Branch arms e = search (rules, the_lemmas)

pub plan-Block : (es : List Code) → plan_of (code.Block es) ≡ plan.block (plans es)
plan-Block es = search (rules, the_lemmas)

pub plan-While : (first count : ℕ) (c b : Code) → plan_of (code.While first count c b) ≡ plan.while first count (plan_of c) (plan_of b)
plan-While first count c b = search (rules, the_lemmas)

pub plan-For : (first count : ℕ) (a b e : Code) → plan_of (code.For first count a b e) ≡ plan.for first count (plan_of a) (plan_of b) (plan_of e)
plan-For first count a b e = search (rules, the_lemmas)

pub plan-Call : (f : Callee) (es : List Code) → plan_of (code.Call f es) ≡ plan.call f (plans es)
plan-Call f es = search (rules, the_lemmas)

pub plan-Print : (ps : List Piece) → plan_of (code.Print ps) ≡ plan.print (pieces_in ps)
plan-Print ps = search (rules, the_lemmas)

pub plan-Error : (t : List ℕ) → plan_of (code.Error t) ≡ plan.error t
plan-Error t = search (rules, the_lemmas)

pub plan-Spawn : (f : Fork) → plan_of (code.Spawn f) ≡ plan.spawn f.body f.captured f.is_awaited
plan-Spawn f = search (rules, the_lemmas)

pub plan-Sync : (e : Code) → plan_of (code.Sync e) ≡ plan.sync (plan_of e)
plan-Sync e = search (rules, the_lemmas)

pub plan-Return : (e : Code) → plan_of (code.Return e) ≡ plan.return (plan_of e)
plan-Return e = search (rules, the_lemmas)

pub plan-Break : plan_of code.Break ≡ plan.break
plan-Break = search (rules, the_lemmas)

pub plan-Continue : plan_of code.Continue ≡ plan.continue
plan-Continue = search (rules, the_lemmas)

pub arm-of : (a : Arm) → arm_plan a ≡ (plan_of a.condition, plan_of a.body)
arm-of a = search (rules, the_lemmas)

pub piece-Value : (e : Code) → piece_plan (piece.Value e) ≡ value (plan_of e)
piece-Value e = search (rules, the_lemmas)

pub piece-Text : (t : List ℕ) → piece_plan (piece.Text t) ≡ text t
piece-Text t = search (rules, the_lemmas)
