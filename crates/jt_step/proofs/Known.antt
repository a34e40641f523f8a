-- A part that is read at once, at the head of those that are left.
use Rattle.std.proofs.Common.{◌≡◌, ℕ, ◌≤◌, List, [], ◌∷◌, ◌++◌, refl, arith}
use Rattle.std.specs.Prelude.{Ok, Err, Some, None, true, false}
use Rattle.jt_base.specs.declared.value.Value.{Value}
use Rattle.jt_base.specs.declared.value.Value.TheVariants.{Flag}
use Rattle.jt_base.specs.declared.operation.Fault.{Fault}
use Rattle.jt_base.specs.declared.operation.Fault.TheVariants.{Method}
use Rattle.jt_syntax.specs.declared.operator.ArithmeticOperator.{ArithmeticOperator}
use Rattle.jt_syntax.specs.declared.operator.ComparisonOperator.{ComparisonOperator}
use Rattle.jt_program.specs.declared.code.Callee.{Callee}
use Rattle.jt_program.specs.declared.code.Code.{Code}
use Rattle.jt_program.specs.Plan.{Plan, ProgramPlan}
use Rattle.jt_program.specs.View.{plan_of, plans}
use Rattle.jt_base.specs.declared.operation.Reply.{Reply}
use Rattle.jt_step.specs.declared.evaluator.Evaluator.{Evaluator}
use Rattle.jt_meaning.specs.Meaning.{go, run_arguments}
use Rattle.jt_meaning.specs.Values.{operated, compared_by}
use Rattle.jt_meaning.specs.State.{State, Gave, Faulted}
use Rattle.jt_step.specs.Stack.{does, does_operands, does_comparisons, operands_in, comparisons_in, operands_weight, comparisons_weight, plans_weight, state_of}

-- fewer are left behind the first one
pub operands_fewer : (p : ArithmeticOperator × Code) (es rest : List (ArithmeticOperator × Code)) → es ≡ p ∷ rest → operands_weight (operands_in rest) ≤ operands_weight (operands_in es)
operands_fewer p es rest is = rw is (omega arith)

pub comparisons_fewer : (p : ComparisonOperator × Code) (es rest : List (ComparisonOperator × Code)) → es ≡ p ∷ rest → comparisons_weight (comparisons_in rest) ≤ comparisons_weight (comparisons_in es)
comparisons_fewer p es rest is = rw is (omega arith)

pub plans_fewer : (e : Code) (es rest : List Code) → es ≡ e ∷ rest → plans_weight (plans rest) ≤ plans_weight (plans es)
plans_fewer e es rest is = rw is (omega arith)

module _ (program : ProgramPlan) where
  pub operand_read : (b : ArithmeticOperator × Code) (v w x : Value) (es rest : List (ArithmeticOperator × Code)) (s : State) → es ≡ b ∷ rest → does program (plan_of b.1) s ≡ Gave w s → Ok x ≡ operated b.0 v w → does_operands program x (operands_in rest) s ≡ does_operands program v (operands_in es) s
  operand_read b v w x es rest s is reads p = rw (is, reads, ← p)

  pub operand_fails : (b : ArithmeticOperator × Code) (v w : Value) (f : Fault) (es rest : List (ArithmeticOperator × Code)) (s : State) → es ≡ b ∷ rest → does program (plan_of b.1) s ≡ Gave w s → Err f ≡ operated b.0 v w → Faulted f s ≡ does_operands program v (operands_in es) s
  operand_fails b v w f es rest s is reads p = rw (is, reads, ← p)

  pub comparison_read : (b : ComparisonOperator × Code) (v w : Value) (es rest : List (ComparisonOperator × Code)) (s : State) → es ≡ b ∷ rest → does program (plan_of b.1) s ≡ Gave w s → Some true ≡ compared_by b.0 v w → does_comparisons program w (comparisons_in rest) s ≡ does_comparisons program v (comparisons_in es) s
  comparison_read b v w es rest s is reads p = rw (is, reads, ← p)

  pub comparison_over : (b : ComparisonOperator × Code) (v w : Value) (es rest : List (ComparisonOperator × Code)) (s : State) → es ≡ b ∷ rest → does program (plan_of b.1) s ≡ Gave w s → Some false ≡ compared_by b.0 v w → Gave (Flag false) s ≡ does_comparisons program v (comparisons_in es) s
  comparison_over b v w es rest s is reads p = rw (is, reads, ← p)

  pub comparison_fails : (b : ComparisonOperator × Code) (v w : Value) (es rest : List (ComparisonOperator × Code)) (s : State) → es ≡ b ∷ rest → does program (plan_of b.1) s ≡ Gave w s → None ≡ compared_by b.0 v w → Faulted Method s ≡ does_comparisons program v (comparisons_in es) s
  comparison_fails b v w es rest s is reads p = rw (is, reads, ← p)

  pub argument_read : (f : Callee) (e : Code) (v : Value) (vs : List Value) (es rest : List Code) (s : State) → es ≡ e ∷ rest → does program (plan_of e) s ≡ Gave v s → run_arguments program (go program) f (vs ++ v ∷ []) (plans rest) s ≡ run_arguments program (go program) f vs (plans es) s
  argument_read f e v vs es rest s is reads = rw (is, reads)

  -- what is read in one evaluator is read in an equal one
  pub reads_at : (m0 m : Evaluator) (e : Plan) (v : Value) → m ≡ m0 → ((rs : List Reply) → does program e (state_of m rs) ≡ Gave v (state_of m rs)) → (rs : List Reply) → does program e (state_of m0 rs) ≡ Gave v (state_of m0 rs)
  reads_at m0 m e v k h rs = rw (← k) (h rs)
