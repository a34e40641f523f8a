-- Chains of operators of one class, whose operands are made one after another.
use Rattle.std.specs.Prelude.{List, [], ◌∷◌, ◌++◌}
use Rattle.jt_syntax.specs.declared.operator.ArithmeticOperator.{ArithmeticOperator}
use Rattle.jt_syntax.specs.declared.operator.BinaryOperator.{BinaryOperator}
use Rattle.jt_syntax.specs.declared.operator.BinaryOperator.TheVariants as binary
use Rattle.jt_syntax.specs.declared.operator.Class.{Class}
use Rattle.jt_syntax.specs.declared.operator.Class.TheVariants as class
use Rattle.jt_syntax.specs.declared.operator.ComparisonOperator.{ComparisonOperator}
use Rattle.jt_syntax.specs.declared.operator.Connective.{Connective}
use Rattle.jt_syntax.specs.declared.operator.Connective.TheVariants as connective
use Rattle.jt_syntax.specs.View.{connective_class}
use Rattle.jt_program.specs.Plan.{Plan}
use Rattle.jt_program.specs.Plan as plan
use Rattle.jt_program.specs.View.{plans_of, operands_of, comparisons_of}
use Rattle.jt_lowered.specs.Lowered.{operation_of, comparison_of}

-- the operands of a chain behind its first one
pub data OperandsPlan : Type 0 where
  connected : Connective → List Plan → OperandsPlan
  compared : List (ComparisonOperator × Plan) → OperandsPlan
  operated : List (ArithmeticOperator × Plan) → OperandsPlan

-- none yet, of a chain of the class
abbrev pub none_of : Class → OperandsPlan
none_of class.Or = connected connective.Or []
none_of class.And = connected connective.And []
none_of class.Comparison = compared []
none_of class.Sum = operated []
none_of class.Product = operated []
none_of class.Shift = operated []

-- one more behind the others, with the operator between
abbrev pub one_more : OperandsPlan → BinaryOperator → Plan → OperandsPlan
one_more (connected k ps) o p = connected k (ps ++ p ∷ [])
one_more (compared ps) o p = compared (ps ++ (comparison_of o, p) ∷ [])
one_more (operated ps) o p = operated (ps ++ (operation_of o, p) ∷ [])

abbrev pub all_more : OperandsPlan → List (BinaryOperator × Plan) → OperandsPlan
all_more ps [] = ps
all_more ps (t ∷ ts) = all_more (one_more ps t.0 t.1) ts

-- the chain with a first operand before them
abbrev pub chain_of : OperandsPlan → Plan → Plan
chain_of (connected k ps) p = plan.connection k p (plans_of ps)
chain_of (compared ps) p = plan.comparison p (comparisons_of ps)
chain_of (operated ps) p = plan.operation p (operands_of ps)

-- a chain of the class
abbrev pub chained : Class → Plan → List (BinaryOperator × Plan) → Plan
chained k p ts = chain_of (all_more (none_of k) ts) p

-- operands with a jump as the last one
abbrev pub guard_of : Connective → OperandsPlan → Plan → Plan → Plan
guard_of k ps l p = chain_of (one_more ps (binary.Connective k) l) p

abbrev pub guarded : Connective → Plan → List (BinaryOperator × Plan) → Plan → Plan
guarded k p ts l = guard_of k (all_more (none_of (connective_class k)) ts) l p
