-- What literals, operators and calls of a script are in a program.
use Rattle.std.specs.Prelude.{ℕ, pos, negsuc, List, length, Option, Some, None, option_and_then, unwrap_or}
use Rattle.jt_num.specs.Wrapping.{wrapped}
use Rattle.jt_functions.specs.declared.function.Function.{Function}
use Rattle.jt_functions.specs.declared.function.Function.TheVariants as function
use Rattle.jt_functions.specs.Functions.{named}
use Rattle.jt_syntax.specs.declared.operator.ArithmeticOperator.{ArithmeticOperator}
use Rattle.jt_syntax.specs.declared.operator.ArithmeticOperator.TheVariants as arithmetic
use Rattle.jt_syntax.specs.declared.operator.AssignmentOperator.{AssignmentOperator}
use Rattle.jt_syntax.specs.declared.operator.AssignmentOperator.TheVariants as assignment
use Rattle.jt_syntax.specs.declared.operator.BinaryOperator.{BinaryOperator}
use Rattle.jt_syntax.specs.declared.operator.BinaryOperator.TheVariants as binary
use Rattle.jt_syntax.specs.declared.operator.ComparisonOperator.{ComparisonOperator}
use Rattle.jt_syntax.specs.declared.operator.ComparisonOperator.TheVariants as comparison
use Rattle.jt_program.specs.declared.code.BuiltIn.{BuiltIn}
use Rattle.jt_program.specs.declared.code.BuiltIn.TheVariants as built_in
use Rattle.jt_program.specs.declared.code.Callee.{Callee}
use Rattle.jt_program.specs.declared.code.Callee.TheVariants as callee
use Rattle.jt_program.specs.declared.code.Literal.TheVariants as literal
use Rattle.jt_program.specs.Plan.{Plan}
use Rattle.jt_program.specs.Plan as plan
use Rattle.jt_names.specs.declared.functions.Signature.{Signature}
use Rattle.jt_names.specs.Names.{Name}
use Rattle.jt_names.specs.Tops.{function_index}
use Rattle.jt_lowered.specs.declared.target.Target.{Target}
use Rattle.jt_lowered.specs.declared.target.Target.TheVariants as means

-- ---- literals and names

abbrev pub number_literal : ℕ → Plan
number_literal n = plan.literal (literal.Int (wrapped (pos n)))

-- `typemin(Int64)` and `typemax(Int64)`
abbrev pub least_literal : Plan
least_literal = plan.literal (literal.Int (negsuc 9223372036854775807))

abbrev pub greatest_literal : Plan
greatest_literal = plan.literal (literal.Int (pos 9223372036854775807))

abbrev pub nothing_literal : Plan
nothing_literal = plan.literal literal.Nothing

abbrev pub written : Target → Plan
written (means.Slot n) = plan.variable n
written (means.Constant k) = plan.constant k
written means.Nothing = nothing_literal

-- ---- operators

-- the operator of an operation: in a chain of one of the classes from `+` on all are arithmetic
abbrev pub operation_of : BinaryOperator → ArithmeticOperator
operation_of (binary.Arithmetic o) = o
operation_of _ = arithmetic.Add

-- the operator of a comparison: in a chain of comparisons all are such
abbrev pub comparison_of : BinaryOperator → ComparisonOperator
comparison_of (binary.Comparison o) = o
comparison_of _ = comparison.Equal

-- an operation with one operand behind the first
abbrev pub operated : Plan → ArithmeticOperator → Plan → Plan
operated p o q = plan.operation p (plan.operand o q plan.no_operands)

-- x op= e assigns x op e
abbrev pub updated : AssignmentOperator → Plan → Plan → Plan
updated assignment.Plain x e = e
updated assignment.Plus x e = operated x arithmetic.Add e
updated assignment.Minus x e = operated x arithmetic.Subtract e
updated assignment.Times x e = operated x arithmetic.Multiply e
updated assignment.Divide x e = operated x arithmetic.Divide e
updated assignment.Remainder x e = operated x arithmetic.Remainder e

-- ---- calls

-- the functions of the language that a program calls
abbrev pub built_in_of : Function → Option BuiltIn
built_in_of function.Div = Some built_in.Div
built_in_of function.Rem = Some built_in.Rem
built_in_of function.Mod = Some built_in.Mod
built_in_of function.Fetch = Some built_in.Fetch
built_in_of function.Wait = Some built_in.Wait
built_in_of function.Yield = Some built_in.Yield
built_in_of _ = None

-- how many functions stand before the first of this name, all of them if there is none
abbrev pub function_number : List Signature → Name → ℕ
function_number fs x = unwrap_or (function_index fs x) (length fs)

abbrev pub built_in_or : Option BuiltIn → Callee → Callee
built_in_or None f = f
built_in_or (Some b) f = callee.BuiltIn b

-- a function of the language goes before one of the script
abbrev pub callee_of : List Signature → Name → Callee
callee_of fs x = built_in_or (option_and_then built_in_of (named x)) (callee.Function (function_number fs x))
