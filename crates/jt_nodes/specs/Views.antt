-- The plain data that the operands of a chain and a loop's body stand for.
use Rattle.std.specs.Prelude.{map}
use Rattle.jt_program.specs.View.{plan_of, operand_plan}
use Rattle.jt_lowered.specs.Chains.{OperandsPlan, connected, compared, operated}
use Rattle.jt_lowered.specs.Loops.{TurnPlan, turn_of}
use Rattle.jt_nodes.specs.declared.chains.Operands.{Operands}
use Rattle.jt_nodes.specs.declared.chains.Operands.TheVariants as operands
use Rattle.jt_nodes.specs.declared.loops.Turn.{Turn}

abbrev pub operands_plan : Operands → OperandsPlan
operands_plan (operands.Connection k ps) = connected k (map plan_of ps)
operands_plan (operands.Comparison ps) = compared (map operand_plan ps)
operands_plan (operands.Operation ps) = operated (map operand_plan ps)

abbrev pub turn_plan : Turn → TurnPlan
turn_plan t = turn_of t.start t.count (plan_of t.body)
