-- The plain data that a `Program` stands for.
use Rattle.std.specs.Prelude.{ℕ, List, [], ◌∷◌, map}
use Rattle.jt_syntax.specs.declared.operator.ArithmeticOperator.{ArithmeticOperator}
use Rattle.jt_syntax.specs.declared.operator.ComparisonOperator.{ComparisonOperator}
use Rattle.jt_program.specs.Plan.{Plan, Plans, Operands, Comparisons, Choices, Pieces, BodyPlan, ProgramPlan}
use Rattle.jt_program.specs.Plan as plan
use Rattle.jt_program.specs.declared.code.Code.{Code}
use Rattle.jt_program.specs.declared.code.Code.TheOpen.{Code-F, Arm-F, Piece-F}
use Rattle.jt_program.specs.declared.code.Code.TheFolds.{fold-Code, fold-Arm, fold-Piece}
use Rattle.jt_program.specs.declared.code.Arm.{Arm}
use Rattle.jt_program.specs.declared.code.Piece.{Piece}
use Rattle.jt_program.specs.declared.program.Body.{Body}
use Rattle.jt_program.specs.declared.program.Program.{Program}

-- ---- lists

abbrev pub plans_of : List Plan → Plans
plans_of [] = plan.no_plans
plans_of (p ∷ ps) = plan.plan p (plans_of ps)

abbrev pub operands_of : List (ArithmeticOperator × Plan) → Operands
operands_of [] = plan.no_operands
operands_of (p ∷ ps) = plan.operand p.0 p.1 (operands_of ps)

abbrev pub comparisons_of : List (ComparisonOperator × Plan) → Comparisons
comparisons_of [] = plan.no_comparisons
comparisons_of (p ∷ ps) = plan.compared p.0 p.1 (comparisons_of ps)

abbrev pub choices_of : List (Plan × Plan) → Choices
choices_of [] = plan.no_choices
choices_of (p ∷ ps) = plan.choice p.0 p.1 (choices_of ps)

-- what `println` prints: a part's value, or a text
pub data PiecePlan : Type 0 where
  value : Plan → PiecePlan
  text : List ℕ → PiecePlan

abbrev pub piece_before : PiecePlan → Pieces → Pieces
piece_before (value p) ps = plan.value_piece p ps
piece_before (text t) ps = plan.text_piece t ps

abbrev pub pieces_of : List PiecePlan → Pieces
pieces_of [] = plan.no_pieces
pieces_of (p ∷ ps) = piece_before p (pieces_of ps)

-- ---- layer by layer

abbrev pub code_layer : Code-F Plan PiecePlan (Plan × Plan) → Plan
code_layer (Code-F.Literal l) = plan.literal l
code_layer (Code-F.Variable x) = plan.variable x
code_layer (Code-F.Constant k) = plan.constant k
code_layer (Code-F.Assign x p) = plan.assign x p
code_layer (Code-F.Define k p) = plan.define k p
code_layer (Code-F.Unary o p) = plan.unary o p
code_layer (Code-F.Operation p ps) = plan.operation p (operands_of ps)
code_layer (Code-F.Comparison p ps) = plan.comparison p (comparisons_of ps)
code_layer (Code-F.Connection c p ps) = plan.connection c p (plans_of ps)
code_layer (Code-F.Branch ps p) = plan.branch (choices_of ps) p
code_layer (Code-F.Block ps) = plan.block (plans_of ps)
code_layer (Code-F.While start count c p) = plan.while start count c p
code_layer (Code-F.For start count a b p) = plan.for start count a b p
code_layer (Code-F.Call f ps) = plan.call f (plans_of ps)
code_layer (Code-F.Print ps) = plan.print (pieces_of ps)
code_layer (Code-F.Error t) = plan.error t
code_layer (Code-F.Spawn f) = plan.spawn f.body f.captured f.is_awaited
code_layer (Code-F.Sync p) = plan.sync p
code_layer (Code-F.Return p) = plan.return p
code_layer Code-F.Break = plan.break
code_layer Code-F.Continue = plan.continue

abbrev pub arm_layer : Arm-F Plan PiecePlan (Plan × Plan) → Plan × Plan
arm_layer a = (a.condition, a.body)

abbrev pub piece_layer : Piece-F Plan PiecePlan (Plan × Plan) → PiecePlan
piece_layer (Piece-F.Value p) = value p
piece_layer (Piece-F.Text t) = text t

-- ---- whole programs

abbrev pub plan_of : Code → Plan
plan_of = fold-Code Plan PiecePlan (Plan × Plan) code_layer piece_layer arm_layer

abbrev pub arm_plan : Arm → Plan × Plan
arm_plan = fold-Arm Plan PiecePlan (Plan × Plan) code_layer piece_layer arm_layer

abbrev pub piece_plan : Piece → PiecePlan
piece_plan = fold-Piece Plan PiecePlan (Plan × Plan) code_layer piece_layer arm_layer

abbrev pub plans : List Code → Plans
plans cs = plans_of (map plan_of cs)

-- an operand behind its operator
abbrev pub operand_plan : {O : Type 0} → O × Code → O × Plan
operand_plan t = (t.0, plan_of t.1)

abbrev pub body_plan : Body → BodyPlan
body_plan b = record { variables = b.variables; code = plan_of b.code }

abbrev pub program_plan : Program → ProgramPlan
program_plan p = record { constants = p.constants; functions = map body_plan p.functions; tasks = map body_plan p.tasks }
