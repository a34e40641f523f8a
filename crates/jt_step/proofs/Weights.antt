-- How heavy trees and frames are at least, and that weights of frames add up.
use Rattle.std.proofs.Common.{◌≡◌, ◌+◌, ◌≤◌, List, [], ◌∷◌, ◌++◌, arith}
use Rattle.jt_program.specs.Plan.{Plan, Plans, Operands, Comparisons, Choices, Pieces}
use Rattle.jt_program.specs.Plan as plan
use Rattle.jt_program.specs.View.{plan_of, plans}
use Rattle.jt_step.specs.declared.frame.Frame.{Frame}
use Rattle.jt_step.specs.declared.frame.Frame.TheVariants as frame
use Rattle.jt_step.specs.declared.frame.Loop.{Loop}
use Rattle.jt_step.specs.declared.frame.Loop.TheVariants as loop
use Rattle.jt_step.specs.Stack.{weight, plans_weight, operands_weight, comparisons_weight, choices_weight, pieces_weight, loop_weight, frame_weight, frames_weight, operands_in, comparisons_in, pieces_in}

mutual
  pub weight_least : (e : Plan) → 2 ≤ weight e
  weight_least (plan.literal l) = omega arith
  weight_least (plan.variable x) = omega arith
  weight_least (plan.constant k) = omega arith
  weight_least (plan.assign x e) = omega arith
  weight_least (plan.define k e) = omega arith
  weight_least (plan.unary o e) = omega arith
  weight_least (plan.operation e es) = omega (arith, weight_least e)
  weight_least (plan.comparison e es) = omega (arith, weight_least e)
  weight_least (plan.connection c e es) = omega (arith, weight_least e)
  weight_least (plan.branch cs e) = omega (arith, weight_least e)
  weight_least (plan.block es) = omega (arith, plans_least es)
  weight_least (plan.while first count c b) = omega arith
  weight_least (plan.for first count a b e) = omega arith
  weight_least (plan.call f es) = omega (arith, plans_least es)
  weight_least (plan.print ps) = omega arith
  weight_least (plan.error t) = omega arith
  weight_least (plan.spawn body slots awaits) = omega arith
  weight_least (plan.sync e) = omega arith
  weight_least (plan.return e) = omega arith
  weight_least plan.break = omega arith
  weight_least plan.continue = omega arith

  pub plans_least : (es : Plans) → 3 ≤ plans_weight es
  plans_least plan.no_plans = omega arith
  plans_least (plan.plan e es) = omega (arith, plans_least es)

pub operands_least : (es : Operands) → 2 ≤ operands_weight es
operands_least plan.no_operands = omega arith
operands_least (plan.operand o e es) = omega (arith, operands_least es)

pub comparisons_least : (es : Comparisons) → 2 ≤ comparisons_weight es
comparisons_least plan.no_comparisons = omega arith
comparisons_least (plan.compared o e es) = omega (arith, comparisons_least es)

pub choices_least : (cs : Choices) → 1 ≤ choices_weight cs
choices_least plan.no_choices = omega arith
choices_least (plan.choice c e cs) = omega arith

pub pieces_least : (ps : Pieces) → 2 ≤ pieces_weight ps
pieces_least plan.no_pieces = omega arith
pieces_least (plan.value_piece e ps) = omega (arith, pieces_least ps)
pieces_least (plan.text_piece t ps) = omega (arith, pieces_least ps)

pub loop_least : (l : Loop) → 3 ≤ loop_weight l
loop_least (loop.While first count c b) = omega arith
loop_least (loop.Range first count b i last) = omega arith

pub frame_least : (f : Frame) → 1 ≤ frame_weight f
frame_least (frame.Assign x) = omega arith
frame_least (frame.Define k) = omega arith
frame_least (frame.Unary o) = omega arith
frame_least (frame.Operands es) = omega (arith, operands_least (operands_in es.now))
frame_least (frame.Operand o v es) = omega (arith, operands_least (operands_in es.now))
frame_least (frame.Comparisons es) = omega (arith, comparisons_least (comparisons_in es.now))
frame_least (frame.Compared o v es) = omega (arith, comparisons_least (comparisons_in es.now))
frame_least (frame.Connection c es) = omega (arith, plans_least (plans es.now))
frame_least (frame.Choice e arms otherwise) = omega (arith, weight_least (plan_of e.now))
frame_least (frame.Rest es) = omega (arith, plans_least (plans es.now))
frame_least (frame.Condition first count c b) = omega arith
frame_least (frame.Low first count high b) = omega arith
frame_least (frame.High first count low b) = omega arith
frame_least (frame.Loop l) = omega (arith, loop_least l)
frame_least (frame.Arguments f es vs) = omega (arith, plans_least (plans es.now))
frame_least (frame.Pieces ps text) = omega (arith, pieces_least (pieces_in ps.now))
frame_least (frame.Call variables n) = omega arith
frame_least (frame.Sync outer) = omega arith
frame_least (frame.Waiting w) = omega arith
frame_least frame.Return = omega arith

pub weight_push : (fs : List Frame) (f : Frame) → frames_weight (fs ++ f ∷ []) ≡ frames_weight fs + frame_weight f
weight_push [] f = omega arith
weight_push (g ∷ fs) f = omega (arith, weight_push fs f)
