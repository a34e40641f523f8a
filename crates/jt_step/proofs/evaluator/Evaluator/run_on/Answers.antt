-- A turn is taken, or a reply.
use Rattle.std.proofs.Common.{◌<◌, length, ◌∙◌, arith}
use Rattle.jt_program.specs.View.{program_plan}
use Rattle.jt_step.proofs.Answers.{reply_step}
use Rattle.jt_step.proofs.evaluator.Evaluator.run_on.Goals as goal

pub moves-preserved-then-begins : goal.moves-preserved-then-begins
moves-preserved-then-begins c = let s = c.in_ok-mode.ensures in let b = c.in_ok-mode-2.ensures in record {
  same = λ rs. b.same _ ∙ s.same _ ∙ c.moves.invariant.same rs;
  within = c.moves.invariant.within;
  few = omega arith;
  turns = omega (arith, b.turns, s.turns, c.moves.invariant.turns);
}

pub moves-preserved : goal.moves-preserved
moves-preserved c = let s = c.in_ok-mode.ensures in let a = c.in_ok-mode-3.ensures in let w = c.if-not-waits.ensures in record {
  same = λ rs. let lt : c.moves.used < length c.args.log.now = omega arith in reply_step (program_plan c.args.program.now) c.settle.new.self c.in_ok-mode.mode _ c.args.log.now c.moves.used _ rs lt c.if-not-waits.ensures c.in_ok-mode-3.ensures ∙ s.same _ ∙ c.moves.invariant.same rs;
  within = omega arith;
  few = c.moves.invariant.few;
  turns = omega (arith, s.turns, c.moves.invariant.turns);
}
