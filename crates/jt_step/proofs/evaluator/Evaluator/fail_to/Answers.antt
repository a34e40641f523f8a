-- Each frame but that of a wait lets the fault through.
use Rattle.std.proofs.Common.{ap, sym, refl, arith}
use Rattle.jt_step.specs.Stack.{resume}
use Rattle.jt_step.proofs.Moves.{gives_by}
use Rattle.jt_step.proofs.Weights.{frame_least}
use Rattle.jt_step.proofs.Unwinds.{fault_passes}
use Rattle.jt_step.proofs.evaluator.Evaluator.fail_to.Goals as goal

pub returns-in-Waiting : goal.returns-in-Waiting
returns-in-Waiting c = λ program. gives_by program _ _ _ _ _ _ _ (c.in_ok-mode-in-Waiting.ensures program) (λ s. rw (c.in-Waiting.is, c.failed.ensures, c.into_inner.ensures)) (rw c.in-Waiting.is (omega arith))

pub returns : goal.returns
returns c = λ program. record {
  same = λ rs. ap (resume program c.args.self.now.frames.items) (sym (fault_passes program c.args.frame (λ w e. c.in_default.not-Waiting w e) c.args.fault _));
  less = omega (arith, frame_least c.args.frame);
  turns = refl;
}
