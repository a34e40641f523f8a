-- Each frame but those of a call and of an `@sync` lets the value through.
use Rattle.std.proofs.Common.{ap, sym, refl, arith}
use Rattle.jt_step.specs.Stack.{resume}
use Rattle.jt_step.proofs.Moves.{gives_by}
use Rattle.jt_step.proofs.Weights.{frame_least}
use Rattle.jt_step.proofs.Unwinds.{back_passes}
use Rattle.jt_step.proofs.evaluator.Evaluator.return_value_to.Goals as goal

pub returns-in-Sync : goal.returns-in-Sync
returns-in-Sync c = λ program. gives_by program _ _ _ _ _ _ _ (c.in_ok-mode-in-Sync.ensures program) (λ s. rw c.in-Sync.is) (rw c.in-Sync.is (omega arith))

pub returns : goal.returns
returns c = λ program. record {
  same = λ rs. ap (resume program c.args.self.now.frames.items) (sym (back_passes program c.args.frame (λ vars n e. c.in_default.not-Call vars n e) (λ outer e. c.in_default.not-Sync outer e) c.args.v _));
  less = omega (arith, frame_least c.args.frame);
  turns = refl;
}
