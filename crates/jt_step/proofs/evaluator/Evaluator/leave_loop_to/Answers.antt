-- Each frame but those of a call, of a loop and of an `@sync` lets the `break` through.
use Rattle.std.proofs.Common.{ap, sym, refl, arith}
use Rattle.jt_step.specs.Stack.{resume}
use Rattle.jt_step.proofs.Weights.{frame_least, loop_least}
use Rattle.jt_step.proofs.Unwinds.{out_passes}
use Rattle.jt_step.proofs.evaluator.Evaluator.leave_loop_to.Goals as goal

pub returns-in-Loop : goal.returns-in-Loop
returns-in-Loop c = λ program. rw c.in-Loop.is (record { same = λ rs. refl; less = omega (arith, loop_least c.in-Loop.field-0); turns = refl })

pub returns : goal.returns
returns c = λ program. record {
  same = λ rs. ap (resume program c.args.self.now.frames.items) (sym (out_passes program c.args.frame (λ vars n e. c.in_default.not-Call vars n e) (λ l e. c.in_default.not-Loop l e) (λ outer e. c.in_default.not-Sync outer e) _));
  less = omega (arith, frame_least c.args.frame);
  turns = refl;
}
