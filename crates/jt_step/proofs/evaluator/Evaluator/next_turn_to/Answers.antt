-- Each frame but those of a call, of a loop and of an `@sync` lets the `continue` through.
use Rattle.std.proofs.Common.{ap, sym, refl, arith}
use Rattle.jt_step.specs.Stack.{resume}
use Rattle.jt_step.proofs.Weights.{frame_least}
use Rattle.jt_step.proofs.Unwinds.{on_passes}
use Rattle.jt_step.proofs.evaluator.Evaluator.next_turn_to.Goals as goal

pub returns-in-Loop : goal.returns-in-Loop
returns-in-Loop c = λ program. rw c.in-Loop.is (record {
  same = λ rs. c.in_ok-mode-in-Loop.ensures.same program rs;
  less = c.in_ok-mode-in-Loop.ensures.less;
  turns = c.in_ok-mode-in-Loop.ensures.turns;
})

pub returns : goal.returns
returns c = λ program. record {
  same = λ rs. ap (resume program c.args.self.now.frames.items) (sym (on_passes program c.args.frame (λ vars n e. c.in_default.not-Call vars n e) (λ l e. c.in_default.not-Loop l e) (λ outer e. c.in_default.not-Sync outer e) _));
  less = omega (arith, frame_least c.args.frame);
  turns = refl;
}
