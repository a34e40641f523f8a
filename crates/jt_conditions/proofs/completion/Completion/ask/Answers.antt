-- Each arm answers as the state says, and so by the law.
use Rattle.std.proofs.Common.{◌≡◌, refl, sym, ap, ◌∙◌}
use Rattle.jt_base.specs.declared.operation.Op.{Op}
use Rattle.jt_base.specs.declared.operation.Op.TheVariants.{Begin, End, Fail, Fetch, Wait, Yield}
use Rattle.jt_base.specs.declared.entry.Ask.{Ask}
use Rattle.jt_conditions.specs.declared.completion.Completion.{Completion}
use Rattle.jt_conditions.specs.declared.completion.Completion.TheVariants.{Ended}
use Rattle.jt_conditions.specs.CompletionSteps.{finished}
use Rattle.jt_conditions.proofs.CompletionLaw.{asked, answer, after}
use Rattle.jt_conditions.proofs.completion.Completion.ask.Goals as goal

at_answer : (op now : Op) (s : Completion) (given : Ask) → now ≡ op → given ≡ answer op s → given ≡ answer now s
at_answer op now s given is g = g ∙ ap (λ p. answer p s) (sym is)

at_after : (op now : Op) (s new : Completion) → now ≡ op → new ≡ after op s → new ≡ after now s
at_after op now s new is g = g ∙ ap (λ p. after p s) (sym is)

pub returns-in-Begin-clause-law : goal.returns-in-Begin-clause-law
returns-in-Begin-clause-law c =
    asked c.args.op.now c.args.self.now _ _ (at_answer Begin _ _ _ c.in-Begin.is c.begin.ensures.answer) (at_after Begin _ _ _ c.in-Begin.is c.begin.ensures.after)

pub returns-in-Yield-clause-law : goal.returns-in-Yield-clause-law
returns-in-Yield-clause-law c =
    asked c.args.op.now c.args.self.now _ _ (at_answer Yield _ _ _ c.in-Yield.is c.pause.ensures) (at_after Yield _ c.args.self.now _ c.in-Yield.is refl)

pub returns-in-End-clause-law : goal.returns-in-End-clause-law
returns-in-End-clause-law c =
    asked c.args.op.now c.args.self.now _ _ (at_answer (End c.in-End.value) _ _ _ c.in-End.is c.finish.ensures.answer)
    (at_after (End c.in-End.value) _ c.args.self.now _ c.in-End.is (c.finish.ensures.after ∙ ap (λ v. finished (Ended v) c.args.self.now) c.copy.ensures))

pub returns-in-Fail-clause-law : goal.returns-in-Fail-clause-law
returns-in-Fail-clause-law c =
    asked c.args.op.now c.args.self.now _ _ (at_answer (Fail c.in-Fail.field-0) _ _ _ c.in-Fail.is c.finish-in-Fail.ensures.answer)
    (at_after (Fail c.in-Fail.field-0) _ _ _ c.in-Fail.is c.finish-in-Fail.ensures.after)

pub returns-in-Fetch-clause-law : goal.returns-in-Fetch-clause-law
returns-in-Fetch-clause-law c =
    asked c.args.op.now c.args.self.now _ _ (at_answer (Fetch c.in-Fetch.field-0) _ _ _ c.in-Fetch.is c.result.ensures) (at_after (Fetch c.in-Fetch.field-0) _ c.args.self.now _ c.in-Fetch.is refl)

pub returns-in-Wait-clause-law : goal.returns-in-Wait-clause-law
returns-in-Wait-clause-law c =
    asked c.args.op.now c.args.self.now _ _ (at_answer (Wait c.in-Wait.field-0) _ _ _ c.in-Wait.is c.outcome.ensures) (at_after (Wait c.in-Wait.field-0) _ c.args.self.now _ c.in-Wait.is refl)
