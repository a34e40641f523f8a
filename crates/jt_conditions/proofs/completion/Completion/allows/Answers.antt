-- Each arm says whether the state's answer is a reply.
use Rattle.std.proofs.Common.{◌≡◌, ◌⊎◌, inl, inr, ℕ, List, refl, sym, ap, ◌∙◌}
use Rattle.jt_base.specs.declared.operation.Fault.{Fault}
use Rattle.jt_base.specs.declared.operation.Op.{Op}
use Rattle.jt_base.specs.declared.operation.Op.TheVariants.{Begin, End, Fail, Fetch, Wait, Yield}
use Rattle.jt_base.specs.declared.value.Value.{Value}
use Rattle.jt_conditions.specs.Answers.{is_done}
use Rattle.jt_conditions.specs.declared.completion.Completion.{Completion}
use Rattle.jt_conditions.specs.declared.completion.Completion.TheVariants.{Spawned, Running, Ended, Failed}
use Rattle.jt_conditions.specs.CompletionSteps.{running_answer, fetch_answer, wait_answer}
use Rattle.jt_conditions.proofs.CompletionLaw.{allowed, answer}
use Rattle.jt_conditions.proofs.completion.Completion.allows.Goals as goal

done_by : (op now : Op) (s : Completion) → now ≡ op → is_done (answer op s) ≡ is_done (answer now s)
done_by op now s e = ap (λ p. is_done (answer p s)) (sym e)

runs : (now : Op) (s : Completion) → (now ≡ Yield) ⊎ (((v : Value) × (now ≡ End v)) ⊎ ((f : Fault) × (now ≡ Fail f))) → is_done (running_answer s) ≡ is_done (answer now s)
runs now s (inl e) = done_by Yield now s e
runs now s (inr (inl e)) = done_by (End e.0) now s e.1
runs now s (inr (inr e)) = done_by (Fail e.0) now s e.1

fetched : (s : Completion) → is_done (wait_answer s) ≡ is_done (fetch_answer s)
fetched Spawned = refl
fetched Running = refl
fetched (Ended value) = refl
fetched Failed = refl

over : (now : Op) (s : Completion) → ((p : List ℕ) × (now ≡ Fetch p)) ⊎ ((p : List ℕ) × (now ≡ Wait p)) → is_done (wait_answer s) ≡ is_done (answer now s)
over now s (inl e) = fetched s ∙ done_by (Fetch e.0) now s e.1
over now s (inr e) = done_by (Wait e.0) now s e.1

pub returns-in-Begin-clause-law : goal.returns-in-Begin-clause-law
returns-in-Begin-clause-law c =
    allowed c.args.op.now c.args.self.now _ (c.is_spawned.ensures ∙ done_by Begin c.args.op.now c.args.self.now c.in-Begin.is)

pub returns-in-Yield-clause-law : goal.returns-in-Yield-clause-law
returns-in-Yield-clause-law c =
    allowed c.args.op.now c.args.self.now _ (c.is_running.ensures ∙ runs c.args.op.now c.args.self.now c.in-Yield.is)

pub returns-in-Fetch-clause-law : goal.returns-in-Fetch-clause-law
returns-in-Fetch-clause-law c =
    allowed c.args.op.now c.args.self.now _ (c.is_over.ensures ∙ over c.args.op.now c.args.self.now c.in-Fetch.is)
