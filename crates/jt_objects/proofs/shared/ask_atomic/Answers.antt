use Rattle.std.proofs.Common.{refl}
use Rattle.std.specs.Prelude.{ℤ}
use Rattle.jt_base.specs.declared.entry.Ask.TheVariants.{NotYet}
use Rattle.jt_laws.specs.Atomics.{atomic_left_by}
use Rattle.jt_objects.specs.States.{OfAtomic}
use Rattle.jt_objects.proofs.KindLeft.{atomics}
use Rattle.jt_objects.proofs.Left as kind
use Rattle.jt_objects.proofs.shared.ask_atomic.Goals as goal

pub returns-then-not-allows-clause-law : goal.returns-then-not-allows-clause-law
returns-then-not-allows-clause-law c = λ task.
    let v = c.args.atomic.now in
    kind.asked ℤ atomic_left_by OfAtomic atomics task c.args.op.now v NotYet v (λ name n. kind.refused ℤ atomic_left_by task c.args.op.now v c.allows.result c.if-not-allows.true (c.allows.ensures.law task name n)) (λ h. refl)

pub returns-clause-law : goal.returns-clause-law
returns-clause-law c = λ task.
    let law = c.ask.ensures.law task in
    kind.asked ℤ atomic_left_by OfAtomic atomics task c.args.op.now c.args.atomic.now c.ask.result c.ask.new.self (λ name n. law) law.stays
