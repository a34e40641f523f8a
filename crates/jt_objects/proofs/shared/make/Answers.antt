use Rattle.std.proofs.Common.{sym, subst}
use Rattle.jt_base.specs.declared.entry.Ask.TheVariants as asked
use Rattle.jt_base.specs.Objects.{object_of}
use Rattle.jt_laws.specs.Objects.{Asked}
use Rattle.jt_objects.specs.States.{ObjectState, Unmade, left_by}
use Rattle.jt_objects.specs.Needs.{state_of}
use Rattle.jt_objects.proofs.Answering.{makes, not_made}
use Rattle.jt_objects.proofs.shared.make.Goals as goal

pub returns-in-Some-clause-law : goal.returns-in-Some-clause-law
returns-in-Some-clause-law c = λ task.
    makes task c.args.op.now (state_of c.in-Some.new) c.in-Some.ensures.makes c.in-Some.ensures.new

pub returns-in-None-clause-law : goal.returns-in-None-clause-law
returns-in-None-clause-law c = λ task.
    subst (λ s. Asked ObjectState (left_by (object_of task c.args.op.now)) task c.args.op.now Unmade asked.NotYet s) (sym c.requires) (not_made task c.args.op.now c.in-None.ensures.none)
