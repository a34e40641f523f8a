use Rattle.std.proofs.Common.{[], Option, Some, refl, sym, ap, ◌∙◌, subst}
use Rattle.jt_base.specs.declared.entry.Ask.TheVariants as asked
use Rattle.jt_base.specs.declared.operation.Reply.TheVariants as reply
use Rattle.jt_base.specs.Objects.{object_of}
use Rattle.jt_laws.specs.Objects.{Asked}
use Rattle.jt_conditions.specs.declared.completion.Completion.{Completion}
use Rattle.jt_objects.specs.States.{ObjectState, OfTask, left_by}
use Rattle.jt_objects.proofs.Answering.{task_stays, task_asked, not_there, spawned}
use Rattle.jt_objects.proofs.shared.ask_task.Goals as goal

pub returns-in-Some-clause-law : goal.returns-in-Some-clause-law
returns-in-Some-clause-law c task =
    subst (λ (b : Option Completion). Asked ObjectState (left_by (object_of task c.args.op.now)) task c.args.op.now (OfTask b) c.ask.result (OfTask (Some c.ask.new.self))) (sym c.in-Some.is)
    (task_asked task c.args.op.now c.in-Some.completion c.ask.result c.ask.new.self c.ask.ensures.law c.ask.ensures.others)

pub returns-in-Some-clause-not_yet : goal.returns-in-Some-clause-not_yet
returns-in-Some-clause-not_yet c h =
    ap Some (task_stays [] c.args.op.now c.in-Some.completion c.ask.result c.ask.new.self c.ask.ensures.law c.ask.ensures.others h) ∙ sym c.in-Some.is

pub returns-in-Spawn-clause-law : goal.returns-in-Spawn-clause-law
returns-in-Spawn-clause-law c task =
    subst (λ (b : Option Completion). Asked ObjectState (left_by (object_of task c.args.op.now)) task c.args.op.now (OfTask b) (asked.Done reply.Ok) (OfTask (Some c.new.result))) (sym c.in-None.is)
    (spawned task c.args.op.now c.in-Spawn.field-0 c.in-Spawn.field-1 c.new.result c.in-Spawn.is c.new.ensures.spawned)

pub returns-in_default : goal.returns-in_default
returns-in_default c = record {
  law = λ task. subst (λ (b : Option Completion). Asked ObjectState (left_by (object_of task c.args.op.now)) task c.args.op.now (OfTask b) asked.NotYet (OfTask b)) (sym c.in-None.is) (not_there task c.args.op.now c.in_default.not-Spawn);
  not_yet = λ h. refl;
}
