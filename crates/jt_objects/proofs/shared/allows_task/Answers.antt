use Rattle.std.proofs.Common.{Option, true, false, sym, subst}
use Rattle.jt_base.specs.Objects.{object_of}
use Rattle.jt_laws.specs.Objects.{Allowed}
use Rattle.jt_conditions.specs.declared.completion.Completion.{Completion}
use Rattle.jt_objects.specs.States.{ObjectState, OfTask, left_by}
use Rattle.jt_objects.proofs.Left.{waits_unallowed}
use Rattle.jt_objects.proofs.Answering.{task_allowed, not_there, can_spawn}
use Rattle.jt_objects.proofs.shared.allows_task.Goals as goal

pub returns-in-Some : goal.returns-in-Some
returns-in-Some c = λ task.
    subst (λ (b : Option Completion). Allowed ObjectState (left_by (object_of task c.args.op.now)) task c.args.op.now (OfTask b) c.allows.result) (sym c.in-Some.is)
    (task_allowed task c.args.op.now c.in-Some.completion c.allows.result c.allows.ensures.law)

pub returns-in-Spawn : goal.returns-in-Spawn
returns-in-Spawn c = λ task.
    subst (λ (b : Option Completion). Allowed ObjectState (left_by (object_of task c.args.op.now)) task c.args.op.now (OfTask b) true) (sym c.in-None.is)
    (can_spawn task c.args.op.now c.in-Spawn.field-0 c.in-Spawn.field-1 c.in-Spawn.is)

pub returns-in_default : goal.returns-in_default
returns-in_default c = λ task.
    subst (λ (b : Option Completion). Allowed ObjectState (left_by (object_of task c.args.op.now)) task c.args.op.now (OfTask b) false) (sym c.in-None.is)
    (waits_unallowed ObjectState (left_by (object_of task c.args.op.now)) task c.args.op.now _ _ (not_there task c.args.op.now c.in_default.not-Spawn))
