-- A lock and a return are allowed where they would be answered by a reply.
use Rattle.std.proofs.Common.{ap, ◌∙◌}
use Rattle.std.specs.Option.{is_some}
use Rattle.jt_base.specs.declared.operation.Op.TheVariants.{Lock, CBack}
use Rattle.jt_conditions.specs.Answers.{is_done}
use Rattle.jt_conditions.specs.Locks.{lock_answer, after_lock}
use Rattle.jt_conditions.specs.Conditions.{Condition, condition_left_by, held_by, returning, back_answer, after_back}
use Rattle.jt_conditions.proofs.Asking.{allowed_by}
use Rattle.jt_conditions.proofs.ConditionLaw.{lock_asked}
use Rattle.jt_conditions.proofs.NotifyLaw.{back_asked, back_done}
use Rattle.jt_conditions.proofs.condition.CondLock.allows.Goals as goal

pub returns-in-Lock-clause-law : goal.returns-in-Lock-clause-law
returns-in-Lock-clause-law c name o =
    allowed_by Condition condition_left_by c.args.task.now (Lock c.in-Lock.field-0) c.args.op.now c.args.self.now.state _ (lock_answer c.args.self.now.state.holder c.args.task.now) (held_by c.args.self.now.state (after_lock c.args.self.now.state.holder c.args.task.now)) c.in-Lock.is
    (c.is_free_to.ensures ∙ ap (λ w. is_done (lock_answer w.state.holder c.args.task.now)) c.self.view_is)
    (lock_asked c.args.task.now c.in-Lock.field-0 c.args.self.now.state)

pub returns-in-CBack-clause-law : goal.returns-in-CBack-clause-law
returns-in-CBack-clause-law c name o =
    allowed_by Condition condition_left_by c.args.task.now (CBack c.in-CBack.field-0) c.args.op.now c.args.self.now.state _ (back_answer c.args.self.now.state c.args.task.now) (after_back c.args.self.now.state c.args.task.now) c.in-CBack.is
    (c.is_some.ensures ∙ ap is_some c.returning.ensures ∙ back_done (returning c.args.self.now.state c.args.task.now))
    (back_asked c.args.task.now c.in-CBack.field-0 c.args.self.now.state)
