-- Each arm answers by the law of semaphores.
use Rattle.jt_base.specs.declared.operation.Op.TheVariants.{Acquire, Release}
use Rattle.jt_conditions.specs.Semaphores.{Semaphore, semaphore_left_by, acquire_answer, after_acquire, release_answer, after_release}
use Rattle.jt_conditions.proofs.Asking.{asked_at}
use Rattle.jt_conditions.proofs.SemaphoreLaw.{acquire_asked, release_asked}
use Rattle.jt_conditions.proofs.semaphore.Sema.ask.Goals as goal

pub returns-in-Acquire-clause-law : goal.returns-in-Acquire-clause-law
returns-in-Acquire-clause-law c task name o =
    asked_at Semaphore semaphore_left_by task (Acquire c.in-Acquire.field-0) c.args.op.now c.args.self.now _ (acquire_answer c.args.self.now) _ (after_acquire c.args.self.now) c.in-Acquire.is c.acquire.ensures.answer c.acquire.ensures.after (acquire_asked task c.in-Acquire.field-0 c.args.self.now)

pub returns-in-Release-clause-law : goal.returns-in-Release-clause-law
returns-in-Release-clause-law c task name o =
    asked_at Semaphore semaphore_left_by task (Release c.in-Release.field-0) c.args.op.now c.args.self.now _ (release_answer c.args.self.now) _ (after_release c.args.self.now) c.in-Release.is c.release.ensures.answer c.release.ensures.after (release_asked task c.in-Release.field-0 c.args.self.now)
