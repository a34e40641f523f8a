-- The last note has the stamp.
use Rattle.jt_step.proofs.Notes.{last_stamp}
use Rattle.jt_step.proofs.task.TaskRunJob.last_stamp.Goals as goal

pub returns-in-Some : goal.returns-in-Some
returns-in-Some c = rw (← c.self.view_is, ← c.deref.ensures) (last_stamp c.deref.result.now.log.items c.in-Some.note.now (rw c.deref-2.ensures.value at c.in-Some.ensures.value))
