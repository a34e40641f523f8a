-- What is asked is what a machine keeps.
use Rattle.jt_machine.proofs.machine.Machine.adopt.Goals as goal

pub invariant_of-result : goal.invariant_of-result
invariant_of-result c = (c.requires.worker, rw c.from_jobs-ready.ensures c.requires.resumes)
