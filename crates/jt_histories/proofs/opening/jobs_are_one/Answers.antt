-- The history tells the live tasks, and each one's job.
use Rattle.jt_histories.proofs.Telling.{jobs_are_one}
use Rattle.jt_histories.proofs.opening.jobs_are_one.Goals as goal

pub returns : goal.returns
returns g c = λ world logs jobs jobs' a b. jobs_are_one _ world logs jobs jobs' a b
