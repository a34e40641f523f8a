-- Main has ended, or the run goes on.
use Rattle.jt_machine.proofs.Finish.{resumes_ended, resumes_runs, resumes_settled}
use Rattle.jt_machine.proofs.state.State.go_on.Goals as goal

pub run-requires-clause-runs : goal.run-requires-clause-runs
run-requires-clause-runs c = resumes_runs _ _ _ _ c.requires.resumes _ c.requires.worker c.in_ok-end.ensures c.in-None.is

pub run-requires-clause-settled : goal.run-requires-clause-settled
run-requires-clause-settled c = resumes_settled _ _ _ _ c.requires.resumes

pub returns-in-Some-clause-ended : goal.returns-in-Some-clause-ended
returns-in-Some-clause-ended c = resumes_ended _ _ _ _ c.requires.resumes _ _ c.in_ok-end.ensures c.in-Some.is

pub returns-in-Some-clause-grows : goal.returns-in-Some-clause-grows
returns-in-Some-clause-grows c = λ l g. g
