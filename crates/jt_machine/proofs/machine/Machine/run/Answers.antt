-- The end of the slices, and the history of the shards that they leave.
use Rattle.jt_machine.proofs.Finish.{ended_logs, run_is, run_from}
use Rattle.jt_machine.proofs.machine.Machine.run.Goals as goal

pub into_history-requires : goal.into_history-requires
into_history-requires c = ended_logs _ _ _ _ c.in_ok-end.ensures.ended

pub returns-clause-run : goal.returns-clause-run
returns-clause-run c = rw (← c.self.view_is) (run_is _ _ _ _ c.in_ok-end.ensures.ended _ _ c.in_ok-history.ensures.1 c.in_ok-history.ensures.2)

pub returns-clause-goes_on : goal.returns-clause-goes_on
returns-clause-goes_on c = rw (← c.self.view_is) (run_from _ _ _ _ c.in_ok-end.ensures.ended _ c.in_ok-end.ensures.grows _ _ c.in_ok-history.ensures.1 c.in_ok-history.ensures.2)
