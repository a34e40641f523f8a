use Rattle.jt_sleep_core.proofs.Reached.{reached_quiet}
use Rattle.jt_sleep_core.proofs.laws.no_run_loses_a_wake_up.Goals as goal

pub returns : goal.returns
returns c = reached_quiet
