-- A task may go from one thread to another.
use denote.Param.Send.{sendable}
use Rattle.jt_step.proofs.Sent.{run_send}
use Rattle.jt_machine.proofs.state.State.main_end.Goals as goal

pub log-requires-send-J : goal.log-requires-send-J
log-requires-send-J c κs = search (run_send, sendable)
