-- A task may go from one thread to another.
use denote.Param.Send.{sendable}
use Rattle.jt_step.proofs.Sent.{run_send}
use Rattle.jt_machine.proofs.state.empty_shards.Goals as goal

pub new-requires-send-J : goal.new-requires-send-J
new-requires-send-J c κs = search (run_send, sendable)
