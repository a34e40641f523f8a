-- One job after another leaves the line.
use Rattle.std.proofs.Common.{rules}
use Rattle.jt_machine.proofs.Waking.{begin_waking, wake_one, wait_fewer, end_waking}
use denote.Param.Send.{sendable}
use Rattle.jt_step.proofs.Sent.{run_send}
use Rattle.jt_machine.proofs.state.State.wake.Goals as goal

pub loop-woken-init : goal.loop-woken-init
loop-woken-init c = begin_waking _ _ _ c.requires

pub loop-woken-preserved : goal.loop-woken-preserved
loop-woken-preserved c = wake_one _ _ _ _ _ c.loop-woken.invariant c.index_mut.result.now c.index_mut.ensures.value _ _ _ _ c.in-Some.ensures (search rules)

pub loop-woken-smaller : goal.loop-woken-smaller
loop-woken-smaller c = wait_fewer _ _ _ _ _ c.loop-woken.invariant c.index_mut.result.now c.index_mut.ensures.value _ _ _ c.in-Some.ensures

pub returns : goal.returns
returns c = end_waking _ _ _ _ _ c.loop-woken.invariant c.index_mut.result.now c.index_mut.ensures.value _ c.in_default.ensures

pub next_woken-requires-send-J : goal.next_woken-requires-send-J
next_woken-requires-send-J c κs = search (run_send, sendable)
