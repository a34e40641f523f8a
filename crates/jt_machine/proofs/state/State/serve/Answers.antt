-- What a shard answers.
use Rattle.std.proofs.Common.{rules}
use Rattle.std.proofs.lemmas.Result.{IfOk-weaker}
use Rattle.jt_machine.proofs.Serving.{asks_here, asks_settled, done_replied, done_settled, done_serves, limit_serves, park_here, park_by}
use denote.Param.Send.{sendable}
use Rattle.jt_step.proofs.Sent.{run_send}
use Rattle.jt_machine.proofs.state.State.serve.Goals as goal

pub apply-requires-clause-here : goal.apply-requires-clause-here
apply-requires-clause-here c = λ κs.
    asks_here _ _ _ _ _ _ _ _ c.requires.runs c.requires.settled c.requires.asks (search rules) _ c.worker_for-worker.ensures _ c.index_mut.ensures.value _ c.in_ok-reserve.ensures.kept c.reserve.new.job c.in_ok-reserve.ensures.told c.in_ok-reserve.ensures.run _ c.index_mut-2.ensures.value

pub apply-requires-clause-settled : goal.apply-requires-clause-settled
apply-requires-clause-settled c = λ κs.
    asks_settled _ _ _ _ _ _ _ _ c.requires.runs c.requires.settled c.requires.asks (search rules) _ c.worker_for-worker.ensures _ c.index_mut.ensures.value _ c.in_ok-reserve.ensures.kept c.reserve.new.job c.in_ok-reserve.ensures.told c.in_ok-reserve.ensures.run _ c.index_mut-2.ensures.value

pub follow-requires-clause-replied : goal.follow-requires-clause-replied
follow-requires-clause-replied c =
    done_replied _ _ _ _ _ _ _ _ c.requires.runs c.requires.settled c.requires.asks (search rules) _ c.worker_for-worker.ensures _ c.index_mut.ensures.value _ c.in_ok-reserve.ensures.kept _ c.in_ok-reserve.ensures.told c.in_ok-reserve.ensures.run _ c.index_mut-2.ensures.value _ _ _ c.in-Done.ensures.applies c.in-Done.ensures.run

pub follow-requires-clause-settled : goal.follow-requires-clause-settled
follow-requires-clause-settled c =
    done_settled _ _ _ _ _ _ _ _ c.requires.runs c.requires.settled c.requires.asks (search rules) _ c.worker_for-worker.ensures _ c.index_mut.ensures.value _ c.in_ok-reserve.ensures.kept _ c.in_ok-reserve.ensures.told c.in_ok-reserve.ensures.run _ c.index_mut-2.ensures.value _ _ _ c.in-Done.ensures.applies c.in-Done.ensures.run

pub returns-in-Done : goal.returns-in-Done
returns-in-Done c =
    IfOk-weaker c.follow.result _ _
    (λ t g. done_serves _ _ _ _ _ _ _ _ c.requires.runs c.requires.settled c.requires.asks (search rules) _ c.worker_for-worker.ensures _ c.index_mut.ensures.value _ c.in_ok-reserve.ensures.kept _ c.in_ok-reserve.ensures.told c.in_ok-reserve.ensures.run _ c.index_mut-2.ensures.value _ _ _ c.in-Done.ensures.applies c.in-Done.ensures.run t _ _ g)
    c.follow.ensures

pub park-requires-clause-here : goal.park-requires-clause-here
park-requires-clause-here c = λ κs.
    park_here _ _ _ _ _ _ _ _ c.requires.runs c.requires.settled c.requires.asks (search rules) _ c.worker_for-worker.ensures _ c.index_mut.ensures.value _ c.in_ok-reserve.ensures.kept _ c.in_ok-reserve.ensures.told c.in_ok-reserve.ensures.run _ c.index_mut-2.ensures.value _ _ c.in-NotYet.ensures.applies.shard c.in-NotYet.ensures.applies.job _ c.in-NotYet.ensures.applies.same _ c.index_mut-in-NotYet.ensures.value

pub returns-in-NotYet : goal.returns-in-NotYet
returns-in-NotYet c =
    park_by _ _ _ _ _ _ _ _ c.requires.runs c.requires.settled c.requires.asks (search rules) _ c.worker_for-worker.ensures _ c.index_mut.ensures.value _ c.in_ok-reserve.ensures.kept _ c.in_ok-reserve.ensures.told c.in_ok-reserve.ensures.run _ c.index_mut-2.ensures.value _ _ c.in-NotYet.ensures.applies.shard c.in-NotYet.ensures.applies.job _ c.in-NotYet.ensures.applies.same _ c.index_mut-in-NotYet.ensures.value _ c.park.ensures.parks c.park.ensures.settled

pub returns : goal.returns
returns c =
    limit_serves _ _ _ _ _ _ _ _ c.requires.runs c.requires.settled c.requires.asks (search rules) _ c.worker_for-worker.ensures _ c.index_mut.ensures.value _ c.in_ok-reserve.ensures.kept _ c.in_ok-reserve.ensures.told c.in_ok-reserve.ensures.run _ c.index_mut-2.ensures.value _ _ c.in-StampLimit.ensures.applies.shard c.in-StampLimit.ensures.applies.job _ c.in-StampLimit.ensures.applies

pub reserve-requires-send-J : goal.reserve-requires-send-J
reserve-requires-send-J c κs = search (run_send, sendable)

pub apply-requires-send-J : goal.apply-requires-send-J
apply-requires-send-J c κs = search (run_send, sendable)

pub park-requires-send-J : goal.park-requires-send-J
park-requires-send-J c κs = search (run_send, sendable)
