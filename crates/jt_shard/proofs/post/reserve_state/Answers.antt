-- More room for items, or for tasks that wait, is room for each operation that had it before.
use Rattle.std.proofs.Common.{subst}
use Rattle.jt_objects.specs.declared.shared.Shared.{Shared}
use Rattle.jt_objects.specs.Needs.{HasObjectRoom}
use Rattle.jt_shard.proofs.Room.{more_in_channel, more_in_condition}
use Rattle.jt_shard.proofs.post.reserve_state.Goals as goal

pub returns-in-Channel-clause-kept : goal.returns-in-Channel-clause-kept
returns-in-Channel-clause-kept c = λ h op.
    more_in_channel c.in-Channel.channel.room c.reserve.new.self.room op c.reserve.ensures.kept (subst (λ (s : Shared). HasObjectRoom s op) c.in-Channel.is (h op))

pub returns-in-Condition-clause-kept : goal.returns-in-Condition-clause-kept
returns-in-Condition-clause-kept c = λ h op.
    more_in_condition c.in-Condition.condition.room c.reserve-in-Condition.new.self.room op c.reserve-in-Condition.ensures.kept (subst (λ (s : Shared). HasObjectRoom s op) c.in-Condition.is (h op))
