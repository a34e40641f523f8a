-- All logs, merged and cut.
use Rattle.std.proofs.Common.{◌++◌, ◌∷◌, [], map, ap, sym, ◌∙◌, subst}
use Rattle.std.proofs.lemmas.List.{map_push, map-id}
use Rattle.std.proofs.lemmas.Iterator.Consumers.{YieldsList-end}
use Rattle.std.proofs.lemmas.Iterator.Adapters.{YieldsList-from_vec}
use Rattle.jt_histories.specs.Merges.{AreLogs, IsMerge, items_of}
use Rattle.jt_shard.specs.Shards.{ShardState}
use Rattle.jt_step.specs.Tasks.{Task}
use Rattle.jt_machine.specs.Machines.{logs_of}
use denote.Param.Send.{sendable}
use Rattle.jt_step.proofs.Sent.{run_send}
use Rattle.jt_machine.proofs.state.State.into_history.Goals as goal

pub loop-shard-preserved : goal.loop-shard-preserved
loop-shard-preserved c =
    ap (map items_of) c.in_ok-push.ensures.items ∙ map_push items_of c.loop-shard.logs.items c.into_parts-log.result.0
    ∙ ap (λ z. z ++ c.into_parts-log.result.0.items ∷ []) c.loop-shard.invariant ∙ ap (λ l. logs_of c.loop-shard.yielded ++ l ∷ []) c.into_parts-log.ensures.log
    ∙ sym (map_push (λ (s : ShardState Task). s.log) c.loop-shard.yielded c.in-Some.shard)

pub merge-requires : goal.merge-requires
merge-requires c =
    let b = c.into_iter-shard-iterator.ensures.into_iter_gives in
    let road = YieldsList-from_vec {s = c.into_iter-shard-iterator.result} c.args.self.shards.items b.0 (b.1 ∙ c.args.self.shards.ok.0) in
    let t = YieldsList-end road c.loop-shard.yielded c.loop-shard.shard-iterator c.loop-shard.yielded_by c.next.result c.next.new.self c.in-None.is c.next.ensures.steps in
    subst AreLogs (sym (c.loop-shard.invariant ∙ ap logs_of (sym (map-id c.loop-shard.yielded) ∙ t.0))) c.requires

pub returns : goal.returns
returns c =
    let b = c.into_iter-shard-iterator.ensures.into_iter_gives in
    let road = YieldsList-from_vec {s = c.into_iter-shard-iterator.result} c.args.self.shards.items b.0 (b.1 ∙ c.args.self.shards.ok.0) in
    let t = YieldsList-end road c.loop-shard.yielded c.loop-shard.shard-iterator c.loop-shard.yielded_by c.next.result c.next.new.self c.in-None.is c.next.ensures.steps in (
      c.in_ok-history.history.items,
      subst (λ ls. IsMerge ls c.in_ok-history.history.items) (c.loop-shard.invariant ∙ ap logs_of (sym (map-id c.loop-shard.yielded) ∙ t.0)) c.in_ok-history.ensures,
      c.cut_at_main_end.ensures,
    )

pub into_parts-log-requires-send-J : goal.into_parts-log-requires-send-J
into_parts-log-requires-send-J c κs = search (run_send, sendable)
