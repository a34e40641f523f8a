-- What an advance comes to.
use Rattle.std.proofs.Common.{rules, arith, subst, ◌<◌}
use Rattle.std.proofs.lemmas.Result.{IfOk-weaker}
use Rattle.jt_machine.proofs.Advancing.{advanced_runs, never_over, more_turns, needs_asks, spawn_is, spawn_body, spawn_asks, served_carries, many_bodies}
use Rattle.jt_machine.proofs.state.State.carry_on.Goals as goal

pub unreachable-requires : goal.unreachable-requires
unreachable-requires c = never_over _ _ _ _ _ _ _ _ c.requires.runs c.requires.settled c.in_ok-advance.ensures.ok c.in-Over.is

pub returns-in-More : goal.returns-in-More
returns-in-More c = more_turns _ _ _ _ _ _ _ _ c.requires.runs c.requires.settled c.in_ok-advance.ensures.ok (omega arith) c.in-More.is

pub serve-requires-clause-runs : goal.serve-requires-clause-runs
serve-requires-clause-runs c = advanced_runs _ _ _ _ _ _ _ _ c.requires.runs c.requires.settled c.in_ok-advance.ensures.ok

pub serve-requires-clause-asks : goal.serve-requires-clause-asks
serve-requires-clause-asks c = needs_asks _ _ _ _ _ _ _ _ c.requires.runs c.requires.settled c.in_ok-advance.ensures.ok _ _ c.in_ok-advance.ensures.goes_on c.in-Needs.is (search rules)

pub returns-in_ok-follows-in-Needs : goal.returns-in_ok-follows-in-Needs
returns-in_ok-follows-in-Needs c =
    IfOk-weaker c.serve.result _ _ (λ t s. served_carries _ _ _ _ _ _ _ _ c.requires.runs c.requires.settled c.in_ok-advance.ensures.ok t _ _ s) c.serve.ensures

pub child-requires-clause-spawn : goal.child-requires-clause-spawn
child-requires-clause-spawn c = spawn_is _ _ _ _ _ _ _ _ c.requires.runs c.requires.settled c.in_ok-advance.ensures.ok _ _ c.in_ok-advance.ensures.asks_well c.in-Spawns.is

pub child-requires-clause-body : goal.child-requires-clause-body
child-requires-clause-body c =
    subst (λ n. c.in-Spawns.start.code < n) (many_bodies c.args.setting.now.program.now) (spawn_body _ _ _ _ _ _ _ _ c.requires.runs c.requires.settled c.in_ok-advance.ensures.ok _ _ c.in_ok-advance.ensures.asks_well c.in-Spawns.is)

pub serve-requires-in-Spawns : goal.serve-requires-in-Spawns
serve-requires-in-Spawns c = record {
  runs = advanced_runs _ _ _ _ _ _ _ _ c.requires.runs c.requires.settled c.in_ok-advance.ensures.ok;
  settled = c.requires.settled;
  asks = spawn_asks _ _ _ _ _ _ _ _ c.requires.runs c.requires.settled c.in_ok-advance.ensures.ok _ _ _ c.in_ok-advance.ensures.goes_on c.in_ok-advance.ensures.asks_well c.in-Spawns.is c.in_ok-child-in-Spawns.ensures;
}

pub returns-in_ok-child-in-Spawns : goal.returns-in_ok-child-in-Spawns
returns-in_ok-child-in-Spawns c =
    IfOk-weaker c.serve-in-Spawns.result _ _ (λ t s. served_carries _ _ _ _ _ _ _ _ c.requires.runs c.requires.settled c.in_ok-advance.ensures.ok t _ _ s) c.serve-in-Spawns.ensures
