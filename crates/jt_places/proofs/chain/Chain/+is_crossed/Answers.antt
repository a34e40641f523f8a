-- The innermost task's body, and those outside it.
use Rattle.std.proofs.Common.{◌<◌, ◌-◌, arith}
use Rattle.jt_places.specs.Kept.{assigns_once, crossed}
use Rattle.jt_scopes.specs.Tests.{outer}
use Rattle.jt_places.proofs.NameTests.{crossed_beyond, crossed_end, crossed_falls, crossed_here, crossed_step, crossed_there}
use Rattle.jt_places.proofs.PlaceLaws.{rest, scope_kept}
use Rattle.jt_places.proofs.chain.Chain.+is_crossed.Goals as goal

pub returns-then-task-holder : goal.returns-then-task-holder
returns-then-task-holder t c = crossed_end c.args.self.now c.args.depth c.args.holder c.args.name.now c.args.scope.now c.standing_at-task.result c.standing_at-task.ensures c.if-task-holder.true

pub is_crossed-requires : goal.is_crossed-requires
is_crossed-requires t c =
    let falls : c.standing_at-task.result.task - 1 < c.args.depth = crossed_falls c.args.self.now c.args.depth c.args.holder c.standing_at-task.result c.standing_at-task.ensures c.if-task-holder.false in
    (omega (arith, c.decreases), tt)

pub returns-in-None : goal.returns-in-None
returns-in-None t c = absurd (crossed_there c.args.self.now c.args.depth c.args.holder c.standing_at-task.result c.standing_at-task.ensures c.if-task-holder.false c.in-None.ensures)

pub returns-then-not-assigns_once : goal.returns-then-not-assigns_once
returns-then-not-assigns_once t c = crossed_here c.assigns_once.result (assigns_once c.args.scope.now c.args.name.now c.in-Some.place.scope.now.at) (crossed (outer c.args.depth c.args.self.now) c.args.holder c.args.scope.now c.args.name.now)
    (crossed (outer (c.standing_at-task.result.task - 1) c.args.self.now) c.args.holder c.args.scope.now c.args.name.now) c.assigns_once.ensures c.if-not-assigns_once.true
    (crossed_step c.args.self.now (rest (outer c.standing_at-task.result.task c.args.self.now)) c.args.depth c.args.holder c.args.name.now c.args.scope.now c.in-Some.place.scope.now c.standing_at-task.result c.standing_at-task.ensures c.if-task-holder.false
    (scope_kept c.in-Some.place (outer c.standing_at-task.result.task c.args.self.now) c.in-Some.ensures))

pub returns-else-not-assigns_once : goal.returns-else-not-assigns_once
returns-else-not-assigns_once t c = crossed_beyond c.assigns_once.result (assigns_once c.args.scope.now c.args.name.now c.in-Some.place.scope.now.at) (crossed (outer c.args.depth c.args.self.now) c.args.holder c.args.scope.now c.args.name.now)
    (crossed (outer (c.standing_at-task.result.task - 1) c.args.self.now) c.args.holder c.args.scope.now c.args.name.now) c.is_crossed.result c.assigns_once.ensures c.if-not-assigns_once.false
    (crossed_step c.args.self.now (rest (outer c.standing_at-task.result.task c.args.self.now)) c.args.depth c.args.holder c.args.name.now c.args.scope.now c.in-Some.place.scope.now c.standing_at-task.result c.standing_at-task.ensures c.if-task-holder.false
    (scope_kept c.in-Some.place (outer c.standing_at-task.result.task c.args.self.now) c.in-Some.ensures))
    c.is_crossed.ensures
