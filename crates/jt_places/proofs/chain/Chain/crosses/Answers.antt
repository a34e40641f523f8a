-- The innermost scope that has the name decides with the tasks' bodies within it.
use Rattle.std.proofs.Common.{◌≡◌}
use Rattle.jt_places.specs.Kept.{names_in}
use Rattle.jt_scopes.specs.Tests.{outer}
use Rattle.jt_places.proofs.NameTests.{crosses_answer, crosses_empty}
use Rattle.jt_places.proofs.PlaceLaws.{names_of_chain, rest, scope_kept}
use Rattle.jt_places.proofs.chain.Chain.crosses.Goals as goal

pub returns-in-None : goal.returns-in-None
returns-in-None c =
    let names : c.self.inside.holders ≡ names_in c.args.self.now = names_of_chain c.self.inside.places c.self.inside.holders c.args.self.now c.self.invariant c.self.view_is in
    crosses_empty c.self.inside.holders c.args.self.now c.args.depth c.innermost_within-holder.result c.args.name.now names c.innermost_within-holder.ensures c.in-None.ensures

pub returns-in-Some : goal.returns-in-Some
returns-in-Some c =
    let names : c.self.inside.holders ≡ names_in c.args.self.now = names_of_chain c.self.inside.places c.self.inside.holders c.args.self.now c.self.invariant c.self.view_is in
    crosses_answer c.self.inside.holders c.args.self.now (rest (outer c.innermost_within-holder.result c.args.self.now)) c.args.depth c.innermost_within-holder.result c.args.name.now c.in-Some.place.scope.now c.is_crossed.result names c.innermost_within-holder.ensures
    (scope_kept c.in-Some.place (outer c.innermost_within-holder.result c.args.self.now) c.in-Some.ensures) c.is_crossed.ensures
