-- A function lies between the place and the innermost scope that has the name.
use Rattle.std.proofs.Common.{◌≡◌}
use Rattle.jt_places.specs.Kept.{names_in}
use Rattle.jt_places.proofs.NameTests.{leaves_answer}
use Rattle.jt_places.proofs.PlaceLaws.{names_of_chain}
use Rattle.jt_places.proofs.chain.Chain.leaves_function.Goals as goal

pub returns : goal.returns
returns c =
    let names : c.self.inside.holders ≡ names_in c.args.self.now = names_of_chain c.self.inside.places c.self.inside.holders c.args.self.now c.self.invariant c.self.view_is in
    leaves_answer c.self.inside.holders c.args.self.now c.args.depth c.innermost_within-holder.result c.args.name.now c.standing_at.result c.is_left.result names c.innermost_within-holder.ensures c.standing_at.ensures c.is_left.ensures
