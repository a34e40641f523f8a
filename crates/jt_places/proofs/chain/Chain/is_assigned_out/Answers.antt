-- Outside the innermost task's body, and in the function round it, a scope has the name.
use Rattle.std.proofs.Common.{◌≡◌}
use Rattle.jt_places.specs.Kept.{names_in}
use Rattle.jt_places.proofs.NameTests.{assigned_answer}
use Rattle.jt_places.proofs.PlaceLaws.{names_of_chain}
use Rattle.jt_places.proofs.chain.Chain.is_assigned_out.Goals as goal

pub returns : goal.returns
returns c =
    let names : c.self.inside.holders ≡ names_in c.args.self.now = names_of_chain c.self.inside.places c.self.inside.holders c.args.self.now c.self.invariant c.self.view_is in
    assigned_answer c.self.inside.holders c.args.self.now c.saturating_sub-outside.result c.innermost_within-holder.result c.args.name.now c.standing-standing.result c.is_outside.result names c.standing-standing.ensures c.saturating_sub-outside.ensures c.innermost_within-holder.ensures c.is_outside.ensures
