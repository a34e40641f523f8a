-- The innermost scope that has the name, where it is in the same function, task's body or script.
use Rattle.std.proofs.Common.{◌≡◌}
use Rattle.jt_places.specs.Kept.{names_in}
use Rattle.jt_places.proofs.PlaceLaws.{names_of_chain}
use Rattle.jt_places.proofs.SlotTests.{local_inside, local_outside}
use Rattle.jt_places.proofs.chain.Chain.local.Goals as goal

pub returns-then-holder-standing : goal.returns-then-holder-standing
returns-then-holder-standing c =
    let names : c.self.inside.holders ≡ names_in c.args.self.now = names_of_chain c.self.inside.places c.self.inside.holders c.args.self.now c.self.invariant c.self.view_is in
    local_outside c.self.inside.holders c.args.self.now c.innermost-holder.result c.args.name.now c.standing.result names c.innermost-holder.ensures c.standing.ensures c.if-holder-standing.true

pub returns-else-holder-standing : goal.returns-else-holder-standing
returns-else-holder-standing c =
    let names : c.self.inside.holders ≡ names_in c.args.self.now = names_of_chain c.self.inside.places c.self.inside.holders c.args.self.now c.self.invariant c.self.view_is in
    local_inside c.self.inside.holders c.args.self.now c.innermost-holder.result c.args.name.now c.standing.result c.slot_at.result names c.innermost-holder.ensures c.standing.ensures c.if-holder-standing.false c.slot_at.ensures
