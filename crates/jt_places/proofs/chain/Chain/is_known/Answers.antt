-- The innermost holder's depth is none where no scope has the name.
use Rattle.std.proofs.Common.{◌≡◌}
use Rattle.jt_places.specs.Kept.{names_in}
use Rattle.jt_places.proofs.NameTests.{known_answer}
use Rattle.jt_places.proofs.PlaceLaws.{names_of_chain}
use Rattle.jt_places.proofs.chain.Chain.is_known.Goals as goal

pub returns : goal.returns
returns c =
    let names : c.self.inside.holders ≡ names_in c.args.self.now = names_of_chain c.self.inside.places c.self.inside.holders c.args.self.now c.self.invariant c.self.view_is in
    known_answer c.self.inside.holders c.args.self.now c.args.depth c.innermost_within.result c.args.name.now names c.innermost_within.ensures
