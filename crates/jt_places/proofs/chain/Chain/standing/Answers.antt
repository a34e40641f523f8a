-- All scopes are the outermost as many.
use Rattle.jt_places.proofs.PlaceLaws.{all_standing}
use Rattle.jt_places.proofs.chain.Chain.standing.Goals as goal

pub returns : goal.returns
returns c = all_standing c.self.inside.places c.args.self.now c.len.result c.standing_at.result c.self.view_is c.len.ensures c.standing_at.ensures
