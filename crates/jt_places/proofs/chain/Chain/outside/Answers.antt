-- The scope where the function, task's body or script began is the innermost task's.
use Rattle.jt_places.proofs.NameTests.{outside_then, outside_else}
use Rattle.jt_places.proofs.chain.Chain.outside.Goals as goal

pub returns-then-standing : goal.returns-then-standing
returns-then-standing c = outside_then c.args.self.now c.standing-standing.result c.checked_sub.result c.standing-standing.ensures c.if-standing.true c.checked_sub.ensures

pub returns-else-standing : goal.returns-else-standing
returns-else-standing c = outside_else c.args.self.now c.standing-standing.result c.standing-standing.ensures c.if-standing.false
