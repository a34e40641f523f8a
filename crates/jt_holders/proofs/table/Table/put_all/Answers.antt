-- The names so far have the depth, and where memory is wanting it is taken from them.
use Rattle.std.proofs.Common.{take, sym}
use Rattle.jt_holders.specs.Table.{depths_in}
use Rattle.jt_holders.proofs.TableLaws.{pushed_next, taken_back}
use Rattle.jt_holders.proofs.table.Table.put_all.Goals as goal

pub returns-in-Err-clause-err : goal.returns-in-Err-clause-err
returns-in-Err-clause-err c = λ x.
    taken_back (take c.loop-index.index c.args.identifiers.now) c.args.depth (depths_in c.args.self.now.depths.entries x) (depths_in c.loop-index.self.depths.entries x) (depths_in c.take_all.new.self.depths.entries x)
    (depths_in c.put.new.self.depths.entries x) x (c.loop-index.invariant x) (c.in-Err.ensures.err x) (c.take_all.ensures x)

pub loop-index-preserved : goal.loop-index-preserved
loop-index-preserved c = λ x.
    pushed_next c.args.identifiers.now c.loop-index.index c.args.depth c.index-identifiers-index.result (depths_in c.args.self.now.depths.entries x) (depths_in c.put.new.self.depths.entries x)
    (depths_in c.loop-index.self.depths.entries x) x c.loop-index-test.true (sym c.index-identifiers-index.is) (c.in_default.ensures.ok x) (c.loop-index.invariant x)
