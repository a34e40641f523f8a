-- The name has one depth less.
use Rattle.std.proofs.Common.{is_some, sym, ap}
use Rattle.jt_holders.proofs.TableLaws.{take_one}
use Rattle.jt_holders.proofs.table.Table.take.Goals as goal

pub returns-in-Some : goal.returns-in-Some
returns-in-Some c =
    take_one c.args.self.now.depths (c.get_mut.follows.lender c.pop.new.self) c.as_slice.result.now c.args.identifier.now c.as_slice.ensures c.in-Some.depths.now c.pop.new.self c.pop.result c.in-Some.ensures.value c.pop.ensures
    ((c.get_mut.follows.holds c.pop.new.self).3 (ap is_some (sym c.in-Some.ensures.value)))
