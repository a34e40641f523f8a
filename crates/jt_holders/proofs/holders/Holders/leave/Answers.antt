-- The table without the innermost list.
use Rattle.std.proofs.Common.{◌∙◌, ap, subst, reverse, arith}
use Rattle.std.proofs.lemmas.Grind.{common_steps}
use Rattle.jt_holders.specs.Table.{depths_in, taken, IsTableOf}
use Rattle.jt_holders.proofs.HolderLaws.{closed_table}
use Rattle.jt_holders.proofs.holders.Holders.leave.Goals as goal

pub invariant_of-self : goal.invariant_of-self
invariant_of-self c =
    closed_table c.pop.new.self c.in-Some.list c.self.inside.table.depths.entries c.take_all.new.self.depths.entries (subst (λ z. IsTableOf (reverse z) c.self.inside.table.depths.entries) c.in-Some.ensures c.self.invariant)
    (λ x. c.take_all.ensures x ∙ ap (λ z. taken z (depths_in c.self.inside.table.depths.entries x) x) c.as_slice.ensures)

pub returns-in-Some : goal.returns-in-Some
returns-in-Some c = grind (arith, common_steps)
