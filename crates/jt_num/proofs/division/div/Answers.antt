use Rattle.std.proofs.Common.{◌∙◌}
use Rattle.std.proofs.lemmas.Int.{to_z-of_z}
use Rattle.jt_num.proofs.DivisionLemmas.{quotient-checked, IsQuotient-checked}
use Rattle.jt_num.proofs.division.div.Goals as goal

pub returns-clause-value : goal.returns-clause-value
returns-clause-value c =
    let fits = c.ranges.a in
    let fits' = c.ranges.b in
    let checked = simp to_z-of_z at c.checked_div.ensures in
    c.ok_or.ensures.value ∙ quotient-checked c.args.a c.args.b _ fits fits' checked

pub returns-clause-law : goal.returns-clause-law
returns-clause-law c =
    let fits = c.ranges.a in
    let fits' = c.ranges.b in
    let checked = simp to_z-of_z at c.checked_div.ensures in
    rw c.ok_or.ensures.value (IsQuotient-checked c.args.a c.args.b _ fits' checked)
