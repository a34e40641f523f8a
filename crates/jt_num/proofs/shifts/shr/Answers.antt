use Rattle.std.proofs.Common.{w64, ◌∙◌, ap, sym}
use Rattle.std.proofs.lemmas.Int.{to_z-of_z}
use Rattle.jt_num.specs.Shifts.{shifted_up}
use Rattle.jt_num.proofs.ShiftLemmas.{right_shift-neg, right_shift-pos, IsFloor-right_shift}
use Rattle.jt_num.proofs.shifts.shr.Goals as goal

pub returns-then-b-lt0-clause-value : goal.returns-then-b-lt0-clause-value
returns-then-b-lt0-clause-value c =
    let fits = c.ranges.a in
    let fits' = c.ranges.b in
    let below = simp to_z-of_z at c.if-b-lt0.true in
    let is = simp to_z-of_z at (c.up.ensures ∙ ap (shifted_up _) c.unsigned_abs.ensures.value) in
    to_z-of_z w64 c.up.result (record { sfits = c.up.type_inv })
    ∙ is ∙ sym (right_shift-neg c.args.a c.args.b below)

pub returns-else-b-lt0-clause-value : goal.returns-else-b-lt0-clause-value
returns-else-b-lt0-clause-value c =
    let fits = c.ranges.a in
    let fits' = c.ranges.b in
    let above = simp to_z-of_z at c.if-b-lt0.false in
    let is = simp to_z-of_z at c.down.ensures in
    to_z-of_z w64 c.down.result (record { sfits = c.down.type_inv })
    ∙ is ∙ sym (right_shift-pos c.args.a c.args.b above)

pub returns-else-b-lt0-clause-floor : goal.returns-else-b-lt0-clause-floor
returns-else-b-lt0-clause-floor c = IsFloor-right_shift _ _ _ (returns-else-b-lt0-clause-value c)
