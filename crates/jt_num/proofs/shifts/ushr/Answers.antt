use Rattle.std.proofs.Common.{w64, ◌∙◌, ap, sym}
use Rattle.std.proofs.lemmas.Int.{to_z-of_z}
use Rattle.jt_num.specs.Shifts.{shifted_up}
use Rattle.jt_num.proofs.ShiftLemmas.{unsigned_right_shift-neg, unsigned_right_shift-pos}
use Rattle.jt_num.proofs.shifts.ushr.Goals as goal

pub returns-then-b-lt0 : goal.returns-then-b-lt0
returns-then-b-lt0 c =
    let fits = c.ranges.a in
    let fits' = c.ranges.b in
    let below = simp to_z-of_z at c.if-b-lt0.true in
    let is = simp to_z-of_z at (c.up.ensures ∙ ap (shifted_up _) c.unsigned_abs.ensures.value) in
    to_z-of_z w64 c.up.result (record { sfits = c.up.type_inv })
    ∙ is ∙ sym (unsigned_right_shift-neg c.args.a c.args.b below)

pub returns-else-b-lt0 : goal.returns-else-b-lt0
returns-else-b-lt0 c =
    let fits = c.ranges.a in
    let fits' = c.ranges.b in
    let above = simp to_z-of_z at c.if-b-lt0.false in
    let is = simp to_z-of_z at c.down_unsigned.ensures in
    to_z-of_z w64 c.down_unsigned.result (record { sfits = c.down_unsigned.type_inv })
    ∙ is ∙ sym (unsigned_right_shift-pos c.args.a c.args.b above)
