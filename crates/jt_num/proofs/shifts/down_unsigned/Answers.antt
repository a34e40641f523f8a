use Rattle.std.proofs.Common.{◌/◌, ◌^◌, w64, ◌∙◌, ap}
use Rattle.std.specs.Int.{cast_signed, cast_unsigned}
use Rattle.std.proofs.lemmas.Int.{to_z-of_z}
use Rattle.jt_num.proofs.ShiftLemmas.{down_unsigned_low, down_unsigned_high}
use Rattle.jt_num.proofs.shifts.down_unsigned.Goals as goal

pub returns-then-count-lt64 : goal.returns-then-count-lt64
returns-then-count-lt64 c =
    to_z-of_z w64 c.cast_signed.result (record { sfits = c.cast_signed.type_inv })
    ∙ c.cast_signed.ensures
    ∙ ap (λ m. cast_signed w64 (m / 2 ^ c.args.count))
    (c.cast_unsigned.ensures ∙ ap (cast_unsigned w64) (to_z-of_z w64 c.args.a c.ranges.a))
    ∙ down_unsigned_low _ _ c.ranges.a

pub returns-else-count-lt64 : goal.returns-else-count-lt64
returns-else-count-lt64 c = down_unsigned_high _ _ c.if-count-lt64.false
