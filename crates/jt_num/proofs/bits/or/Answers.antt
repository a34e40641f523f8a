-- The words of both numbers are combined, and wrapped.
use Rattle.std.proofs.Common.{w64, ◌∙◌}
use Rattle.std.proofs.lemmas.Int.{to_z-of_z}
use Rattle.jt_num.proofs.BitLemmas.{word_of, or_of_words}
use Rattle.jt_num.proofs.bits.or.Goals as goal

pub returns : goal.returns
returns c =
    to_z-of_z w64 c.wrap_word.result (record { sfits = c.wrap_word.type_inv })
    ∙ c.wrap_word.ensures.value
    ∙ or_of_words _ _ _ _
    (word_of _ _ c.ranges.a c.cast_unsigned.ensures)
    (word_of _ _ c.ranges.b c.cast_unsigned-2.ensures)
