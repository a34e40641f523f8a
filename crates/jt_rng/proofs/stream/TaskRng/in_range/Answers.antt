use Rattle.std.proofs.Common.{w64, ◌∙◌, ap}
use Rattle.std.proofs.lemmas.Int.{to_z-of_z}
use Rattle.jt_rng.specs.Range.{range_value}
use Rattle.jt_rng.proofs.RangeLemmas.{range_sum, in_order}
use Rattle.jt_rng.proofs.StreamLemmas.{draw_along}
use Rattle.jt_rng.specs.Words.{output_of}
use Rattle.jt_rng.proofs.stream.TaskRng.in_range.Goals as goal

pub returns-clause-value : goal.returns-clause-value
returns-clause-value c =
    let fits = c.ranges.a in
    let fits' = c.ranges.b in
    let sum = simp to_z-of_z at c.wrapping_add_unsigned.ensures in
    let order = simp to_z-of_z at c.if-b-a.false in
    let distance = simp to_z-of_z at c.abs_diff.ensures in
    to_z-of_z w64 c.wrapping_add_unsigned.result (record { sfits = c.wrapping_add_unsigned.type_inv })
    ∙ sum
    ∙ range_sum c.args.a c.args.b c.draw-word.result c.abs_diff.result _ fits fits' (in_order _ _ order) distance
    c.remainder_through-offset.ensures
    ∙ ap (range_value c.args.a c.args.b) c.draw-word.ensures.value

pub returns-clause-drawn : goal.returns-clause-drawn
returns-clause-drawn c seeds path d f e =
    returns-clause-value c ∙ ap (λ s. range_value c.args.a c.args.b (output_of s)) e ∙ ap (range_value c.args.a c.args.b) (draw_along seeds path d f)
