use Rattle.std.proofs.Common.{w64, rules, arith, ◌∙◌, sym, ap}
use Rattle.std.proofs.lemmas.Int.{to_z-of_z}
use Rattle.jt_num.specs.Powers.{raised}
use Rattle.jt_num.specs.Wrapping.{wrapped}
use Rattle.jt_num.proofs.PowerLemmas.{first_step, last_step, even_step, odd_step}
use Rattle.jt_num.proofs.ProductLemmas.{wrapped-mul_bits}
use Rattle.jt_num.proofs.WrappingLemmas.{wrapped-cast_signed}
use Rattle.jt_num.proofs.powers.wrapping_power.Goals as goal
use Rattle.jt_num.proofs.powers.wrapping_power.Goals.{then-left-eq1, else-left-eq1}

pub loop-left-init : goal.loop-left-init
loop-left-init c = first_step _ _

pub loop-left-preserved : goal.loop-left-preserved
loop-left-preserved c =
    let squared = wrapped-mul_bits c.loop-left.base-bits c.loop-left.base-bits (search rules) (search rules) in
    elim c.if-left-eq1.branch [
      | then-left-eq1 w ↦
          odd_step _ _ _ _ _
          (w.product-is ∙ wrapped-mul_bits c.loop-left.product-bits c.loop-left.base-bits (search rules) (search rules))
          squared w.if-left-eq1.true
          ∙ c.loop-left.invariant
      | else-left-eq1 w ↦ rw w.product-is (even_step _ _ _ _ squared w.if-left-eq1.false ∙ c.loop-left.invariant)
    ]

pub returns : goal.returns
returns c =
    sym (wrapped-cast_signed c.loop-left.product-bits (search rules))
    ∙ sym (last_step _ _ c.loop-left.left (omega arith))
    ∙ c.loop-left.invariant
    ∙ ap (λ z. wrapped (raised z c.args.exponent)) (to_z-of_z w64 c.args.a c.ranges.a)
