use Rattle.std.proofs.Common.{w64, ◌∙◌, ap, sym, Ok}
use Rattle.std.specs.Int.{cast_unsigned}
use Rattle.std.proofs.lemmas.Int.{to_z-of_z}
use Rattle.jt_num.proofs.PowerLemmas.{power-pos, power-one, power-even, power-odd, power-other, one_from_word, minus_one_from_word}
use Rattle.jt_num.proofs.powers.pow.Goals as goal

pub returns-then-b-ge0-clause-value : goal.returns-then-b-ge0-clause-value
returns-then-b-ge0-clause-value c =
    let fits = c.ranges.a in
    let fits' = c.ranges.b in
    let above = simp to_z-of_z at c.if-b-ge0.true in
    let is = simp to_z-of_z at c.wrapping_power.ensures in
    ap Ok (to_z-of_z w64 c.wrapping_power.result (record { sfits = c.wrapping_power.type_inv }) ∙ is)
    ∙ sym (power-pos c.args.a c.args.b above)

pub returns-then-a-eq1-clause-value : goal.returns-then-a-eq1-clause-value
returns-then-a-eq1-clause-value c =
    let fits' = c.ranges.b in
    let below = simp to_z-of_z at c.if-b-ge0.false in
    power-one c.args.a c.args.b (one_from_word _ c.ranges.a c.if-a-eq1.true) below

pub returns-then-b-eq0-clause-value : goal.returns-then-b-eq0-clause-value
returns-then-b-eq0-clause-value c =
    let fits' = c.ranges.b in
    let below = simp to_z-of_z at c.if-b-ge0.false in
    let even = simp to_z-of_z at c.if-b-eq0.true in
    power-even c.args.a c.args.b (minus_one_from_word _ c.ranges.a c.if-a-eqminus1.true) below even

pub returns-else-b-eq0-clause-value : goal.returns-else-b-eq0-clause-value
returns-else-b-eq0-clause-value c =
    let fits' = c.ranges.b in
    let below = simp to_z-of_z at c.if-b-ge0.false in
    let odd = simp to_z-of_z at c.if-b-eq0.false in
    power-odd c.args.a c.args.b (minus_one_from_word _ c.ranges.a c.if-a-eqminus1.true) below odd

pub returns-else-a-eqminus1-clause-value : goal.returns-else-a-eqminus1-clause-value
returns-else-a-eqminus1-clause-value c =
    let fits' = c.ranges.b in
    let below = simp to_z-of_z at c.if-b-ge0.false in
    power-other c.args.a c.args.b
    (λ e. c.if-a-eq1.false (ap (cast_unsigned w64) e))
    (λ e. c.if-a-eqminus1.false (ap (cast_unsigned w64) e))
    below
