use Rattle.std.proofs.Common.{w64, ◌∙◌, ap, sym, Ok}
use Rattle.std.proofs.lemmas.Int.{to_z-of_z}
use Rattle.jt_num.proofs.DivisionLemmas.{remainder-zero, remainder-some, IsRemainder-int_rem, zero_from_word, some_from_word}
use Rattle.jt_num.proofs.division.rem.Goals as goal

pub returns-then-b-eq0-clause-value : goal.returns-then-b-eq0-clause-value
returns-then-b-eq0-clause-value c = remainder-zero _ _ (zero_from_word c.args.b c.ranges.b c.if-b-eq0.true)

pub returns-clause-value : goal.returns-clause-value
returns-clause-value c =
    let fits = c.ranges.a in
    let fits' = c.ranges.b in
    let is = simp to_z-of_z at c.wrapping_rem.ensures in
    ap Ok (to_z-of_z w64 c.wrapping_rem.result (record { sfits = c.wrapping_rem.type_inv }) ∙ is)
    ∙ sym (remainder-some c.args.a c.args.b (some_from_word _ fits' c.if-b-eq0.false))

pub returns-clause-law : goal.returns-clause-law
returns-clause-law c =
    let fits = c.ranges.a in
    let fits' = c.ranges.b in
    let is = simp to_z-of_z at c.wrapping_rem.ensures in
    rw (to_z-of_z w64 c.wrapping_rem.result (record { sfits = c.wrapping_rem.type_inv }), is)
    (IsRemainder-int_rem c.args.a c.args.b (some_from_word _ fits' c.if-b-eq0.false))
