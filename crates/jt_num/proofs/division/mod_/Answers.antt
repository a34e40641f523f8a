use Rattle.std.proofs.Common.{◌≡◌, w64, ◌∙◌, ap, sym, Ok}
use Rattle.std.specs.Prelude.{FitsSigned}
use Rattle.std.proofs.lemmas.Int.{to_z-of_z}
use Rattle.jt_num.specs.Division.{floored_rem}
use Rattle.jt_num.proofs.DivisionLemmas.{modulus-zero, modulus-some, turned_word, same_word, zero_word, IsModulus-floored_rem, zero_from_word, some_from_word}
use Rattle.jt_num.proofs.division.mod_.Goals as goal
use Rattle.jt_num.proofs.division.mod_.Goals.{else-rest-ne0-via-then-rest-ne0+else-rest-b, else-rest-ne0-via-else-rest-ne0}

pub returns-then-b-eq0-clause-value : goal.returns-then-b-eq0-clause-value
returns-then-b-eq0-clause-value c = modulus-zero _ _ (zero_from_word c.args.b c.ranges.b c.if-b-eq0.true)

pub returns-then-rest-b-clause-value : goal.returns-then-rest-b-clause-value
returns-then-rest-b-clause-value c =
    let fits = c.ranges.a in
    let fits' = c.ranges.b in
    let rest_fits : FitsSigned w64 c.wrapping_rem-rest.result = record { sfits = c.wrapping_rem-rest.type_inv } in
    let some = some_from_word c.args.b fits' c.if-b-eq0.false in
    let is = simp to_z-of_z at c.wrapping_rem-rest.ensures in
    let apart = simp to_z-of_z at c.if-rest-b.true in
    rw (to_z-of_z w64 c.wrapping_rem-rest.result rest_fits, to_z-of_z w64 c.args.b fits')
    (ap Ok (turned_word c.args.a c.args.b _ fits' some is rest_fits c.if-rest-ne0.true apart) ∙ sym (modulus-some _ _ some))

pub returns-then-rest-b-clause-law : goal.returns-then-rest-b-clause-law
returns-then-rest-b-clause-law c =
    let fits = c.ranges.a in
    let fits' = c.ranges.b in
    let rest_fits : FitsSigned w64 c.wrapping_rem-rest.result = record { sfits = c.wrapping_rem-rest.type_inv } in
    let some = some_from_word c.args.b fits' c.if-b-eq0.false in
    let is = simp to_z-of_z at c.wrapping_rem-rest.ensures in
    let apart = simp to_z-of_z at c.if-rest-b.true in
    rw (to_z-of_z w64 c.wrapping_rem-rest.result rest_fits, to_z-of_z w64 c.args.b fits', turned_word c.args.a c.args.b _ fits' some is rest_fits c.if-rest-ne0.true apart)
    (IsModulus-floored_rem _ _ some)

rest_is : (c : goal.Joined-else-rest-ne0) → c.wrapping_rem-rest.result ≡ floored_rem c.args.a c.args.b
rest_is c =
    let fits = c.ranges.a in
    let fits' = c.ranges.b in
    let rest_fits : FitsSigned w64 c.wrapping_rem-rest.result = record { sfits = c.wrapping_rem-rest.type_inv } in
    let some = some_from_word c.args.b fits' c.if-b-eq0.false in
    let is = simp to_z-of_z at c.wrapping_rem-rest.ensures in
    elim c.else-rest-ne0.branch [
      | else-rest-ne0-via-then-rest-ne0+else-rest-b w ↦
          let one = simp to_z-of_z at w.if-rest-b.false in
          same_word c.args.a c.args.b _ some is one
      | else-rest-ne0-via-else-rest-ne0 w ↦ zero_word c.args.a c.args.b _ some is rest_fits w.if-rest-ne0.false
    ]

pub returns-else-rest-ne0-clause-value : goal.returns-else-rest-ne0-clause-value
returns-else-rest-ne0-clause-value c =
    ap Ok (to_z-of_z w64 c.wrapping_rem-rest.result (record { sfits = c.wrapping_rem-rest.type_inv }) ∙ rest_is c)
    ∙ sym (modulus-some _ _ (some_from_word c.args.b c.ranges.b c.if-b-eq0.false))

pub returns-else-rest-ne0-clause-law : goal.returns-else-rest-ne0-clause-law
returns-else-rest-ne0-clause-law c =
    rw (to_z-of_z w64 c.wrapping_rem-rest.result (record { sfits = c.wrapping_rem-rest.type_inv }), rest_is c)
    (IsModulus-floored_rem _ _ (some_from_word c.args.b c.ranges.b c.if-b-eq0.false))
