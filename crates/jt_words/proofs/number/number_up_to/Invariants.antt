use Rattle.std.proofs.Common.{◌≡◌, ◌≤◌, drop}
use Rattle.jt_words.specs.Values as spec
use Rattle.jt_words.proofs.number.number_up_to.Given as goal

abbrev pub invariant-loop-digit : goal.invariant-loop-digit
invariant-loop-digit l =
    (spec.within 0 l.fn.most (spec.number_from l.number (drop l.digit-index l.text)) ≡ spec.within 0 l.fn.most (spec.number_from 0 l.fn.text)) × (l.number ≤ l.fn.most)
