use Rattle.std.proofs.Common.{◌≡◌, ◌+◌, ◌*◌, ◌≤◌, drop, length}
use Rattle.jt_words.specs.Values as spec
use Rattle.jt_words.proofs.ancestry.is_short.Given as goal

abbrev pub invariant-loop-ancestor : goal.invariant-loop-ancestor
invariant-loop-ancestor l = (l.total + spec.total (drop l.ancestor-index l.ancestors) ≡ spec.total l.ancestors) × (l.total ≤ l.ancestor-index * 2000000) × (length l.ancestors ≤ 48)
