use Rattle.std.proofs.Common.{rules, ◌∙◌, sym}
use Rattle.std.proofs.lemmas.Int.{wraps}
use Rattle.jt_num.proofs.WrappingLemmas.{wrapped-int_wrap, only_wrapped}
use Rattle.jt_num.proofs.arithmetic.mul.Goals as goal

pub returns-clause-value : goal.returns-clause-value
returns-clause-value c = search (rules, wraps) ∙ sym (wrapped-int_wrap _)

pub returns-clause-only : goal.returns-clause-only
returns-clause-only c = only_wrapped _ _ (returns-clause-value c)
