use Rattle.std.proofs.Common.{w64, rules, ◌∙◌, sym}
use Rattle.std.proofs.lemmas.Int.{to_z-of_z}
use Rattle.jt_num.proofs.WrappingLemmas.{wrapped-word, only_wrapped}
use Rattle.jt_num.proofs.arithmetic.wrap_word.Goals as goal

pub returns-clause-value : goal.returns-clause-value
returns-clause-value c =
    to_z-of_z w64 c.cast_signed.result (record { sfits = c.cast_signed.type_inv }) ∙ c.cast_signed.ensures ∙ sym (wrapped-word c.args.word (search rules))

pub returns-clause-only : goal.returns-clause-only
returns-clause-only c = only_wrapped _ _ (returns-clause-value c)
