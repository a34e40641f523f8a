use Rattle.std.proofs.Common.{rules, sym, ◌∙◌}
use Rattle.jt_rng.proofs.GeneratorLemmas.{nonzero-zeros, nonzero-other}
use Rattle.jt_rng.proofs.words.nonzero.Goals as goal

pub returns-then-eq : goal.returns-then-eq
returns-then-eq c = nonzero-zeros _ (search rules) (sym c.eq.ensures ∙ c.if-eq.true)

pub returns-else-eq : goal.returns-else-eq
returns-else-eq c = nonzero-other _ (search rules) (sym c.eq.ensures ∙ c.if-eq.false)
