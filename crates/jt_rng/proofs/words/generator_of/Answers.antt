use Rattle.std.proofs.Common.{rules, ◌∙◌}
use Rattle.jt_rng.specs.Generator.{IsGenerator}
use Rattle.jt_rng.proofs.GeneratorLemmas.{of_seed-nonzero}
use Rattle.jt_rng.proofs.words.generator_of.Goals as goal

pub returns-clause-value : goal.returns-clause-value
returns-clause-value c =
    let words : IsGenerator c.nonzero.result = record { four = search rules; words = λ i. search rules } in
    c.from_seed.ensures
    ∙ of_seed-nonzero c.args.words c.seed_of.result c.nonzero.result c.nonzero.ensures c.seed_of.ensures words
