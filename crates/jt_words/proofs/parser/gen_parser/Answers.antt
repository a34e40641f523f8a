use Rattle.std.proofs.Common.{ap₂, ◌∙◌}
use Rattle.std.proofs.lemmas.Result.{IfOk-weaker}
use Rattle.clap.specs.Simple.{with_rule}
use Rattle.jt_words.proofs.parser.gen_parser.Goals as goal

pub returns : goal.returns
returns c =
    let first = c.in_ok-arg.ensures.shape c.option.ensures.local ∙ ap₂ with_rule c.parser_named.ensures c.option.ensures.rule in
    IfOk-weaker c.arg-2.result _ _ (λ r adds. adds.shape c.flag.ensures.local ∙ ap₂ with_rule first c.flag.ensures.rule) c.arg-2.ensures
