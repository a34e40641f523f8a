use Rattle.std.proofs.Common.{ap₂, ◌∙◌}
use Rattle.std.proofs.lemmas.Result.{IfOk-weaker}
use Rattle.clap.specs.Simple.{with_rule}
use Rattle.jt_words.proofs.parser.run_parser.Goals as goal

pub returns : goal.returns
returns c =
    let first = c.in_ok-arg.ensures.shape c.option.ensures.local ∙ ap₂ with_rule c.parser_named.ensures c.option.ensures.rule in
    let second = c.in_ok-arg-2.ensures.shape c.option-2.ensures.local ∙ ap₂ with_rule first c.option-2.ensures.rule in
    let third = c.in_ok-arg-3.ensures.shape c.option-3.ensures.local ∙ ap₂ with_rule second c.option-3.ensures.rule in
    let fourth = c.in_ok-arg-4.ensures.shape c.option-4.ensures.local ∙ ap₂ with_rule third c.option-4.ensures.rule in
    IfOk-weaker c.arg-5.result _ _ (λ r adds. adds.shape c.option-5.ensures.local ∙ ap₂ with_rule fourth c.option-5.ensures.rule) c.arg-5.ensures
