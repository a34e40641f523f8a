use Rattle.std.proofs.Common.{◌∙◌, ap, codes, subst, []}
use Rattle.jt_words.specs.Values.{ancestry_named, default_seed, number, or_default, required, seed_named}
use Rattle.jt_words.specs.Commands.{draws_choices}
use Rattle.jt_words.specs.Parser.{Parsed}
use Rattle.jt_words.proofs.Answered.{draws_answered, draws_is_plain}
use Rattle.jt_words.proofs.words.draws_options.Goals as goal

pub returns-in-None : goal.returns-in-None
returns-in-None c = λ draws says.
    subst (Parsed draws_choices _) c.in-None.is (c.in_ok-matches_of.ensures (codes "draws") draws_choices c.in_ok-draws_parser.ensures draws_is_plain) says.options says.spell

pub returns-in_ok-ancestry-in-Some : goal.returns-in_ok-ancestry-in-Some
returns-in_ok-ancestry-in-Some c =
    draws_answered _ c.in-Some.matches c.draws_with.result _ _ _
    (subst (Parsed draws_choices _) c.in-Some.is (c.in_ok-matches_of.ensures (codes "draws") draws_choices c.in_ok-draws_parser.ensures draws_is_plain))
    (c.in_ok-seed-in-Some.ensures ∙ ap (or_default default_seed seed_named) c.get_str.ensures)
    (c.required_number-count.ensures ∙ ap (required (number 1 1000)) c.get_str-in-Some.ensures)
    (c.in_ok-ancestry-in-Some.ensures ∙ ap (or_default [] ancestry_named) c.get_str-in-Some-2.ensures)
    c.draws_with.ensures.some c.draws_with.ensures.none
