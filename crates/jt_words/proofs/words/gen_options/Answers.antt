use Rattle.std.proofs.Common.{◌∙◌, ap, codes, subst}
use Rattle.jt_words.specs.Values.{number, required}
use Rattle.jt_words.specs.Commands.{gen_choices}
use Rattle.jt_words.specs.Parser.{Parsed}
use Rattle.jt_words.proofs.Answered.{gen_answered, gen_is_plain}
use Rattle.jt_words.proofs.words.gen_options.Goals as goal

pub returns-in-None : goal.returns-in-None
returns-in-None c = λ gen says.
    subst (Parsed gen_choices _) c.in-None.is (c.in_ok-matches_of.ensures (codes "gen") gen_choices c.in_ok-gen_parser.ensures gen_is_plain) says.options says.spell

pub returns-in-Some : goal.returns-in-Some
returns-in-Some c =
    gen_answered _ c.in-Some.matches c.gen_with.result _ _
    (subst (Parsed gen_choices _) c.in-Some.is (c.in_ok-matches_of.ensures (codes "gen") gen_choices c.in_ok-gen_parser.ensures gen_is_plain))
    (c.required_number-size.ensures ∙ ap (required (number 1 80)) c.get_str.ensures)
    c.contains_id-text.ensures
    c.gen_with.ensures.some c.gen_with.ensures.none
