use Rattle.std.proofs.Common.{◌∙◌, ap, codes, subst}
use Rattle.jt_base.specs.Limits.{default_limits}
use Rattle.jt_words.specs.Values.{default_seed, number, one_worker, or_default, seed_named, sizes_named}
use Rattle.jt_words.specs.Commands.{run_choices}
use Rattle.jt_words.specs.Parser.{Parsed}
use Rattle.jt_words.proofs.Answered.{run_answered, run_is_plain}
use Rattle.jt_words.proofs.words.run_options.Goals as goal

pub returns-in-None : goal.returns-in-None
returns-in-None c = λ run says.
    subst (Parsed run_choices _) c.in-None.is (c.in_ok-matches_of.ensures (codes "run") run_choices c.in_ok-run_parser.ensures run_is_plain) says.options says.spell

pub returns-in_ok-seed-in-Some : goal.returns-in_ok-seed-in-Some
returns-in_ok-seed-in-Some c =
    run_answered _ c.in-Some.matches c.run_with.result _ _ _ _ _
    (subst (Parsed run_choices _) c.in-Some.is (c.in_ok-matches_of.ensures (codes "run") run_choices c.in_ok-run_parser.ensures run_is_plain))
    (c.in_ok-sizes-in-Some.ensures ∙ ap (or_default one_worker sizes_named) c.get_str.ensures)
    (c.in_ok-seed-in-Some.ensures ∙ ap (or_default default_seed seed_named) c.get_str-in-Some.ensures)
    (c.number_or-picks.ensures ∙ ap (or_default 0 (number 0 18446744073709551615)) c.get_str-in-Some-2.ensures)
    (c.number_or-turns.ensures ∙ ap (or_default default_limits.turns (number 1 1000000000)) c.get_str-in-Some-3.ensures)
    (c.small_number_or-events.ensures ∙ ap (or_default default_limits.events (number 1 262144)) c.get_str-in-Some-4.ensures)
    c.run_with.ensures.some c.run_with.ensures.none
