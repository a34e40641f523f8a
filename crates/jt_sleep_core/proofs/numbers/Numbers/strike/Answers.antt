use Rattle.std.proofs.Common.{eqb, sym, ap, ◌∙◌}
use Rattle.std.specs.List.{position}
use Rattle.jt_sleep_core.specs.Steps.{without}
use Rattle.jt_sleep_core.proofs.Without.{without-Some, without-None}
use Rattle.jt_sleep_core.proofs.numbers.Numbers.strike.Goals as goal

pub returns-in-Some : goal.returns-in-Some
returns-in-Some c =
    let items = c.self.inside.items.items in
    let found = sym (c.first_place.ensures ∙ ap (position (λ x. eqb x c.args.number)) c.as_slice.ensures.value) ∙ c.in-Some.is in
    c.remove.ensures.items ∙ (sym (without-Some c.args.number items c.in-Some.at found) ∙ ap (without c.args.number) c.self.view_is)

pub returns-in_default : goal.returns-in_default
returns-in_default c =
    let items = c.self.inside.items.items in
    let found = sym (c.first_place.ensures ∙ ap (position (λ x. eqb x c.args.number)) c.as_slice.ensures.value) ∙ c.in_default.is in
    sym (c.self.view_is) ∙ (sym (without-None c.args.number items found) ∙ ap (without c.args.number) c.self.view_is)
