-- A name that is there keeps its place.
use Rattle.std.proofs.Common.{◌∙◌, ap, rules}
use Rattle.std.specs.Option.{unwrap_or}
use Rattle.indexmap.specs.Entry.{map_with_value}
use Rattle.jt_names.proofs.Lookup.{first_added}
use Rattle.jt_names.proofs.firsts.Firsts.add.Goals as goal

pub returns-clause-ok : goal.returns-clause-ok
returns-clause-ok c =
    let added = first_added c.args.self.now.places (map_with_value c.in_ok-self.field-0 c.or_insert.result.now) c.in_ok-key.key.items c.args.name.now c.args.place _ c.in_ok-key.ensures.items (c.or_insert.ensures.value ∙ ap (λ z. unwrap_or z c.args.place) c.in_ok-self.ensures.value) (c.in_ok-self.ensures.update.0 c.or_insert.result.now) in
    search (rules, added)
