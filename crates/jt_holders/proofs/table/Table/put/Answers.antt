-- The name has one depth more.
use Rattle.std.proofs.Common.{◌≡◌, ◌∙◌, ◌++◌, ◌∷◌, [], ap, rules}
use Rattle.std.specs.Option.{unwrap_or}
use Rattle.indexmap.specs.Entry.{map_with_value}
use Rattle.jt_names.specs.Lookup.{found}
use Rattle.jt_holders.proofs.TableLaws.{on_ok, on_err, put_more, put_same}
use Rattle.jt_holders.proofs.table.Table.put.Goals as goal

pub returns-clause-ok : goal.returns-clause-ok
returns-clause-ok c =
    let had = c.or_insert-depths.ensures.value ∙ (ap (λ z. unwrap_or z c.new.result) c.in_ok-self.ensures.value ∙ ap (unwrap_or (found c.args.self.now.depths.entries c.in_ok-key.key.items)) c.new.ensures) in
    let put = on_ok c.push.result (c.push.new.self ≡ c.or_insert-depths.result.now ++ c.args.depth ∷ []) _
    (λ e. put_more c.args.self.now.depths (map_with_value c.in_ok-self.field-0 c.push.new.self) c.in_ok-key.key.items c.args.identifier.now (c.in_ok-key.ensures.items ∙ c.as_slice.ensures) c.or_insert-depths.result.now c.push.new.self c.args.depth
    had e (c.in_ok-self.ensures.update.0 c.push.new.self)) c.push.ensures.ok in
    search (rules, put)

pub returns-clause-err : goal.returns-clause-err
returns-clause-err c =
    let had = c.or_insert-depths.ensures.value ∙ (ap (λ z. unwrap_or z c.new.result) c.in_ok-self.ensures.value ∙ ap (unwrap_or (found c.args.self.now.depths.entries c.in_ok-key.key.items)) c.new.ensures) in
    let put = on_err c.push.result (c.push.new.self ≡ c.or_insert-depths.result.now) _
    (λ e. put_same c.args.self.now.depths (map_with_value c.in_ok-self.field-0 c.push.new.self) c.in_ok-key.key.items c.args.identifier.now (c.in_ok-key.ensures.items ∙ c.as_slice.ensures) c.or_insert-depths.result.now c.push.new.self
    had e (c.in_ok-self.ensures.update.0 c.push.new.self)) c.push.ensures.err in
    search (rules, put)
