use Rattle.std.proofs.Common.{◌≡◌, ◌∙◌, [], ◌∷◌, ◌++◌, false, ap, sym, map, subst, rules}
use Rattle.jt_syntax.specs.Tree as tree
use Rattle.jt_syntax.specs.declared.token.Sign.TheVariants as sign
use Rattle.jt_grammar.specs.Reader.{is, kind_of, commas_from}
use Rattle.jt_cursor.specs.Commas.{trees_view}
use Rattle.jt_cursor.specs.Parses.{Parses}
use Rattle.jt_cursor.proofs.CommaTurns.{commas_begun}
use Rattle.jt_cursor.proofs.comma.comma_list.Goals as goal

pub returns : goal.returns
returns g c of p gives =
    let open_still : is sign.Close (kind_of c.args.tokens.now) ≡ false = search rules in
    let x = c.in_ok-item.field-0 in
    let found : map of c.push.new.self ≡ of x ∷ [] = ap (map of) (c.in_ok-push.ensures.ok ∙ ap (λ z. z ++ x ∷ []) c.new-found.ensures) in
    subst (λ o. Parses (trees_view of) o c.commas.result c.commas.new.tokens)
    (ap (λ z. commas_from p tree.no_trees tree.tree c.args.turns z c.item.new.arg2) found
    ∙ sym (commas_begun p tree.no_trees tree.tree c.args.turns c.args.tokens.now (of x) c.item.new.arg2 open_still (gives _ _ _ c.in_ok-item.ensures)))
    (c.commas.ensures of p gives)
