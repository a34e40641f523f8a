use Rattle.std.proofs.Common.{◌≡◌, ◌∙◌, true, false, ap, map, Ok, rules}
use Rattle.jt_syntax.specs.Tree as tree
use Rattle.jt_syntax.specs.declared.token.Sign.TheVariants as sign
use Rattle.jt_grammar.specs.Reader.{is, kind_of}
use Rattle.jt_cursor.proofs.CommaTurns.{gather-trees, commas_spent, commas_done, comma_refused, commas_refused, commas_go}
use Rattle.jt_cursor.proofs.comma.commas.Goals as goal

pub returns-then-not-sees : goal.returns-then-not-sees
returns-then-not-sees g c of p gives =
    let ends : is sign.Comma (kind_of c.loop-turn.tokens) ≡ false = search rules in
    commas_done of p tree.no_trees tree.tree c.args.turns c.loop-turn._turn c.loop-turn.found c.loop-turn.tokens _ (c.loop-turn.invariant of p gives) c.loop-turn-test.true ends
    ∙ ap (λ z. Ok (z, c.loop-turn.tokens)) (gather-trees (map of c.loop-turn.found))

pub returns-in_err-skip : goal.returns-in_err-skip
returns-in_err-skip g c of p gives =
    let more : is sign.Comma (kind_of c.loop-turn.tokens) ≡ true = search rules in
    let o = comma_refused of p tree.no_trees tree.tree c.args.turns c.loop-turn._turn c.loop-turn.found c.loop-turn.tokens _ (c.loop-turn.invariant of p gives) c.loop-turn-test.true more _ c.in_err-skip.ensures in
    search rules

pub returns-in_err-item : goal.returns-in_err-item
returns-in_err-item g c of p gives =
    let more : is sign.Comma (kind_of c.loop-turn.tokens) ≡ true = search rules in
    let o = commas_refused of p tree.no_trees tree.tree c.args.turns c.loop-turn._turn c.loop-turn.found c.loop-turn.tokens _ (c.loop-turn.invariant of p gives) c.loop-turn-test.true more _ _ c.in_ok-skip.ensures _ (gives _ _ _ c.in_err-item.ensures) in
    search rules

pub loop-turn-preserved : goal.loop-turn-preserved
loop-turn-preserved g c of p gives =
    let more : is sign.Comma (kind_of c.loop-turn.tokens) ≡ true = search rules in
    commas_go of p tree.no_trees tree.tree c.args.turns c.loop-turn._turn c.loop-turn.found c.loop-turn.tokens _ (c.loop-turn.invariant of p gives) c.loop-turn-test.true more _ _ c.in_ok-skip.ensures
    c.in_ok-item.field-0 c.push.new.self c.item.new.arg2 (gives _ _ _ c.in_ok-item.ensures) c.in_ok-push.ensures.ok

pub returns : goal.returns
returns g c of p gives = commas_spent of p tree.no_trees tree.tree c.args.turns c.loop-turn._turn c.loop-turn.found c.loop-turn.tokens _ (c.loop-turn.invariant of p gives) c.loop-turn-test.false
