use Rattle.std.proofs.Common.{◌≡◌, ◌∙◌, [], ◌∷◌, true, false, Ok, ap, rules}
use Rattle.jt_syntax.specs.declared.token.Sign.TheVariants as sign
use Rattle.jt_grammar.specs.Reader.{word, is, kind_of}
use Rattle.jt_cursor.proofs.Lists.{commas_done, comma_refused, item_refused, commas_go, commas_spent, list_gathered}
use Rattle.jt_parser.proofs.top.TopRules.more_names.Goals as goal

pub returns-then-not-sees : goal.returns-then-not-sees
returns-then-not-sees c =
    let e : is sign.Comma (kind_of c.loop-turn.tokens) ≡ false = search rules in
    let d = commas_done word [] (λ i is. i ∷ is) _ c.loop-turn._turn c.loop-turn.found c.loop-turn.tokens _ c.loop-turn.invariant c.loop-turn-test.true e in
    d ∙ ap (λ z. Ok (z, c.loop-turn.tokens)) (list_gathered c.loop-turn.found)

pub loop-turn-preserved : goal.loop-turn-preserved
loop-turn-preserved c =
    let e : is sign.Comma (kind_of c.loop-turn.tokens) ≡ true = search rules in
    commas_go word [] (λ i is. i ∷ is) _ c.loop-turn._turn c.loop-turn.found c.loop-turn.tokens _ c.loop-turn.invariant c.loop-turn-test.true e _ c.skip.new.self c.in_ok-skip.ensures c.in_ok-word.field-0 c.word.new.self c.in_ok-word.ensures c.push.new.self c.in_ok-push.ensures.ok

pub returns : goal.returns
returns c =
    commas_spent word [] (λ i is. i ∷ is) _ c.loop-turn._turn c.loop-turn.found c.loop-turn.tokens _ c.loop-turn.invariant c.loop-turn-test.false

pub returns-in_err-skip : goal.returns-in_err-skip
returns-in_err-skip c =
    let e : is sign.Comma (kind_of c.loop-turn.tokens) ≡ true = search rules in
    let f = comma_refused word [] (λ i is. i ∷ is) _ c.loop-turn._turn c.loop-turn.found c.loop-turn.tokens _ c.loop-turn.invariant c.loop-turn-test.true e c.in_err-skip.field-0.0 c.in_err-skip.ensures in
    search rules

pub returns-in_err-word : goal.returns-in_err-word
returns-in_err-word c =
    let e : is sign.Comma (kind_of c.loop-turn.tokens) ≡ true = search rules in
    let f = item_refused word [] (λ i is. i ∷ is) _ c.loop-turn._turn c.loop-turn.found c.loop-turn.tokens _ c.loop-turn.invariant c.loop-turn-test.true e _ c.skip.new.self c.in_ok-skip.ensures c.in_err-word.field-0.0 c.in_err-word.ensures in
    search rules
