use Rattle.std.proofs.Common.{◌≡◌, ◌∙◌, [], ◌∷◌, true, false, map, Ok, ap, rules}
use Rattle.jt_syntax.specs.View.{top_view}
use Rattle.jt_grammar.specs.Reader.{read_top, ends, kind_of}
use Rattle.jt_cursor.proofs.Lists.{list_done, list_refused, list_gap_refused, list_goes, list_ends, list_spent, list_gathered}
use Rattle.jt_parser.proofs.top.tops.Goals as goal

pub returns-then-ends : goal.returns-then-ends
returns-then-ends c =
    let e : ends (kind_of c.loop-turn.tokens) ≡ true = search rules in
    let d = list_done top_view c.args.turns (read_top c.args.turns c.args.depth) [] (λ x xs. x ∷ xs) _ c.loop-turn._turn c.loop-turn.found c.loop-turn.tokens _ c.loop-turn.invariant c.loop-turn-test.true e in
    d ∙ ap (λ z. Ok (z, c.loop-turn.tokens)) (list_gathered (map top_view c.loop-turn.found))

pub returns-then-not-apart : goal.returns-then-not-apart
returns-then-not-apart c =
    let e : ends (kind_of c.loop-turn.tokens) ≡ false = search rules in
    let d = list_ends top_view c.args.turns (read_top c.args.turns c.args.depth) [] (λ x xs. x ∷ xs) _ c.loop-turn._turn c.loop-turn.found c.loop-turn.tokens _ c.loop-turn.invariant c.loop-turn-test.true e c.in_ok-read_top.field-0 c.read_top.new.tokens c.in_ok-read_top.ensures c.push.new.self c.gap.new.self c.in_ok-push.ensures.ok (search rules) in
    d ∙ ap (λ z. Ok (z, c.gap.new.self)) (list_gathered (map top_view c.push.new.self))

pub loop-turn-preserved : goal.loop-turn-preserved
loop-turn-preserved c =
    let e : ends (kind_of c.loop-turn.tokens) ≡ false = search rules in
    list_goes top_view c.args.turns (read_top c.args.turns c.args.depth) [] (λ x xs. x ∷ xs) _ c.loop-turn._turn c.loop-turn.found c.loop-turn.tokens _ c.loop-turn.invariant c.loop-turn-test.true e c.in_ok-read_top.field-0 c.read_top.new.tokens c.in_ok-read_top.ensures c.push.new.self c.gap.new.self c.in_ok-push.ensures.ok (search rules)

pub returns : goal.returns
returns c =
    list_spent top_view c.args.turns (read_top c.args.turns c.args.depth) [] (λ x xs. x ∷ xs) _ c.loop-turn._turn c.loop-turn.found c.loop-turn.tokens _ c.loop-turn.invariant c.loop-turn-test.false

pub returns-in_err-read_top : goal.returns-in_err-read_top
returns-in_err-read_top c =
    let e : ends (kind_of c.loop-turn.tokens) ≡ false = search rules in
    let f = list_refused top_view c.args.turns (read_top c.args.turns c.args.depth) [] (λ x xs. x ∷ xs) _ c.loop-turn._turn c.loop-turn.found c.loop-turn.tokens _ c.loop-turn.invariant c.loop-turn-test.true e c.in_err-read_top.field-0.0 c.in_err-read_top.ensures in
    search rules

pub returns-in_err-apart : goal.returns-in_err-apart
returns-in_err-apart c =
    let e : ends (kind_of c.loop-turn.tokens) ≡ false = search rules in
    let f = list_gap_refused top_view c.args.turns (read_top c.args.turns c.args.depth) [] (λ x xs. x ∷ xs) _ c.loop-turn._turn c.loop-turn.found c.loop-turn.tokens _ c.loop-turn.invariant c.loop-turn-test.true e c.in_ok-read_top.field-0 c.read_top.new.tokens c.in_ok-read_top.ensures c.in_err-apart.field-0.0 c.in_err-apart.ensures in
    search rules
