use Rattle.std.proofs.Common.{◌≡◌, ◌∙◌, true, false, map, Ok, ap, rules}
use Rattle.jt_syntax.specs.Tree.{no_steps, step}
use Rattle.jt_syntax.specs.View.{stmt_view}
use Rattle.jt_grammar.specs.Reader.{read_step, ends, kind_of}
use Rattle.jt_cursor.proofs.Lists.{list_done, list_refused, list_gap_refused, list_goes, list_ends, list_spent, steps_gathered}
use Rattle.jt_statements.proofs.phrases.Phrases.statements.Goals as goal

pub returns-then-ends : goal.returns-then-ends
returns-then-ends g c =
    let e : ends (kind_of c.loop-turn.tokens) ≡ true = search rules in
    let d = list_done stmt_view c.args.self.now.rules.turns (read_step c.args.self.now.rules.turns c.args.self.now.rules.depth) no_steps step _ c.loop-turn._turn c.loop-turn.found c.loop-turn.tokens _ c.loop-turn.invariant c.loop-turn-test.true e in
    d ∙ ap (λ z. Ok (z, c.loop-turn.tokens)) (steps_gathered (map stmt_view c.loop-turn.found))

pub returns-in_err-inner_step : goal.returns-in_err-inner_step
returns-in_err-inner_step g c =
    let e : ends (kind_of c.loop-turn.tokens) ≡ false = search rules in
    let f = list_refused stmt_view c.args.self.now.rules.turns (read_step c.args.self.now.rules.turns c.args.self.now.rules.depth) no_steps step _ c.loop-turn._turn c.loop-turn.found c.loop-turn.tokens _ c.loop-turn.invariant c.loop-turn-test.true e c.in_err-inner_step.field-0.0 c.in_err-inner_step.ensures in
    search rules

pub returns-in_err-apart : goal.returns-in_err-apart
returns-in_err-apart g c =
    let e : ends (kind_of c.loop-turn.tokens) ≡ false = search rules in
    let f = list_gap_refused stmt_view c.args.self.now.rules.turns (read_step c.args.self.now.rules.turns c.args.self.now.rules.depth) no_steps step _ c.loop-turn._turn c.loop-turn.found c.loop-turn.tokens _ c.loop-turn.invariant c.loop-turn-test.true e c.in_ok-inner_step.field-0 c.inner_step.new.tokens c.in_ok-inner_step.ensures c.in_err-apart.field-0.0 c.in_err-apart.ensures in
    search rules

pub returns-then-not-apart : goal.returns-then-not-apart
returns-then-not-apart g c =
    let e : ends (kind_of c.loop-turn.tokens) ≡ false = search rules in
    let d = list_ends stmt_view c.args.self.now.rules.turns (read_step c.args.self.now.rules.turns c.args.self.now.rules.depth) no_steps step _ c.loop-turn._turn c.loop-turn.found c.loop-turn.tokens _ c.loop-turn.invariant c.loop-turn-test.true e c.in_ok-inner_step.field-0 c.inner_step.new.tokens c.in_ok-inner_step.ensures c.push.new.self c.gap.new.self c.in_ok-push.ensures.ok (search rules) in
    d ∙ ap (λ z. Ok (z, c.gap.new.self)) (steps_gathered (map stmt_view c.push.new.self))

pub loop-turn-preserved : goal.loop-turn-preserved
loop-turn-preserved g c =
    let e : ends (kind_of c.loop-turn.tokens) ≡ false = search rules in
    list_goes stmt_view c.args.self.now.rules.turns (read_step c.args.self.now.rules.turns c.args.self.now.rules.depth) no_steps step _ c.loop-turn._turn c.loop-turn.found c.loop-turn.tokens _ c.loop-turn.invariant c.loop-turn-test.true e c.in_ok-inner_step.field-0 c.inner_step.new.tokens c.in_ok-inner_step.ensures c.push.new.self c.gap.new.self c.in_ok-push.ensures.ok (search rules)

pub returns : goal.returns
returns g c =
    list_spent stmt_view c.args.self.now.rules.turns (read_step c.args.self.now.rules.turns c.args.self.now.rules.depth) no_steps step _ c.loop-turn._turn c.loop-turn.found c.loop-turn.tokens _ c.loop-turn.invariant c.loop-turn-test.false
