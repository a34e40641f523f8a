use Rattle.std.proofs.Common.{◌≡◌, true, false, rules}
use Rattle.jt_syntax.specs.declared.token.Sign.TheVariants as sign
use Rattle.jt_grammar.specs.Reader.{read, read_step, is, kind_of}
use Rattle.jt_statements.specs.Arms.{last_view}
use Rattle.jt_statements.proofs.Arms.{arms_done, last_refused, skip_refused, arm_refused, arms_go, arms_spent}
use Rattle.jt_statements.proofs.phrases.Phrases.arms_from.Goals as goal

pub returns-in_err-last : goal.returns-in_err-last
returns-in_err-last g c =
    let t = c.args.self.now.rules.turns in
    let d = c.args.self.now.rules.depth in
    let e : is sign.ElseIf (kind_of c.loop-turn.tokens) ≡ false = search rules in
    let f = last_refused t d (read t d) (read_step t d) _ c.loop-turn._turn c.loop-turn.arms c.loop-turn.tokens _ c.loop-turn.invariant c.loop-turn-test.true e c.in_err-last.field-0.0 c.in_err-last.ensures in
    search rules

pub returns-then-not-sees : goal.returns-then-not-sees
returns-then-not-sees g c =
    let t = c.args.self.now.rules.turns in
    let d = c.args.self.now.rules.depth in
    let e : is sign.ElseIf (kind_of c.loop-turn.tokens) ≡ false = search rules in
    arms_done t d (read t d) (read_step t d) _ c.loop-turn._turn c.loop-turn.arms c.loop-turn.tokens _ c.loop-turn.invariant c.loop-turn-test.true e (last_view c.in_ok-last.last) c.last_arm.new.tokens c.in_ok-last.ensures

pub returns-in_err-skip : goal.returns-in_err-skip
returns-in_err-skip g c =
    let t = c.args.self.now.rules.turns in
    let d = c.args.self.now.rules.depth in
    let e : is sign.ElseIf (kind_of c.loop-turn.tokens) ≡ true = search rules in
    let f = skip_refused t d (read t d) (read_step t d) _ c.loop-turn._turn c.loop-turn.arms c.loop-turn.tokens _ c.loop-turn.invariant c.loop-turn-test.true e c.in_err-skip.field-0.0 c.in_err-skip.ensures in
    search rules

pub returns-in_err-arm : goal.returns-in_err-arm
returns-in_err-arm g c =
    let t = c.args.self.now.rules.turns in
    let d = c.args.self.now.rules.depth in
    let e : is sign.ElseIf (kind_of c.loop-turn.tokens) ≡ true = search rules in
    let f = arm_refused t d (read t d) (read_step t d) _ c.loop-turn._turn c.loop-turn.arms c.loop-turn.tokens _ c.loop-turn.invariant c.loop-turn-test.true e _ c.skip.new.self c.in_ok-skip.ensures c.in_err-arm.field-0.0 c.in_err-arm.ensures in
    search rules

pub loop-turn-preserved : goal.loop-turn-preserved
loop-turn-preserved g c =
    let t = c.args.self.now.rules.turns in
    let d = c.args.self.now.rules.depth in
    let e : is sign.ElseIf (kind_of c.loop-turn.tokens) ≡ true = search rules in
    arms_go t d (read t d) (read_step t d) _ c.loop-turn._turn c.loop-turn.arms c.loop-turn.tokens _ c.loop-turn.invariant c.loop-turn-test.true e _ c.skip.new.self c.in_ok-skip.ensures c.in_ok-arm.field-0 c.arm.new.tokens c.in_ok-arm.ensures c.push.new.self c.in_ok-push.ensures.ok

pub returns : goal.returns
returns g c =
    let t = c.args.self.now.rules.turns in
    let d = c.args.self.now.rules.depth in
    arms_spent t d (read t d) (read_step t d) _ c.loop-turn._turn c.loop-turn.arms c.loop-turn.tokens _ c.loop-turn.invariant c.loop-turn-test.false
