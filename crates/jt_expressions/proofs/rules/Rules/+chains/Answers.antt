use Rattle.std.proofs.Common.{◌≡◌, Some, None, rules, arith}
use Rattle.std.proofs.lemmas.Grind.{common_steps}
use Rattle.jt_grammar.specs.Reader.{kind_of, read, read_step}
use Rattle.jt_cursor.specs.Operators.{operator_in}
use Rattle.jt_expressions.specs.Chains.{tighter_than}
use Rattle.jt_expressions.specs.Nested.{nested}
use Rattle.jt_expressions.proofs.Chains.{chain_goes, chain_refused, terms_spent, terms_done, operator_refused, operand_refused, terms_go}
use Rattle.jt_expressions.proofs.rules.Rules.+chains.Goals as goal

pub terms-returns-in_default : goal.terms-returns-in_default
terms-returns-in_default g t c =
    let item = nested tighter_than c.args.self.now.turns c.args.self.now.depth c.args.class in
    let none : None ≡ operator_in c.args.class (kind_of c.loop-turn.tokens) = search rules in
    terms_done c.args.class item _ c.loop-turn._turn c.loop-turn.found c.loop-turn.tokens _ c.loop-turn.invariant c.loop-turn-test.true none

pub terms-returns-in_err-skip : goal.terms-returns-in_err-skip
terms-returns-in_err-skip g t c =
    let item = nested tighter_than c.args.self.now.turns c.args.self.now.depth c.args.class in
    let some : Some c.in-Some.operator ≡ operator_in c.args.class (kind_of c.loop-turn.tokens) = search rules in
    let f = operator_refused c.args.class item _ c.loop-turn._turn c.loop-turn.found c.loop-turn.tokens _ c.loop-turn.invariant c.loop-turn-test.true _ some c.in_err-skip.field-0.0 c.in_err-skip.ensures in
    search rules

pub terms-returns-in_err-operand : goal.terms-returns-in_err-operand
terms-returns-in_err-operand g t c =
    let item = nested tighter_than c.args.self.now.turns c.args.self.now.depth c.args.class in
    let some : Some c.in-Some.operator ≡ operator_in c.args.class (kind_of c.loop-turn.tokens) = search rules in
    let f = operand_refused c.args.class item _ c.loop-turn._turn c.loop-turn.found c.loop-turn.tokens _ c.loop-turn.invariant c.loop-turn-test.true _ some _ c.skip.new.self c.in_ok-skip.ensures c.in_err-operand.field-0.0 c.in_err-operand.ensures in
    search rules

pub terms-loop-turn-preserved : goal.terms-loop-turn-preserved
terms-loop-turn-preserved g t c =
    let item = nested tighter_than c.args.self.now.turns c.args.self.now.depth c.args.class in
    let some : Some c.in-Some.operator ≡ operator_in c.args.class (kind_of c.loop-turn.tokens) = search rules in
    terms_go c.args.class item _ c.loop-turn._turn c.loop-turn.found c.loop-turn.tokens _ c.loop-turn.invariant c.loop-turn-test.true _ some _ c.skip.new.self c.in_ok-skip.ensures
    c.in_ok-operand.operand c.tighter.new.tokens c.in_ok-operand.ensures c.push.new.self c.in_ok-push.ensures.ok

pub terms-returns : goal.terms-returns
terms-returns g t c =
    let item = nested tighter_than c.args.self.now.turns c.args.self.now.depth c.args.class in
    terms_spent c.args.class item _ c.loop-turn._turn c.loop-turn.found c.loop-turn.tokens _ c.loop-turn.invariant c.loop-turn-test.false

pub chain-returns-in_err-first : goal.chain-returns-in_err-first
chain-returns-in_err-first g t c =
    let n = c.args.self.now.turns in
    let d = c.args.self.now.depth in
    let f = chain_refused n d (read n d) (read_step n d) c.args.class c.args.tokens.now c.in_err-first.field-0.0 c.in_err-first.ensures in
    search rules

pub chain-returns-in_err-more : goal.chain-returns-in_err-more
chain-returns-in_err-more g t c =
    let n = c.args.self.now.turns in
    let d = c.args.self.now.depth in
    let chain = chain_goes n d (read n d) (read_step n d) c.args.class c.args.tokens.now _ _ c.in_ok-first.ensures in
    first_of (search rules, grind (arith, common_steps))

pub chain-returns : goal.chain-returns
chain-returns g t c =
    let n = c.args.self.now.turns in
    let d = c.args.self.now.depth in
    let chain = chain_goes n d (read n d) (read_step n d) c.args.class c.args.tokens.now _ _ c.in_ok-first.ensures in
    first_of (search rules, grind (arith, common_steps))
