use Rattle.std.proofs.Common.{◌≡◌, true, false, Some, None, rules}
use Rattle.jt_grammar.specs.Reader.{kind_of, is_jump}
use Rattle.jt_cursor.specs.Operators.{operator_in}
use Rattle.jt_expressions.specs.Chains.{tighter_than}
use Rattle.jt_expressions.specs.Nested.{nested}
use Rattle.jt_expressions.proofs.Chains.{guarded_spent, guarded_done, connective_refused, guarded_jumps, guarded_refused, guarded_go}
use Rattle.jt_expressions.proofs.rules.Rules.guarded_by.Goals as goal

pub returns-in_default : goal.returns-in_default
returns-in_default g c =
    let item = nested tighter_than c.args.self.now.turns c.args.self.now.depth c.args.class in
    let none : None ≡ operator_in c.args.class (kind_of c.loop-turn.tokens) = search rules in
    guarded_done c.args.class item _ c.loop-turn._turn c.loop-turn.operands c.loop-turn.tokens _ c.loop-turn.invariant c.loop-turn-test.true none

pub returns-in_err-skip : goal.returns-in_err-skip
returns-in_err-skip g c =
    let item = nested tighter_than c.args.self.now.turns c.args.self.now.depth c.args.class in
    let some : Some c.in-Some.operator ≡ operator_in c.args.class (kind_of c.loop-turn.tokens) = search rules in
    let f = connective_refused c.args.class item _ c.loop-turn._turn c.loop-turn.operands c.loop-turn.tokens _ c.loop-turn.invariant c.loop-turn-test.true _ some c.in_err-skip.field-0.0 c.in_err-skip.ensures in
    search rules

pub returns-then-is_jump : goal.returns-then-is_jump
returns-then-is_jump g c =
    let item = nested tighter_than c.args.self.now.turns c.args.self.now.depth c.args.class in
    let some : Some c.in-Some.operator ≡ operator_in c.args.class (kind_of c.loop-turn.tokens) = search rules in
    let jumps : is_jump (kind_of c.skip.new.self) ≡ true = search rules in
    guarded_jumps c.args.class item _ c.loop-turn._turn c.loop-turn.operands c.loop-turn.tokens _ c.loop-turn.invariant c.loop-turn-test.true _ some _ c.skip.new.self c.in_ok-skip.ensures jumps

pub returns-in_err-operand : goal.returns-in_err-operand
returns-in_err-operand g c =
    let item = nested tighter_than c.args.self.now.turns c.args.self.now.depth c.args.class in
    let some : Some c.in-Some.operator ≡ operator_in c.args.class (kind_of c.loop-turn.tokens) = search rules in
    let stays : is_jump (kind_of c.skip.new.self) ≡ false = search rules in
    let f = guarded_refused c.args.class item _ c.loop-turn._turn c.loop-turn.operands c.loop-turn.tokens _ c.loop-turn.invariant c.loop-turn-test.true _ some _ c.skip.new.self c.in_ok-skip.ensures stays c.in_err-operand.field-0.0 c.in_err-operand.ensures in
    search rules

pub loop-turn-preserved : goal.loop-turn-preserved
loop-turn-preserved g c =
    let item = nested tighter_than c.args.self.now.turns c.args.self.now.depth c.args.class in
    let some : Some c.in-Some.operator ≡ operator_in c.args.class (kind_of c.loop-turn.tokens) = search rules in
    let stays : is_jump (kind_of c.skip.new.self) ≡ false = search rules in
    guarded_go c.args.class item _ c.loop-turn._turn c.loop-turn.operands c.loop-turn.tokens _ c.loop-turn.invariant c.loop-turn-test.true _ some _ c.skip.new.self c.in_ok-skip.ensures stays
    c.in_ok-operand.operand c.tighter.new.tokens c.in_ok-operand.ensures c.push.new.self c.in_ok-push.ensures.ok

pub returns : goal.returns
returns g c =
    let item = nested tighter_than c.args.self.now.turns c.args.self.now.depth c.args.class in
    guarded_spent c.args.class item _ c.loop-turn._turn c.loop-turn.operands c.loop-turn.tokens _ c.loop-turn.invariant c.loop-turn-test.false
