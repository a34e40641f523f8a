use Rattle.std.proofs.Common.{◌≡◌, ◌∙◌, ap, Some, None, rules}
use Rattle.jt_grammar.specs.Reader.{parameters}
use Rattle.jt_syntax.specs.View.{view, views}
use Rattle.jt_cursor.specs.Names.{name_of}
use Rattle.jt_cursor.proofs.Names.{names_step, names_stop}
use Rattle.jt_cursor.proofs.targets.parameters.Goals as goal

pub loop-expr-preserved : goal.loop-expr-preserved
loop-expr-preserved c =
    let same = c.as_slice-expr-items.ensures in
    let named : Some c.in-Some.name.now ≡ name_of (view c.expr-item.result) = search rules in
    let copy : c.in_ok-copied.field-0 ≡ c.in-Some.name.now = search rules in
    names_step (parameters (views c.args.exprs.now)) c.loop-expr.found c.push.new.self c.args.exprs.now c.loop-expr.expr-index c.expr-item.result c.in_ok-copied.field-0
    (rw same at c.loop-expr-test.true) (rw same at c.expr-item.is) (ap Some copy ∙ named) c.in_ok-push.ensures.ok c.loop-expr.invariant

pub returns-in_default : goal.returns-in_default
returns-in_default c =
    let same = c.as_slice-expr-items.ensures in
    let none : None ≡ name_of (view c.expr-item.result) = search rules in
    names_stop (parameters (views c.args.exprs.now)) c.loop-expr.found c.args.exprs.now c.loop-expr.expr-index c.expr-item.result
    (rw same at c.loop-expr-test.true) (rw same at c.expr-item.is) none c.loop-expr.invariant
