use Rattle.std.proofs.Common.{[], subst}
use Rattle.jt_syntax.specs.View.{connective_class}
use Rattle.jt_grammar.specs.Reader.{guarded_from}
use Rattle.jt_expressions.specs.Chains.{tighter_than}
use Rattle.jt_expressions.specs.Guards.{guarded_view}
use Rattle.jt_expressions.specs.Nested.{nested}
use Rattle.jt_cursor.specs.Parses.{Parses}
use Rattle.jt_expressions.proofs.Chains.{guarded_start}
use Rattle.jt_expressions.proofs.rules.Rules.guarded.Goals as goal

pub returns : goal.returns
returns g c =
    let t = c.args.self.now.turns in
    let d = c.args.self.now.depth in
    let k = connective_class c.args.connective in
    subst (λ o. Parses guarded_view o c.guarded_by.result c.guarded_by.new.tokens) (guarded_start k (nested tighter_than t d k) t c.args.tokens.now)
    (subst (λ z. Parses guarded_view (guarded_from z (nested tighter_than t d z) t [] c.args.tokens.now) c.guarded_by.result c.guarded_by.new.tokens) c.class.ensures c.guarded_by.ensures)
