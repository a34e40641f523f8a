use Rattle.std.proofs.Common.{◌∙◌, Ok, sym, ap}
use Rattle.jt_syntax.specs.Tree as tree
use Rattle.jt_syntax.specs.View.{view}
use Rattle.jt_syntax.proofs.Views.{view-Guard}
use Rattle.jt_grammar.specs.Reader.{and_then, pure}
use Rattle.jt_expressions.specs.Chains.{terms_view}
use Rattle.jt_statements.proofs.phrases.Phrases.jumped.Goals as goal

pub returns : goal.returns
returns g c =
    ap (λ o. and_then o (λ j. pure (tree.guard c.args.connective (view c.args.first) (terms_view c.args.operands) j))) c.in_ok-jump.ensures
    ∙ ap (λ z. Ok (z, c.leap.new.tokens)) (sym (view-Guard c.args.connective c.args.first c.args.operands c.in_ok-jump.jump))
