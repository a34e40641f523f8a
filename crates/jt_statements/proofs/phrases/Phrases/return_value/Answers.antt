use Rattle.std.proofs.Common.{◌∙◌, Ok, sym, ap}
use Rattle.jt_syntax.specs.Tree as tree
use Rattle.jt_grammar.specs.Reader.{and_then, pure}
use Rattle.jt_statements.proofs.Options.{view-Return}
use Rattle.jt_statements.proofs.phrases.Phrases.return_value.Goals as goal

pub returns : goal.returns
returns g c =
    ap (λ o. and_then o (λ e. pure (tree.return_value c.args.at e))) c.in_ok-whole.ensures
    ∙ ap (λ z. Ok (z, c.whole.new.tokens)) (sym (view-Return c.args.at c.in_ok-whole.field-0))
