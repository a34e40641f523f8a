use Rattle.std.proofs.Common.{◌∙◌, ap, codes}
use Rattle.std.specs.Str.{bytes_eq}
use Rattle.jt_expressions.proofs.Calls.{alone_not, alone_tested}
use Rattle.jt_expressions.proofs.notified.is_notified_alone.Goals as goal

pub returns-then-arguments-ne1 : goal.returns-then-arguments-ne1
returns-then-arguments-ne1 c = alone_not c.args.name.now c.args.arguments.now c.if-arguments-ne1.true

pub returns : goal.returns
returns c = c.is_spelled.ensures ∙ (ap (λ z. bytes_eq z (codes "notify")) c.as_slice.ensures ∙ alone_tested c.args.name.now c.args.arguments.now c.if-arguments-ne1.false)
