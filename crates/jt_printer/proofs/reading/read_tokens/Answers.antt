use Rattle.std.proofs.Common.{ap, ◌∙◌}
use Rattle.jt_grammar.specs.Printed.{bare_script}
use Rattle.jt_printer.proofs.Whole.{same_unrefused, unexpected_is_none, too_deep_is_none}
use Rattle.jt_printer.proofs.reading.read_tokens.Goals as goal

pub returns-in-Ok-clause-again : goal.returns-in-Ok-clause-again
returns-in-Ok-clause-again c = λ tops same. ap bare_script (c.in-Ok.ensures.only same.0 same.1.0) ∙ same.2

pub returns-in-Err-Unexpected-clause-again : goal.returns-in-Err-Unexpected-clause-again
returns-in-Err-Unexpected-clause-again c = λ tops same. same_unrefused tops c.args.tokens.now c.in-Err-Unexpected.field-0 same c.in-Err-Unexpected.ensures.refused (unexpected_is_none c.in-Err-Unexpected.field-0 c.in-Err-Unexpected.field-0-0 c.in-Err-Unexpected.field-0-is)

pub returns-in-Err-TooDeep-clause-again : goal.returns-in-Err-TooDeep-clause-again
returns-in-Err-TooDeep-clause-again c = λ tops same. same_unrefused tops c.args.tokens.now c.in-Err-TooDeep.field-0 same c.in-Err-TooDeep.ensures.refused (too_deep_is_none c.in-Err-TooDeep.field-0 c.in-Err-TooDeep.field-0-0 c.in-Err-TooDeep.field-0-is)
