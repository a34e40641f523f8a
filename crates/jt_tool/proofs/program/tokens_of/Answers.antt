use Rattle.jt_printer.proofs.Whole.{ends_with_stop}
use Rattle.jt_tool.proofs.program.tokens_of.Goals as goal

pub returns-clause-whole : goal.returns-clause-whole
returns-clause-whole c = ends_with_stop c.args.text.now c.in_ok-tokens.tokens.items c.in_ok-tokens.ensures.whole
