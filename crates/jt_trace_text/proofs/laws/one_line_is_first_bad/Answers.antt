use Rattle.jt_trace_text.specs.Texts.{IsText}
use Rattle.jt_trace_text.proofs.OneLine.{one_line}
use Rattle.jt_trace_text.proofs.laws.one_line_is_first_bad.Goals as goal

pub returns : goal.returns
returns c = one_line IsText
