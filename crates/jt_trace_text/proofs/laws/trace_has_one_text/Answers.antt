use Rattle.jt_trace_text.proofs.OneText.{one_text}
use Rattle.jt_trace_text.proofs.laws.trace_has_one_text.Goals as goal

pub returns : goal.returns
returns c = one_text
