use Rattle.jt_trace_text.proofs.Found.{one_trace}
use Rattle.jt_trace_text.proofs.laws.text_has_one_trace.Goals as goal

pub returns : goal.returns
returns c = one_trace
