use Rattle.jt_trace.proofs.Top.{is_found, is_only, is_bad}
use Rattle.jt_trace.proofs.reading.read_trace.Goals as goal

pub returns-clause-found : goal.returns-clause-found
returns-clause-found c = is_found c.args.text.now c.from_format.result c.from_format.ensures

pub returns-clause-only : goal.returns-clause-only
returns-clause-only c = is_only c.args.text.now c.from_format.result c.from_format.ensures

pub returns-clause-bad : goal.returns-clause-bad
returns-clause-bad c = is_bad c.args.text.now c.from_format.result c.utf8.text c.from_format.ensures
