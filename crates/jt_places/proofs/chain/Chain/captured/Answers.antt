-- What the scope captured where the function or task's body began.
use Rattle.jt_places.proofs.SlotTests.{captured_answer}
use Rattle.jt_places.proofs.chain.Chain.captured.Goals as goal

pub returns : goal.returns
returns c = captured_answer c.args.self.now c.args.name.now c.standing.result c.capture_at.result c.standing.ensures c.capture_at.ensures
