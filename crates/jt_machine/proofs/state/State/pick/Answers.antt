-- One is taken out.
use Rattle.jt_machine.proofs.state.State.pick.Goals as goal

pub returns-clause-ready : goal.returns-clause-ready
returns-clause-ready c = c.take.ensures
