use Rattle.jt_statements.proofs.read.+nesting.Given as goal

abbrev pub decreases-read : goal.decreases-read
decreases-read l = l.depth

abbrev pub decreases-read_step : goal.decreases-read_step
decreases-read_step l = l.depth
