-- By what follows.
use Rattle.std.proofs.Common.{rules}
use Rattle.jt_machine.proofs.Following.{ended_by, over_by, yields_by, goes_on_by, makes_by}
use Rattle.jt_machine.proofs.state.State.follow.Goals as goal

pub returns-in-Ends : goal.returns-in-Ends
returns-in-Ends c = ended_by _ _ _ _ _ _ _ _ c.requires.settled c.in_ok-wake.ensures _ c.requires.replied c.in-Ends.end c.in-Ends.is

pub returns-in-Over : goal.returns-in-Over
returns-in-Over c = over_by _ _ _ _ _ _ _ _ c.requires.settled c.in_ok-wake.ensures _ c.requires.replied c.in-Over.is

pub returns-in-Yields : goal.returns-in-Yields
returns-in-Yields c = yields_by _ _ _ _ _ _ _ _ c.requires.settled c.in_ok-wake.ensures _ c.requires.replied _ (search rules) c.in-Yields.is

pub returns-in-GoesOn : goal.returns-in-GoesOn
returns-in-GoesOn c = goes_on_by _ _ _ _ _ _ _ _ c.requires.settled c.in_ok-wake.ensures _ c.requires.replied c.in-GoesOn.is

pub returns : goal.returns
returns c = makes_by _ _ _ _ _ _ _ _ c.requires.settled c.in_ok-wake.ensures _ c.requires.replied _ _ (search rules) c.in-Makes.is
