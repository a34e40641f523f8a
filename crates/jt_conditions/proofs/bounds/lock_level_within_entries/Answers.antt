-- Each entry raises a level by at most one.
use Rattle.jt_conditions.proofs.EntryCounts.{lock_level}
use Rattle.jt_conditions.proofs.bounds.lock_level_within_entries.Goals as goal

pub returns : goal.returns
returns c = lock_level
