-- Each entry raises a level, and the number of waits, by at most one.
use Rattle.jt_conditions.proofs.EntryCounts.{condition_level, condition_waits}
use Rattle.jt_conditions.proofs.bounds.condition_counts_within_entries.Goals as goal

pub returns : goal.returns
returns c = record { level = condition_level; waits = condition_waits }
